use Rattle.std.proofs.Common.{◌≡◌, ◌≢◌, ◌<◌, ◌≤◌, ◌+◌, ℕ, length, get_or, ap, sym, ◌∙◌, subst, arith, rules}
use Rattle.std.proofs.Math.Logic.{∥∥₁_elim, ∥∥₁_map}
use Rattle.std.proofs.Props.{props}
use Rattle.std.proofs.lemmas.Grind.{get_or_default_zero}
use Rattle.gaz_places.specs.declared.places.Link.{Link}
use Rattle.gaz_places.specs.Places.{found_in}
use Rattle.gaz_places.specs.Chains.{nowhere, free_link, link_at, bucket_of, Linked}
use Rattle.gaz_places.proofs.Found.{any_default}
use Rattle.gaz_places.proofs.Walk.{Walk, walk_start, walk_on, walk_within, walk_found, walk_none, walk_all, leads_prop}
use Rattle.gaz_places.proofs.places.Places.find.Goals as goal

-- the walk begins at the head of the key's bucket
pub loop-step-init : goal.loop-step-init
loop-step-init c =
    let self = c.args.self.now in
    let home = bucket_of (length self.links.items) c.args.key in
    let is : c.bucket.result ≡ home = c.bucket.ensures.is ∙ ap (λ (n : ℕ). bucket_of n c.args.key) (c.len.ensures ∙ self.heads.ok.0 ∙ self.sizes) in
    let within = c.bucket.ensures.within in
    let fits : c.bucket.result < length self.heads.items = omega (arith, within, c.len.ensures, self.heads.ok.0) in
    let head : c.index-place.result.now ≡ get_or self.heads.items home 0 = c.index-place.ensures ∙ get_or_default_zero self.heads.items c.bucket.result c.index-place.result.now fits ∙ ap (λ (b : ℕ). get_or self.heads.items b 0) is in
    ∥∥₁_map self.linked (λ (linked : Linked self.heads.items self.links.items).
    subst (λ (place : ℕ). Walk self.heads.items self.links.items c.args.key 0 nowhere place) (sym head) (walk_start self.heads.items self.links.items self.few c.args.key linked (omega (arith, fits, is, self.sizes))))

pub returns-then-place-clause-none : goal.returns-then-place-clause-none
unfolding found_in
returns-then-place-clause-none c = λ none.
    let self = c.args.self.now in
    let end : c.loop-step.place ≡ nowhere = search rules in
    ∥∥₁_elim c.loop-step.invariant (hlevel props) (λ (walk : Walk self.heads.items self.links.items c.args.key c.loop-step._step c.loop-step.before c.loop-step.place).
    walk_none self.heads.items self.links.items self.few c.args.key c.loop-step._step c.loop-step.before c.loop-step.place walk end)

pub index-link-requires : goal.index-link-requires
index-link-requires c =
    let self = c.args.self.now in
    let some : c.loop-step.place ≢ nowhere = search rules in
    let within : c.loop-step.place < length self.links.items = ∥∥₁_elim c.loop-step.invariant (hlevel props) (λ (walk : Walk self.heads.items self.links.items c.args.key c.loop-step._step c.loop-step.before c.loop-step.place).
    walk_within self.heads.items self.links.items self.few c.args.key c.loop-step._step c.loop-step.before c.loop-step.place walk some) in
    omega (arith, within, self.links.ok.0)

-- the link has the key
pub returns-then-link-key-clause-found : goal.returns-then-link-key-clause-found
unfolding found_in
returns-then-link-key-clause-found c =
    let self = c.args.self.now in
    let some : c.loop-step.place ≢ nowhere = search rules in
    let read = c.index-link.ensures in
    let key : c.index-link.result.now.key ≡ c.args.key = search rules in
    ∥∥₁_elim c.loop-step.invariant (hlevel props) (λ (walk : Walk self.heads.items self.links.items c.args.key c.loop-step._step c.loop-step.before c.loop-step.place).
    let within = walk_within self.heads.items self.links.items self.few c.args.key c.loop-step._step c.loop-step.before c.loop-step.place walk some in
    let at : c.index-link.result.now ≡ link_at self.links.items c.loop-step.place = read ∙ any_default self.links.items c.loop-step.place c.index-link.result.now free_link within in
    walk_found self.heads.items self.links.items self.few c.args.key c.loop-step._step c.loop-step.before c.loop-step.place walk some (ap (λ (l : Link). l.key) (sym at) ∙ key))

pub returns-then-link-key-clause-leads : goal.returns-then-link-key-clause-leads
returns-then-link-key-clause-leads c =
    let self = c.args.self.now in
    ∥∥₁_elim c.loop-step.invariant (leads_prop self.heads.items self.links.items (bucket_of (length self.links.items) c.args.key) c.loop-step.before c.loop-step.place)
    (λ (walk : Walk self.heads.items self.links.items c.args.key c.loop-step._step c.loop-step.before c.loop-step.place). walk.leads)

-- a step on
pub loop-step-preserved : goal.loop-step-preserved
loop-step-preserved c =
    let self = c.args.self.now in
    let some : c.loop-step.place ≢ nowhere = search rules in
    let read = c.index-link.ensures in
    let differs : c.index-link.result.now.key ≢ c.args.key = search rules in
    ∥∥₁_map c.loop-step.invariant (λ (walk : Walk self.heads.items self.links.items c.args.key c.loop-step._step c.loop-step.before c.loop-step.place).
    let within = walk_within self.heads.items self.links.items self.few c.args.key c.loop-step._step c.loop-step.before c.loop-step.place walk some in
    let at : c.index-link.result.now ≡ link_at self.links.items c.loop-step.place = read ∙ any_default self.links.items c.loop-step.place c.index-link.result.now free_link within in
    subst (λ (next : ℕ). Walk self.heads.items self.links.items c.args.key (c.loop-step._step + 1) c.loop-step.place next) (ap (λ (l : Link). l.next) (sym at))
    (walk_on self.heads.items self.links.items self.few c.args.key c.loop-step._step c.loop-step.before c.loop-step.place walk some (λ same. differs (ap (λ (l : Link). l.key) at ∙ same))))

-- as many steps as there are places came to the end
pub returns-clause-none : goal.returns-clause-none
unfolding found_in
returns-clause-none c = λ none.
    let self = c.args.self.now in
    let steps : length self.links.items ≤ c.loop-step._step = omega (arith, self.links.ok.0) in
    ∥∥₁_elim c.loop-step.invariant (hlevel props) (λ (walk : Walk self.heads.items self.links.items c.args.key c.loop-step._step c.loop-step.before c.loop-step.place).
    walk_all self.heads.items self.links.items self.few c.args.key c.loop-step._step c.loop-step.before c.loop-step.place walk steps)
