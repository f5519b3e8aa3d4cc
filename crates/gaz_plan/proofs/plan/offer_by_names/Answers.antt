use Rattle.std.proofs.Common.{◌≡◌, ◌≤◌, ◌+◌, ◌-◌, ◌*◌, ◌^◌, ℕ, List, length, ap, subst, arith, ◌∙◌}
use Rattle.gaz_pick.specs.Asked.{asked}
use Rattle.gaz_plain.specs.Search.{matches}
use Rattle.gaz_leaf.specs.Node.{key_of}
use Rattle.gaz_scan.specs.Ranges.{between}
use Rattle.gaz_keys.specs.Keys.{IsKey, text_key}
use Rattle.gaz_keys.specs.Parts.{tag_of}
use Rattle.gaz_kin.proofs.Offered.{on_ok}
use Rattle.gaz_plan.specs.Seen.{SeesMore}
use Rattle.gaz_plan.specs.Wanted.{wanted_of, least_front, greatest_front}
use Rattle.gaz_plan.specs.Gathered.{IsReadOnce, candidates_of, is_gathered}
use Rattle.gaz_plan.proofs.FewNames.{alike_places, alternates_few, have_places, most_gathered, most_named, names_few, names_twice, places_long}
use Rattle.gaz_plan.proofs.Naming.{text_tag, named_keys, match_among, something}
use Rattle.gaz_plan.proofs.Offering.{sees}
use Rattle.gaz_plan.proofs.plan.offer_by_names.Goals as goal

pub offer_names-requires-clause-low : goal.offer_names-requires-clause-low
offer_names-requires-clause-low g c = ap tag_of c.text_key-low.ensures ∙ text_tag _ _ _ _

pub offer_names-requires-clause-high : goal.offer_names-requires-clause-high
offer_names-requires-clause-high g c = ap tag_of c.text_key-high.ensures ∙ text_tag _ _ _ _

pub returns-clause-more : goal.returns-clause-more
returns-clause-more g c =
    let v = g.P.Pages.view c.args.store.now.pages in
    let root = c.args.store.now.root in
    let a = asked c.args.query.now in
    let keep = c.args.best.now.keep in
    let test = wanted_of a.name in
    let low : c.text_key-low.result ≡ text_key (least_front test) 0 0 0 = c.text_key-low.ensures ∙ ap (λ (f : List ℕ). text_key f 0 0 0) (c.least_front.ensures ∙ ap least_front c.requires.wanted) in
    let high : c.text_key-high.result ≡ text_key (greatest_front test) 255 (2 ^ 32 - 1) (2 ^ 32 - 1) = c.text_key-high.ensures ∙ ap (λ (f : List ℕ). text_key f 255 (2 ^ 32 - 1) (2 ^ 32 - 1)) (c.greatest_front.ensures ∙ ap greatest_front c.requires.wanted) in
    on_ok _ _ c.offer_names.result (λ over told gaz stands.
    let among = λ (l h : List ℕ). is_gathered a (candidates_of gaz a (between (key_of l) (key_of h) stands.pairs)) in
    sees gaz stands.is_gazetteer a keep (is_gathered a (candidates_of gaz a (named_keys gaz v root stands a))) (matches gaz a) c.args.best.now.pairs c.offer_names.new.best.pairs
    (subst (λ (h : List ℕ). SeesMore gaz a keep (among (text_key (least_front test) 0 0 0) h) c.args.best.now.pairs c.offer_names.new.best.pairs) high
    (subst (λ (l : List ℕ). SeesMore gaz a keep (among l c.text_key-high.result) c.args.best.now.pairs c.offer_names.new.best.pairs) low
    (over told gaz stands)))
    (λ row at is_one same. match_among gaz v root stands a (something a.name c.requires.named) row at is_one))
    c.offer_names.ensures.more

pub returns-clause-reads : goal.returns-clause-reads
returns-clause-reads g c told gaz stands =
    let v = g.P.Pages.view c.args.store.now.pages in
    let now = g.P.Pages.view c.offer_names.new.store.pages in
    let root = c.args.store.now.root in
    let a = asked c.args.query.now in
    let test = wanted_of a.name in
    let low : c.text_key-low.result ≡ text_key (least_front test) 0 0 0 = c.text_key-low.ensures ∙ ap (λ (f : List ℕ). text_key f 0 0 0) (c.least_front.ensures ∙ ap least_front c.requires.wanted) in
    let high : c.text_key-high.result ≡ text_key (greatest_front test) 255 (2 ^ 32 - 1) (2 ^ 32 - 1) = c.text_key-high.ensures ∙ ap (λ (f : List ℕ). text_key f 255 (2 ^ 32 - 1) (2 ^ 32 - 1)) (c.greatest_front.ensures ∙ ap greatest_front c.requires.wanted) in
    let low_fits = subst IsKey low c.offer_names.ensures.low in
    let high_fits = subst IsKey high c.offer_names.ensures.high in
    let few = names_few gaz v root stands a low_fits high_fits in
    let keys = λ (l h : List ℕ). between (key_of l) (key_of h) stands.pairs in
    let places = alike_places gaz v root stands a low_fits high_fits in
    let read =
    subst (λ (h : List ℕ). now.reads ≤ v.reads + 64 * (length (keys (text_key (least_front test) 0 0 0) h) + 1)) high
    (subst (λ (l : List ℕ). now.reads ≤ v.reads + 64 * (length (keys l c.text_key-high.result) + 1)) low
    (c.offer_names.ensures.reads told gaz stands)) in
    let once =
    subst (λ (h : List ℕ). IsReadOnce gaz a (keys (text_key (least_front test) 0 0 0) h) v.reads now.reads) high
    (subst (λ (l : List ℕ). IsReadOnce gaz a (keys l c.text_key-high.result) v.reads now.reads) low
    (c.offer_names.ensures.once told gaz stands)) in
    let most = most_named gaz a.name c.requires.named a.edges in
    let all =
    most_gathered gaz a.name (now.reads - v.reads)
    (λ together.
    let more = once (omega (arith, few, together)) places (have_places gaz v root stands a low_fits high_fits) in
    let long = places_long gaz v root stands a low_fits high_fits in
    let others = alternates_few gaz v root stands a low_fits high_fits in
    let twice = names_twice gaz a.name in
    omega (arith, more, long, others, few, twice))
    (omega (arith, few, read)) in
    omega (arith, all, most)
