use Rattle.std.proofs.Common.{arith, ◌≡◌, ◌∙◌, ◌≤◌, ◌<◌, ◌+◌, ◌++◌, ◌∷◌, ℕ, List, take, drop, Some, sym, subst}
use Rattle.std.specs.Prelude.{IsTrue, Ok}
use Rattle.gaz_tree.specs.declared.place.Place.{Place}
use Rattle.gaz_leaf.specs.declared.kind.Kind.TheVariants.{Leaf}
use Rattle.gaz_leaf.specs.Node.{Pair, IsForm, pairs_in, key_in, key_of}
use Rattle.gaz_tree.specs.Pairs.{lookup, put}
use Rattle.gaz_tree.specs.Tree.{leaf_of}
use Rattle.gaz_tree.specs.Put.{inserted, Adds, IsAdded, Places}
use Rattle.gaz_tree.proofs.Leaves.{IsLeafOf}
use Rattle.gaz_tree.proofs.PutNamed.{put_leaf_taken}
use Rattle.gaz_tree.proofs.Answered.{leaf_answered, leaf_over, no_damage}
use Rattle.gaz_page.proofs.Takes.{along_same, along_more}
use Rattle.gaz_tree.proofs.Removes.{ok_map}
use Rattle.gaz_tree.proofs.Along.{along_over}
use Rattle.gaz_tree.proofs.put.put_leaf.Goals as goal

pub returns-in-Ok-clause-puts : goal.returns-in-Ok-clause-puts
returns-in-Ok-clause-puts g c told low high head lo hi lies chain =
    let v = g.P.Pages.view in
    let old = v c.args.pages.now in
    let reads = c.in-Ok-Over.ensures.reads in
    let same = reads.same (λ failed. failed) told in
    let still : IsTrue (v c.load_place.new.pages).is_told = subst IsTrue (sym reads.counts.told) told in
    let page = c.args.page in
    let n = c.in-Ok-Over.n in
    let key = c.read.ensures.is in
    let p : Pair = record { key = key_of c.args.key.now; value = c.args.value } in
    let place = subst (λ (f : Place). Places (leaf_of old.page page) (record { key = key_in c.read.result; value = c.args.value }) (Ok f)) c.in-Ok-Over.field-0-is
    (c.in-Ok-Over.ensures.place told low high head.0 head.1 (subst (λ (k : ℕ). low ≤ k) (sym key) lo) (subst (λ (k : ℕ). k < high) (sym key) hi)) in
    let there : put p (leaf_of old.page page) ≡ take n (leaf_of old.page page) ++ p ∷ drop (n + 1) (leaf_of old.page page) =
    subst (λ (k : ℕ). put (record { key = k; value = c.args.value }) (leaf_of old.page page) ≡ take n (leaf_of old.page page) ++ record { key = k; value = c.args.value } ∷ drop (n + 1) (leaf_of old.page page)) key place.0 in
    let l : IsLeafOf old page low high p = record {
      head = head;
      start = lo;
      end = hi;
      lies = lies;
      chain = chain;
      differs = subst (λ (k : ℕ). lookup k (leaf_of old.page page) ≡ Some c.args.value → ⊥) key place.1;
    } in
    let bytes = c.in-Ok-Over.ensures.bytes told in
    let added = c.in-Ok.ensures.over still (subst (IsForm Leaf page) (sym bytes) head.0) in
    leaf_over old (v c.load_place.new.pages) (v c.put_over.new.pages) page low high p (take n (leaf_of old.page page) ++ p ∷ drop (n + 1) (leaf_of old.page page)) same l there
    (subst (λ (b : List ℕ). IsAdded Leaf page (take n (pairs_in Leaf b) ++ p ∷ drop (n + 1) (pairs_in Leaf b)) (v c.load_place.new.pages) (v c.put_over.new.pages)) bytes added)

pub returns-in-Ok-Between-clause-puts : goal.returns-in-Ok-Between-clause-puts
returns-in-Ok-Between-clause-puts g c told low high head lo hi lies chain =
    let v = g.P.Pages.view in
    let old = v c.args.pages.now in
    let reads = c.in-Ok-Between.ensures.reads in
    let same = reads.same (λ failed. failed) told in
    let still : IsTrue (v c.load_place.new.pages).is_told = subst IsTrue (sym reads.counts.told) told in
    let page = c.args.page in
    let n = c.in-Ok-Between.n in
    let key = c.read.ensures.is in
    let p : Pair = record { key = key_of c.args.key.now; value = c.args.value } in
    let place = subst (λ (f : Place). Places (leaf_of old.page page) (record { key = key_in c.read.result; value = c.args.value }) (Ok f)) c.in-Ok-Between.field-0-is
    (c.in-Ok-Between.ensures.place told low high head.0 head.1 (subst (λ (k : ℕ). low ≤ k) (sym key) lo) (subst (λ (k : ℕ). k < high) (sym key) hi)) in
    let there : put p (leaf_of old.page page) ≡ inserted n p (leaf_of old.page page) =
    subst (λ (k : ℕ). put (record { key = k; value = c.args.value }) (leaf_of old.page page) ≡ inserted n (record { key = k; value = c.args.value }) (leaf_of old.page page)) key place.0 in
    let l : IsLeafOf old page low high p = record {
      head = head;
      start = lo;
      end = hi;
      lies = lies;
      chain = chain;
      differs = subst (λ (k : ℕ). lookup k (leaf_of old.page page) ≡ Some c.args.value → ⊥) key place.1;
    } in
    let bytes = c.in-Ok-Between.ensures.bytes told in
    let mid = v c.load_place.new.pages in
    let here : c.load_place.new.buf ≡ mid.page page = bytes ∙ (λ j. sym same.pages j page) in
    let added = c.add_to.ensures.adds still (subst (IsForm Leaf page) (sym bytes) head.0) in
    leaf_answered old mid (v c.add_to.new.pages) page low high n p c.add_to.result same l there
    (subst (λ (b : List ℕ). Adds Leaf page (inserted n p (pairs_in Leaf b)) mid (v c.add_to.new.pages) c.add_to.result) here added) (c.add_to.ensures.damaged still)

pub returns-in-Err-put_over-clause-puts : goal.returns-in-Err-put_over-clause-puts
returns-in-Err-put_over-clause-puts g c told low high head lo hi lies chain =
    let v = g.P.Pages.view in
    no_damage (v c.args.pages.now) (v c.put_over.new.pages) 0 c.args.page low high (record { key = key_of c.args.key.now; value = c.args.value }) c.in-Err-put_over.fault c.in-Err-put_over.ensures.fine

pub returns-in-Ok-Between-clause-names : goal.returns-in-Ok-Between-clause-names
returns-in-Ok-Between-clause-names g c told =
    let v = g.P.Pages.view in
    let reads = c.in-Ok-Between.ensures.reads in
    let still : IsTrue (v c.load_place.new.pages).is_told = subst IsTrue (sym reads.counts.told) told in
    put_leaf_taken (v c.args.pages.now) (v c.load_place.new.pages) (v c.add_to.new.pages) c.args.page c.add_to.result (reads.same (λ failed. failed) told) (c.add_to.ensures.damaged still)

pub returns-in-Ok-There-clause-along : goal.returns-in-Ok-There-clause-along
returns-in-Ok-There-clause-along g c told =
    let v = g.P.Pages.view in
    let old = v c.args.pages.now in
    let new = v c.load_place.new.pages in
    along_more 0 1 old new (omega arith) (along_same old new (c.in-Ok-There.ensures.reads.same (λ failed. failed) told))

pub returns-in-Ok-clause-along : goal.returns-in-Ok-clause-along
returns-in-Ok-clause-along g c told =
    let v = g.P.Pages.view in
    let mid = v c.load_place.new.pages in
    let new = v c.put_over.new.pages in
    let reads = c.in-Ok-Over.ensures.reads in
    let still : IsTrue mid.is_told = subst IsTrue (sym reads.counts.told) told in
    let same = reads.same (λ failed. failed) told in
    let here : c.load_place.new.buf ≡ mid.page c.args.page = c.in-Ok-Over.ensures.bytes told ∙ (λ j. sym same.pages j c.args.page) in
    along_over 1 (v c.args.pages.now) mid new same (along_more 0 1 mid new (omega arith) (c.in-Ok.ensures.along still here c.in-Ok-Over.ensures.own.0))

pub returns-in-Ok-Between-clause-along : goal.returns-in-Ok-Between-clause-along
returns-in-Ok-Between-clause-along g c = ok_map _ _ c.add_to.result (λ along told.
    let v = g.P.Pages.view in
    let mid = v c.load_place.new.pages in
    let reads = c.in-Ok-Between.ensures.reads in
    let still : IsTrue mid.is_told = subst IsTrue (sym reads.counts.told) told in
    let same = reads.same (λ failed. failed) told in
    let here : c.load_place.new.buf ≡ mid.page c.args.page = c.in-Ok-Between.ensures.bytes told ∙ (λ j. sym same.pages j c.args.page) in
    along_over 1 (v c.args.pages.now) mid (v c.add_to.new.pages) same (along still here c.in-Ok-Between.ensures.own.0))
    c.add_to.ensures.along
