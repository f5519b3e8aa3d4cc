-- Of pages that stand for a gazetteer only those below the least one never taken matter.
use Rattle.std.proofs.Common.{◌≡◌, ◌≤◌, ◌<◌, ◌-◌, ◌^◌, ℕ, zero, suc, true, false, List, [], ◌∷◌, Some, refl, sym, ap, ◌∙◌, subst, arith, inl}
use Rattle.std.specs.Prelude.{Contains, IsTrue, option_and_then}
use Rattle.gaz_num.specs.Pieces.{column}
use Rattle.gaz_num.specs.declared.words.Table.{Table}
use Rattle.gaz_plain.specs.Gazetteer.{Gazetteer, lines_in, IsLine, kind_in}
use Rattle.std.proofs.lemmas.List.Elements.{All-contains}
use Rattle.gaz_keys.specs.Keys.{IsKey}
use Rattle.gaz_page.specs.declared.tree_root.Root.{Root}
use Rattle.gaz_page.specs.Free.{free_link}
use Rattle.gaz_page.specs.Pages.{PagesView}
use Rattle.gaz_page.specs.Chains.{InUse}
use Rattle.gaz_leaf.specs.Node.{key_of, count_of}
use Rattle.gaz_tree.specs.Pairs.{lookup}
use Rattle.gaz_tree.specs.Tree.{IsTop, HasTwo}
use Rattle.gaz_tree.proofs.Fans.{Stays, head_stays, pairs_stay}
use Rattle.gaz_tree.proofs.Changed.{reach_back, reach_on}
use Rattle.gaz_slots.specs.RecordPage.{is_record_page, is_used}
use Rattle.gaz_heap.specs.Place.{record_at, pages_of}
use Rattle.gaz_heap.proofs.Holds.{record_still}
use Rattle.gaz_heap.proofs.LongPuts.{each_at, each_from}
use Rattle.gaz_keys.specs.Parts.{has_place, tag_of}
use Rattle.gaz_keys.proofs.Tags.{tag_at, tag_has_place}
use Rattle.gaz_rows.specs.Index.{line_key}
use Rattle.gaz_rows.specs.Stands.{Use, tree, slots, chain, free, IsFor, IsFreeChain, AreUsedOnce, StandsFor, value_in, places_in}
use Rattle.gaz_rows.specs.Laid.{IsLaid}
use Rattle.gaz_rows.proofs.Got.{value_is}
use Rattle.gaz_rows.proofs.Members.{head_is_in, tail_is_in}
use Rattle.gaz_rows.proofs.LaidStands.{are_laid_so}
use Rattle.gaz_rows.proofs.PairsPlaces.{at_place, tag_key}
use Rattle.gaz_rows.proofs.Fit.{key_fits}
use Rattle.gaz_rows.proofs.Reindexed.{is_placed}

-- pages of which this is told alone, as a view
abbrev view_of : (ℕ → List ℕ) → Root → PagesView
view_of pages root = record { is_told = true; page = pages; free = root.free; fresh = root.fresh; faults = 0; is_starved = false; reads = 0; changed = 0; is_read_only = true }

free_chain_stays : (old new : ℕ → List ℕ) (first : ℕ) (frees : List ℕ) → ((n : ℕ) → Contains frees n → new n ≡ old n) → IsFreeChain old first frees → IsFreeChain new first frees
free_chain_stays old new first [] same linked = linked
free_chain_stays old new first (page ∷ more) same linked =
    (linked.0, (linked.1.0, ap (free_link page) (same page (head_is_in page more)) ∙ linked.1.1, free_chain_stays old new linked.1.0 more (λ n has. same n (tail_is_in page more n has)) linked.1.2))

two_stays : (old new : ℕ → List ℕ) (level top : ℕ) → Stays old new level top → HasTwo old level top → HasTwo new level top
two_stays old new zero top same two = tt
two_stays old new (suc level) top same two = subst (λ (p : List ℕ). 2 ≤ count_of p) (sym (same top (inl refl))) two

module _ (gaz : Gazetteer) (old new : ℕ → List ℕ) (root : Root) (stands : StandsFor gaz old root) (same : (n : ℕ) → 1 ≤ n → n < root.fresh → new n ≡ old n) where
  abbrev Places : List ℕ
  Places = places_in stands.pairs

  abbrev Kept : List ℕ
  Kept = root.heap ∷ []

  abbrev For : (ℕ → List ℕ) → Use → ℕ → Type 0
  For pages what page = IsFor pages root Kept Places stands.used_once.frees what page

  laid : IsLaid (view_of old root) root stands.pairs Kept Places
  laid = are_laid_so [] gaz (view_of old root) root stands

  -- pages that are for something stay
  still : (what : Use) (n : ℕ) → For old what n → new n ≡ old n
  still what n is = let low = stands.used_once.in_range n what is in same n low.0 low.1

  tree_stays : Stays old new (root.height - 1) root.top
  tree_stays n reach = still tree n reach

  record_stays : (place : ℕ) → Contains Places place → (record_at new place ≡ record_at old place) × (pages_of new place ≡ pages_of old place)
  record_stays place has =
      let held = laid.held place has in
      let stays = record_still old new place held.0 held.1.at
      (each_from (λ n. new n ≡ old n) (pages_of old place) (λ n among. let low = each_at (InUse (view_of old root)) (pages_of old place) n held.1.pages among in same n low.0 low.1)) in
      (stays.0 ∙ sym held.1.at, stays.1)

  on : (what : Use) (n : ℕ) → For old what n → For new what n
  on tree n is = reach_on old new (root.height - 1) root.top n tree_stays is
  on slots n is = is
  on (chain place) n is = (is.0, is.1, subst (λ (l : List ℕ). Contains l n) (sym (record_stays place is.0).1) is.2)
  on free n is = is

  back : (what : Use) (n : ℕ) → For new what n → For old what n
  back tree n is = reach_back old new (root.height - 1) root.top n tree_stays is
  back slots n is = is
  back (chain place) n is = (is.0, is.1, subst (λ (l : List ℕ). Contains l n) (record_stays place is.0).1 is.2)
  back free n is = is

  used_once : AreUsedOnce new root Kept Places
  used_once =
      let was = stands.used_once in
      record {
        frees = was.frees;
        free_chain = free_chain_stays old new root.free was.frees (λ n has. still free n has) was.free_chain;
        used = λ n some below. let is = was.used n some below in (is.0, on is.0 n is.1);
        once = λ n one other is also. was.once n one other (back one n is) (back other n also);
        in_range = λ n what is. was.in_range n what (back what n is);
        in_form = λ n has. subst (λ (p : List ℕ). is_record_page n p ≡ true) (sym (still slots n has)) (was.in_form n has);
        no_more = λ n slot has is. was.no_more n slot has (subst (λ (p : List ℕ). IsTrue (is_used p slot)) (still slots n has) is);
      }

  tree_is : IsTop new root.height root.top stands.pairs
  tree_is =
      let was = stands.tree in
      let tall = was.tall in
      let is : root.height - 1 ≡ was.level = omega (arith, tall) in
      let stays : Stays old new was.level root.top = subst (λ (l : ℕ). Stays old new l root.top) is tree_stays in
      record {
        level = was.level;
        tall = was.tall;
        shallow = was.shallow;
        head = head_stays old new was.level root.top 0 (2 ^ 256) stays was.head;
        two = two_stays old new was.level root.top stays was.two;
        holds = pairs_stay old new was.level root.top stays ∙ was.holds;
      }

  -- a line stands where it stood
  line_stays : (table : Table) (line : List ℕ) → Contains (lines_in gaz table) line → option_and_then (record_at new) (value_in [] stands.pairs (line_key stands.slots table line)) ≡ Some line
  line_stays table line has =
      let key = line_key stands.slots table line in
      let placed = is_placed (value_in [] stands.pairs) (record_at old) key line (stands.indexed.lines table line has) in
      let tag : has_place (tag_of key) ≡ true = ap has_place (tag_at table (stands.slots (column 1 line)) line) ∙ tag_has_place table in
      let at : lookup (key_of key) stands.pairs ≡ Some placed.place = sym (value_is [] gaz old root stands key tag) ∙ placed.at in
      let fits : IsKey key = key_fits table (stands.slots (column 1 line)) line (All-contains (IsLine (kind_in table)) (lines_in gaz table) line (stands.is_gazetteer.tables table).each has) in
      let there : Contains Places placed.place = at_place (key_of key) placed.place stands.pairs (ap has_place (tag_key key fits) ∙ tag) at in
      ap (option_and_then (record_at new)) placed.at ∙ (record_stays placed.place there).0 ∙ placed.stands

  pub stands_below : StandsFor gaz new root
  stands_below = record {
    is_gazetteer = stands.is_gazetteer;
    date = stands.date;
    counts = stands.counts;
    pairs = stands.pairs;
    tree = tree_is;
    placeless = stands.placeless;
    slots = stands.slots;
    indexed = record {
      all = stands.indexed.all;
      only = stands.indexed.only;
      lines = line_stays;
      zeros = stands.indexed.zeros;
      apart = stands.indexed.apart;
      slots_differ = stands.indexed.slots_differ;
    };
    used_once = used_once;
  }
