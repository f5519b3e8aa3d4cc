-- Pages that stand for a gazetteer but for keys that wait: once these are put, and after a line whose other keys wait too.
use Rattle.std.proofs.Common.{◌≡◌, ◌+◌, ◌-◌, ◌^◌, ℕ, List, [], ◌∷◌, get_or, sym, ◌∙◌, ap, subst, arith, false, Some, None, Ok}
use Rattle.std.specs.Prelude.{is_some, IsTrue, option_and_then}
use Rattle.std.proofs.lemmas.List.Elements.{All-contains, Contains-get_or}
use Rattle.gaz_num.specs.Pieces.{column}
use Rattle.gaz_num.specs.Check.{reason_against, key_in}
use Rattle.gaz_num.specs.declared.words.Kind.{Kind}
use Rattle.gaz_num.specs.declared.words.Table.TheVariants.{Codes}
use Rattle.gaz_page.specs.declared.tree_root.Root.{Root}
use Rattle.gaz_page.specs.Pages.{PagesView}
use Rattle.gaz_plain.specs.Gazetteer.{Gazetteer, table_of, is_delete, is_one_line, after_line}
use Rattle.gaz_heap.specs.Place.{record_at}
use Rattle.gaz_leaf.specs.Node.{key_of}
use Rattle.gaz_tree.specs.Pairs.{Within, put, lookup}
use Rattle.gaz_tree.proofs.Fans.{head_within}
use Rattle.gaz_keys.specs.Parts.{tag_of, has_place}
use Rattle.gaz_keys.specs.Lines.{more_keys}
use Rattle.gaz_rows.specs.Index.{Slots, line_key}
use Rattle.gaz_rows.specs.Stands.{StandsForBut, places_in, AreUsedOnce}
use Rattle.gaz_rows.specs.Laid.{IsLaid, AfterOrder, SameRecords, ends_of}
use Rattle.gaz_rows.specs.Work.{put_zeros}
use Rattle.gaz_rows.specs.Steps.{SameSlots, IsSlotOf, MeetsLine, RecordsLeft, line_put, old_by, pair_at, counted, recounted, one_if, ArePlaceless, SameKeys, AreGathered}
use Rattle.gaz_rows.proofs.Pairs.{AllKeys, zeros_elsewhere}
use Rattle.gaz_rows.proofs.PairsPlaces.{rising_zeros}
use Rattle.gaz_rows.proofs.PairsIndexed.{next_gazetteer, next_counts, old_is, step_key}
use Rattle.gaz_rows.proofs.PairsWaiting.{as_settled, settled_is_indexed, settled_places, place_waits_not}
use Rattle.gaz_rows.proofs.PairsGathered.{gathered_is_indexed, gathered_places}
use Rattle.gaz_rows.proofs.PairsStepped.{place_tag}

module _ (waiting : List (List ℕ)) (all : AllKeys waiting) (gaz : Gazetteer) (old : PagesView) (root : Root) (stands : StandsForBut waiting gaz old.page (ends_of old root)) where
  placeless : ArePlaceless waiting
  placeless key has = All-contains (λ k. has_place (tag_of k) ≡ false) waiting key stands.placeless has

  rising : Within 0 (2 ^ 256) stands.pairs
  rising = subst (Within 0 (2 ^ 256)) stands.tree.holds (head_within old.page stands.tree.level root.top 0 (2 ^ 256) stands.tree.head)

  -- Once the keys that wait are put, in whatever order, the pages stand for the gazetteer.
  pub settled_stands : (keys : List (List ℕ)) → AllKeys keys → SameKeys waiting keys → (new : PagesView) (last : Root) → last.day ≡ root.day → last.counts ≡ root.counts
      → IsLaid new last (put_zeros keys stands.pairs) (last.heap ∷ []) (places_in stands.pairs) → SameRecords old new (places_in stands.pairs) → StandsForBut [] gaz new.page (ends_of new last)
  settled_stands keys all_too same new last day counts laid records =
      let places = settled_places waiting keys stands.pairs all_too same stands.slots gaz (record_at old.page) (record_at new.page) stands.is_gazetteer placeless stands.indexed in
      record {
        is_gazetteer = stands.is_gazetteer;
        date = stands.date ∙ ap Some (sym day);
        counts = counts ∙ stands.counts;
        pairs = put_zeros keys stands.pairs;
        tree = laid.tree.top;
        placeless = λ k d below. absurd (omega (arith, below));
        slots = stands.slots;
        indexed = settled_is_indexed waiting keys stands.pairs all_too same stands.slots gaz (record_at old.page) (record_at new.page) stands.is_gazetteer placeless stands.indexed records;
        used_once = subst (AreUsedOnce new.page (ends_of new last) (last.heap ∷ [])) (sym places) laid.used_once;
      }

  -- The pairs with all keys put, and the records, meet a line.
  pub meets_waiting : (now : Slots) (kind : Kind) (line key : List ℕ) → IsTrue (is_one_line line) → reason_against kind line ≡ None → key_in kind line ≡ Some key
      → SameSlots gaz stands.slots now → (table_of kind ≡ Codes → IsSlotOf now gaz (column 1 line)) → MeetsLine stands.slots now gaz kind line key (put_zeros waiting stands.pairs) (record_at old.page)
  meets_waiting now kind line key one accepted keyed same slot = record {
    is_gazetteer = stands.is_gazetteer;
    dated = ap is_some stands.date;
    one_line = one;
    accepted = accepted;
    keyed = keyed;
    rising = rising_zeros waiting stands.pairs all rising;
    held = as_settled waiting waiting stands.pairs all (record { to = λ k has. has; from = λ k has. has }) stands.slots gaz (record_at old.page) (record_at old.page) stands.is_gazetteer placeless stands.indexed;
    same_slots = same;
    slot = slot;
  }

  -- The old line stands at the key with the place while keys wait too.
  pub old_waiting : (now : Slots) (kind : Kind) (line key : List ℕ) → MeetsLine stands.slots now gaz kind line key (put_zeros waiting stands.pairs) (record_at old.page)
      → old_by gaz kind key ≡ option_and_then (record_at old.page) (lookup (key_of (line_key now (table_of kind) line)) stands.pairs)
  old_waiting now kind line key meets =
      let asked = line_key now (table_of kind) line in
      old_is stands.slots now gaz kind line key (put_zeros waiting stands.pairs) (record_at old.page) meets
      ∙ ap (option_and_then (record_at old.page)) (zeros_elsewhere waiting asked stands.pairs all (step_key stands.slots now gaz kind line key (put_zeros waiting stands.pairs) (record_at old.page) meets)
      (place_waits_not waiting stands.pairs asked placeless (place_tag now (table_of kind) line)))

  module _ (now : Slots) (kind : Kind) (line key : List ℕ) (meets : MeetsLine stands.slots now gaz kind line key (put_zeros waiting stands.pairs) (record_at old.page)) (next : Gazetteer) (taken : after_line gaz kind line ≡ Ok next)
      (puts : is_delete kind ≡ false) (none : old_by gaz kind key ≡ None) (waits_now : List (List ℕ)) (gathered : AreGathered waiting (more_keys (table_of kind) line) waits_now) (less : ArePlaceless waits_now) where
    -- After a line whose key no line had, with its other keys among those that wait, the pages stand for the next gazetteer but for these.
    pub gathered_stands : AfterOrder → (new : PagesView) (last : Root) (place : ℕ) → last.day ≡ root.day → last.counts ≡ recounted root.counts (table_of kind) (counted root.counts (table_of kind) + one_if (line_put kind line) - one_if (old_by gaz kind key))
        → IsLaid new last (put (pair_at (line_key now (table_of kind) line) place) stands.pairs) (last.heap ∷ []) (place ∷ places_in stands.pairs)
        → RecordsLeft (Some line) place (places_in stands.pairs) (record_at old.page) (record_at new.page) → StandsForBut waits_now next new.page (ends_of new last)
    gathered_stands ordered new last place day counts laid left =
        let settled = put_zeros waiting stands.pairs in
        let is = next_gazetteer stands.slots now gaz kind line key settled (record_at old.page) meets next taken in
        let pairs = put (pair_at (line_key now (table_of kind) line) place) stands.pairs in
        let places = gathered_places stands.slots now gaz kind line key waiting waits_now stands.pairs (record_at old.page) all placeless rising meets next taken puts none gathered place in
        record {
          is_gazetteer = is.is_gazetteer;
          date = is.has_date ∙ stands.date ∙ ap Some (sym day);
          counts = counts ∙ ap (λ c. recounted c (table_of kind) (counted c (table_of kind) + one_if (line_put kind line) - one_if (old_by gaz kind key))) stands.counts
              ∙ sym (next_counts stands.slots now gaz kind line key settled (record_at old.page) meets next taken);
          pairs = pairs;
          tree = laid.tree.top;
          placeless = λ i d within. less (get_or waits_now i d) (Contains-get_or waits_now i d within);
          slots = now;
          indexed = gathered_is_indexed stands.slots now gaz kind line key waiting waits_now stands.pairs (record_at old.page) all placeless rising meets next taken puts none gathered place (record_at new.page) left;
          used_once = (ordered new last pairs (last.heap ∷ []) (place ∷ places_in stands.pairs) (places_in pairs) laid places.from places.to).used_once;
        }
