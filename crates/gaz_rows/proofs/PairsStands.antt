-- What a step leaves stands for the gazetteer after it.
use Rattle.std.proofs.Common.{◌≡◌, ◌+◌, ◌-◌, ◌^◌, ℕ, List, [], ◌∷◌, refl, sym, ◌∙◌, ap, subst, arith, true, Some, None, Ok}
use Rattle.std.specs.Prelude.{is_some, IsTrue, if◌then◌else◌}
use Rattle.gaz_num.specs.Pieces.{column}
use Rattle.gaz_num.specs.Check.{reason_against, key_in}
use Rattle.gaz_num.specs.declared.words.Kind.{Kind}
use Rattle.gaz_num.specs.declared.words.Table.{Table}
use Rattle.gaz_num.specs.declared.words.Table.TheVariants.{Rows, Alternates, Links, Countries, Codes}
use Rattle.gaz_page.specs.declared.root.LineCounts.{LineCounts}
use Rattle.gaz_page.specs.declared.tree_root.Root.{Root}
use Rattle.gaz_page.specs.Pages.{PagesView}
use Rattle.gaz_plain.specs.Gazetteer.{Gazetteer, table_of, is_delete, is_one_line, after_line}
use Rattle.gaz_heap.specs.Place.{record_at}
use Rattle.gaz_tree.specs.Pairs.{Within}
use Rattle.gaz_tree.proofs.Fans.{head_within}
use Rattle.gaz_rows.specs.Index.{Slots}
use Rattle.gaz_rows.specs.Stands.{StandsForBut, places_in}
use Rattle.gaz_rows.specs.Laid.{IsLaid, AfterOrder, AreLaid, ends_of}
use Rattle.gaz_rows.specs.Steps.{SameSlots, IsSlotOf, MeetsLine, IsLeft, line_put, old_by, other_places, place_by, but_old, with_new, pairs_with, pairs_after, counted, recounted, one_if}
use Rattle.gaz_rows.proofs.PairsIndexed.{next_gazetteer, next_counts, stepped_places, stepped_is_indexed}
use Rattle.gaz_rows.proofs.ReindexedLines.{none_is_some}

module _ (gaz : Gazetteer) (old : PagesView) (root : Root) (stands : StandsForBut [] gaz old.page (ends_of old root)) where
  pub rising_stands : Within 0 (2 ^ 256) stands.pairs
  rising_stands = subst (Within 0 (2 ^ 256)) stands.tree.holds (head_within old.page stands.tree.level root.top 0 (2 ^ 256) stands.tree.head)

  -- Pages that stand for a gazetteer meet a line.
  pub meets_line : (now : Slots) (kind : Kind) (line key : List ℕ) → IsTrue (is_one_line line) → reason_against kind line ≡ None → key_in kind line ≡ Some key
      → SameSlots gaz stands.slots now → (table_of kind ≡ Codes → IsSlotOf now gaz (column 1 line)) → MeetsLine stands.slots now gaz kind line key stands.pairs (record_at old.page)
  meets_line now kind line key one accepted keyed same slot = record {
    is_gazetteer = stands.is_gazetteer;
    dated = ap is_some stands.date;
    one_line = one;
    accepted = accepted;
    keyed = keyed;
    rising = rising_stands;
    held = stands.indexed;
    same_slots = same;
    slot = slot;
  }

  module _ (now : Slots) (kind : Kind) (line key : List ℕ) (meets : MeetsLine stands.slots now gaz kind line key stands.pairs (record_at old.page)) (next : Gazetteer) (taken : after_line gaz kind line ≡ Ok next) (ordered : AfterOrder) where
    -- What the calls of a step leave stands for the next gazetteer.
    pub left_stands : (new : PagesView) (last : Root) (place : ℕ) → IsLeft old new root last now gaz kind line key stands.pairs place → StandsForBut [] next new.page (ends_of new last)
    left_stands new last place left =
        let is = next_gazetteer stands.slots now gaz kind line key stands.pairs (record_at old.page) meets next taken in
        let places = stepped_places stands.slots now gaz kind line key stands.pairs (record_at old.page) meets next taken place in
        let pairs = pairs_with now gaz kind line key place stands.pairs in
        record {
          is_gazetteer = is.is_gazetteer;
          date = is.has_date ∙ stands.date ∙ ap Some (sym left.day);
          counts = left.counts ∙ ap (λ counts. recounted counts (table_of kind) (counted counts (table_of kind) + one_if (line_put kind line) - one_if (old_by gaz kind key))) stands.counts
              ∙ sym (next_counts stands.slots now gaz kind line key stands.pairs (record_at old.page) meets next taken);
          pairs = pairs;
          tree = left.laid.tree.top;
          placeless = λ k d below. absurd (omega (arith, below));
          slots = now;
          indexed = stepped_is_indexed stands.slots now gaz kind line key stands.pairs (record_at old.page) meets next taken place (record_at new.page) left.records;
          used_once = (ordered new last pairs (last.heap ∷ []) (with_new (line_put kind line) place (other_places now gaz kind key stands.pairs)) (places_in pairs) left.laid places.from places.to).used_once;
        }

    same_table : (table : Table) (counts : LineCounts) → counts ≡ recounted counts table (counted counts table)
    same_table Rows counts = refl
    same_table Alternates counts = refl
    same_table Links counts = refl
    same_table Countries counts = refl
    same_table Codes counts = refl

    same_counts : (table : Table) (counts : LineCounts) → counts ≡ recounted counts table (counted counts table + 0 - 0)
    same_counts table counts = same_table table counts ∙ ap (recounted counts table) (none_more (counted counts table))
      where
        none_more : (n : ℕ) → n ≡ n + 0 - 0
        none_more n = omega arith

    -- Where a line only takes out, and none has its key, the pages stand for the next gazetteer as they are.
    pub nothing_left : AreLaid → is_delete kind ≡ true → old_by gaz kind key ≡ None → StandsForBut [] next old.page (ends_of old root)
    nothing_left are deletes none = left_stands old root 0 (record {
      day = refl;
      counts = same_counts (table_of kind) root.counts ∙ ap (λ n. recounted root.counts (table_of kind) (counted root.counts (table_of kind) + n - 0)) (sym (ap one_if no_line))
          ∙ ap (λ n. recounted root.counts (table_of kind) (counted root.counts (table_of kind) + one_if (line_put kind line) - n)) (sym (ap one_if none));
      laid = subst (λ one. IsLaid old root (pairs_after now (table_of kind) one (line_put kind line) 0 stands.pairs) (root.heap ∷ []) (with_new (line_put kind line) 0 (but_old (place_by now (table_of kind) stands.pairs one) (places_in stands.pairs)))) (sym none)
          (subst (λ one. IsLaid old root (pairs_after now (table_of kind) None one 0 stands.pairs) (root.heap ∷ []) (with_new one 0 (places_in stands.pairs))) (sym no_line) (are [] gaz old root stands));
      records = record {
        there = λ l is. absurd (none_is_some l (sym no_line ∙ is));
        unlisted = λ l is. absurd (none_is_some l (sym no_line ∙ is));
        same = λ stood has. refl;
      };
    })
      where
        no_line : line_put kind line ≡ None
        no_line = ap (λ b. if b then None else Some line) deletes
