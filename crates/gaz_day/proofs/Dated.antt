-- A gazetteer with another date: the same pages stand for it, with a root of that date.
use Rattle.std.proofs.Common.{◌≡◌, ℕ, true, false, List, ◌∷◌, [], refl, sym, subst}
use Rattle.std.specs.Prelude.{Contains, Option}
use Rattle.gaz_num.specs.declared.words.Table.{Table}
use Rattle.gaz_num.specs.declared.words.Table.TheVariants.{Rows, Alternates, Links, Countries, Codes}
use Rattle.gaz_plain.specs.Gazetteer.{Gazetteer, IsGazetteer, IsTable, dated, lines_in}
use Rattle.gaz_page.specs.declared.tree_root.Root.{Root}
use Rattle.gaz_page.specs.Pages.{PagesView}
use Rattle.gaz_rows.specs.Index.{Slots, IsKeyOf, IsIndexed}
use Rattle.gaz_rows.specs.Stands.{StandsFor, AreUsedOnce, places_in}
use Rattle.gaz_rows.proofs.LaidStands.{are_laid_so}
use Rattle.gaz_rows.proofs.LaidKept.{after_root}

same_lines : (gaz : Gazetteer) (date : ℕ) (table : Table) → lines_in (dated gaz date) table ≡ lines_in gaz table
same_lines gaz date Rows = refl
same_lines gaz date Alternates = refl
same_lines gaz date Links = refl
same_lines gaz date Countries = refl
same_lines gaz date Codes = refl

-- the root with the date
abbrev pub at_date : ℕ → Root → Root
at_date date root = record root { day = date }

module _ (gaz : Gazetteer) (date : ℕ) where
  has : (table : Table) (line : List ℕ) → Contains (lines_in (dated gaz date) table) line → Contains (lines_in gaz table) line
  has table line = subst (λ (l : List (List ℕ)). Contains l line) (same_lines gaz date table)

  has_back : (table : Table) (line : List ℕ) → Contains (lines_in gaz table) line → Contains (lines_in (dated gaz date) table) line
  has_back table line = subst (λ (l : List (List ℕ)). Contains l line) (sym (same_lines gaz date table))

  key_of_it : (slots : Slots) (key : List ℕ) → IsKeyOf slots (dated gaz date) key → IsKeyOf slots gaz key
  key_of_it slots key is = record { table = is.table; line = is.line; there = has is.table is.line is.there; among = is.among }

  key_back : (slots : Slots) (key : List ℕ) → IsKeyOf slots gaz key → IsKeyOf slots (dated gaz date) key
  key_back slots key is = record { table = is.table; line = is.line; there = has_back is.table is.line is.there; among = is.among }

  dated_is : IsGazetteer gaz → IsGazetteer (dated gaz date)
  dated_is is = record {
    tables = λ table. subst (IsTable table) (sym (same_lines gaz date table)) (is.tables table);
    undated = λ none. absurd (cc none);
  }

  dated_indexed : (slots : Slots) (value : List ℕ → Option ℕ) (bytes : ℕ → Option (List ℕ)) → IsIndexed slots gaz value bytes → IsIndexed slots (dated gaz date) value bytes
  dated_indexed slots value bytes held = record {
    all = λ key is. held.all key (key_of_it slots key is);
    only = λ key fits some. key_back slots key (held.only key fits some);
    lines = λ table line there. held.lines table line (has table line there);
    zeros = λ table line key there more. held.zeros table line key (has table line there) more;
    apart = λ table other line another there also same. held.apart table other line another (has table line there) (has other another also) same;
    slots_differ = record { fit = held.slots_differ.fit; differ = held.slots_differ.differ };
  }

  module _ (pages : ℕ → List ℕ) (root : Root) (stands : StandsFor gaz pages root) where
    abbrev view : PagesView
    view = record { is_told = true; page = pages; free = root.free; fresh = root.fresh; faults = 0; is_starved = false; reads = 0; changed = 0; is_read_only = true }

    used_once : AreUsedOnce pages (at_date date root) (root.heap ∷ []) (places_in stands.pairs)
    used_once = (after_root view root (at_date date root) stands.pairs (root.heap ∷ []) (places_in stands.pairs) refl refl (are_laid_so [] gaz view root stands)).used_once

    pub dated_stands : StandsFor (dated gaz date) pages (at_date date root)
    dated_stands = record {
      is_gazetteer = dated_is stands.is_gazetteer;
      date = refl;
      counts = stands.counts;
      pairs = stands.pairs;
      tree = stands.tree;
      placeless = stands.placeless;
      slots = stands.slots;
      indexed = dated_indexed stands.slots _ _ stands.indexed;
      used_once = used_once;
    }
