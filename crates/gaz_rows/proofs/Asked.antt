-- What a look-up by a key of the index answers of the lines of a table.
use Rattle.std.proofs.Common.{◌≡◌, ℕ, List, refl, sym, ◌∙◌, ap, subst, Option, Some, None, Result, Ok, Err}
use Rattle.std.specs.Prelude.{IsTrue, Contains, option_and_then, IfErr, IfOk, if◌then◌else◌}
use Rattle.std.proofs.lemmas.Map.Text.{is_eq-slice_cmp}
use Rattle.std.proofs.lemmas.Map.Entries.{option_filter}
use Rattle.std.specs.Ordering.{is_eq}
use Rattle.std.proofs.lemmas.List.Elements.{All-contains}
use Rattle.gaz_num.specs.declared.words.Kind.TheVariants as kind
use Rattle.gaz_page.specs.declared.pages.PageFault.{PageFault}
use Rattle.gaz_page.specs.declared.pages.PageFault.TheVariants as page
use Rattle.gaz_page.specs.declared.tree_root.Root.{Root}
use Rattle.gaz_page.specs.Pages.{PagesView}
use Rattle.gaz_num.specs.Pieces.{column}
use Rattle.gaz_num.specs.declared.words.Table.{Table}
use Rattle.gaz_num.specs.declared.words.Table.TheVariants.{Countries}
use Rattle.gaz_plain.specs.Gazetteer.{Gazetteer, IsLine, line_with, key_cmp}
use Rattle.gaz_heap.specs.Place.{record_at}
use Rattle.gaz_leaf.specs.Node.{Pair, key_of as number_of}
use Rattle.gaz_scan.specs.declared.scan.Scan.{Scan}
use Rattle.gaz_scan.specs.Scan.{Gives}
use Rattle.gaz_tree.specs.Pairs.{lookup}
use Rattle.gaz_tree.specs.Calls.{IsGot}
use Rattle.gaz_keys.specs.Keys.{country_key}
use Rattle.gaz_name.specs.Name.{first_bytes}
use Rattle.gaz_rows.specs.declared.fault.AskFault.{AskFault}
use Rattle.gaz_rows.specs.Faults.{fault_of}
use Rattle.gaz_rows.specs.Index.{Slots}
use Rattle.gaz_rows.specs.Laid.{ends_of}
use Rattle.gaz_rows.specs.Store.{IsStoreBut, IsAnswer, Answers, IsSoundOver, IsSound}
use Rattle.gaz_rows.specs.Found.{Finds, FindsCoded, FailsSoundly, GivesNext, if_coded, has_code}
use Rattle.gaz_rows.proofs.Fit.{AreBytes}
use Rattle.gaz_rows.proofs.Got.{IsKeyFor, IsKeyAlone, has_key, line_found, line_found_alone, line_at_key, record_there}
use Rattle.gaz_rows.proofs.KeysFor.{country_key_for, country_code}

-- a look-up in a tree meets no damage
pub got_sound : (T : Type 0) (expected : T) (fault : PageFault) (out : AskFault) → IsGot expected (Err fault) → out ≡ fault_of fault → IsSound out
got_sound T expected page.Failed out got is = subst IsSound (sym is) tt
got_sound T expected (page.Damaged number) out got is = absurd got
got_sound T expected page.Memory out got is = absurd got

module _ (table : Table) (asked key : List ℕ) (for_key : (slots : Slots) → IsKeyFor slots table asked key) (v : PagesView) (root : Root) where
  -- The look-up meets no damage.
  sound_at : (fault : AskFault) → FailsSoundly key v root fault → IsSoundOver v root fault
  sound_at fault fails told waiting gaz stands =
      fails told stands.pairs stands.tree (record_there waiting gaz v.page (ends_of v root) stands table asked key (for_key stands.slots))

  -- It answers the line.
  answers_at : (alone : (slots : Slots) → IsKeyAlone slots table asked key) (buf : List ℕ) (found : Option ℕ) → Finds key v root buf found → Answers table asked v root buf found
  answers_at alone buf found finds told waiting gaz stands =
      line_found_alone waiting gaz v.page (ends_of v root) stands table asked key (for_key stands.slots) (alone stands.slots)
      ∙ finds told stands.pairs stands.tree (record_there waiting gaz v.page (ends_of v root) stands table asked key (for_key stands.slots))

  -- the same of a result, where the key was made
  pub sound : {T : Type 0} (made : List ℕ) (result : Result T AskFault) → made ≡ key → IfErr result (FailsSoundly made v root) → IfErr result (IsSoundOver v root)
  sound made (Ok given) is fails = tt
  sound made (Err fault) is fails = sound_at fault (subst (λ k. FailsSoundly k v root fault) is fails)

  pub answered : {E : Type 0} (alone : (slots : Slots) → IsKeyAlone slots table asked key) (made buf : List ℕ) (result : Result (Option ℕ) E) → made ≡ key → IfOk result (Finds made v root buf) → IfOk result (Answers table asked v root buf)
  answered alone made buf (Ok found) is finds = answers_at alone buf found (subst (λ k. Finds k v root buf found) is finds)
  answered alone made buf (Err fault) is finds = tt

-- a look-up by the key of a code answers the country, if the line's own code is compared
module _ (code : List ℕ) (bytes : AreBytes code) (v : PagesView) (root : Root) (waiting : List (List ℕ)) (gaz : Gazetteer) (stands : IsStoreBut waiting gaz v root) where
  abbrev pub key : List ℕ
  key = country_key (first_bytes 4 code)

  for_key : IsKeyFor stands.slots Countries code key
  for_key = country_key_for stands.slots code bytes

  compares : (line : List ℕ) → Contains gaz.countries line → has_key Countries code line ≡ has_code code line
  compares line there =
      ap (λ k. is_eq (key_cmp k code)) (country_code line (All-contains (IsLine kind.Country) gaz.countries line (stands.is_gazetteer.tables Countries).each there))
      ∙ is_eq-slice_cmp (column 1 line) code

  coded : (found : Option ℕ) → lookup (number_of key) stands.pairs ≡ found → option_filter (has_key Countries code) (option_and_then (record_at v.page) found) ≡ if_coded code (option_and_then (record_at v.page) found)
  coded None is = refl
  coded (Some place) is =
      let that = line_at_key waiting gaz v.page (ends_of v root) stands Countries code key for_key place is in
      rw that.stands (ap (λ b. if b then Some that.line else None) (compares that.line that.there))

  pub country_found : (buf : List ℕ) (found : Option ℕ) → IsTrue v.is_told → FindsCoded key code v root buf found → IsAnswer (line_with Countries code gaz) buf found
  country_found buf found told finds =
      line_found waiting gaz v.page (ends_of v root) stands Countries code key for_key
      ∙ coded (lookup (number_of key) stands.pairs) refl
      ∙ finds told stands.pairs stands.tree (record_there waiting gaz v.page (ends_of v root) stands Countries code key for_key)

pub country_answered : {E : Type 0} (code : List ℕ) (bytes : AreBytes code) (v : PagesView) (root : Root) (made buf : List ℕ) (result : Result (Option ℕ) E) → made ≡ country_key (first_bytes 4 code) → IfOk result (FindsCoded made code v root buf) → IfOk result (Answers Countries code v root buf)
country_answered code bytes v root made buf (Ok found) is finds =
    λ told waiting gaz stands. country_found code bytes v root waiting gaz stands buf found told (subst (λ k. FindsCoded k code v root buf found) is finds)
country_answered code bytes v root made buf (Err fault) is finds = tt

-- a scan of which a call failed
pub next_failed : (old new : ℕ → List ℕ) (scan : Scan) (left : List Pair) (fault : PageFault) (out : AskFault) → Gives old new scan left (Err fault) → out ≡ fault_of fault → GivesNext old new scan left (Err out)
next_failed old new scan left page.Failed out gives is = subst (λ o. GivesNext old new scan left (Err o)) (sym is) gives
next_failed old new scan left (page.Damaged number) out gives is = absurd gives
next_failed old new scan left page.Memory out gives is = absurd gives
