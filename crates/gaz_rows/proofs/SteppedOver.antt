-- A step over pages that stand for a gazetteer, behind questions that left them as they were.
use Rattle.std.proofs.Common.{◌≡◌, ◌<◌, ◌≤◌, ◌+◌, ◌-◌, ℕ, List, [], ◌∷◌, length, refl, sym, ◌∙◌, ap, subst, true, false, Bool, Option, Some, None, Ok, Err}
use Rattle.std.specs.Prelude.{Result, IfOk, IfErr, Contains, IsSome, is_some, IsTrue, IsSome, nat_le, if◌then◌else◌}
use Rattle.std.proofs.lemmas.Bool.{leb-true}
use Rattle.std.proofs.lemmas.Slice.Eq.{bytes_eq-Decides}
use Rattle.gaz_num.specs.declared.words.Kind.{Kind}
use Rattle.gaz_num.specs.declared.words.Kind.TheVariants.{Row, RowDelete, Alt, AltDelete, Link, Country}
use Rattle.gaz_num.specs.declared.words.Kind.TheVariants as kinds
use Rattle.gaz_num.specs.declared.words.Table.TheVariants.{Codes}
use Rattle.gaz_num.specs.declared.words.Reason.TheVariants.{Length}
use Rattle.gaz_num.specs.Pieces.{column}
use Rattle.gaz_num.specs.Check.{reason_against, key_in, line_limit, tests_of_text, first_failing}
use Rattle.gaz_name.specs.Name.{first_bytes}
use Rattle.gaz_page.specs.declared.tree_root.Root.{Root}
use Rattle.gaz_page.specs.Pages.{PagesView, SamePages}
use Rattle.gaz_plain.specs.Gazetteer.{Gazetteer, IsGazetteer, table_of, is_delete, is_one_line, after_line, line_with, full, limit_of}
use Rattle.gaz_leaf.specs.Node.{Pair, key_of}
use Rattle.gaz_tree.specs.Pairs.{lookup}
use Rattle.gaz_tree.specs.Tree.{IsTop}
use Rattle.gaz_heap.specs.Place.{record_at}
use Rattle.gaz_keys.specs.Keys.{code_key, IsKey}
use Rattle.gaz_num.specs.declared.words.Reason.{Reason}
use Rattle.gaz_rows.specs.declared.fault.StepFault.{StepFault}
use Rattle.gaz_rows.specs.declared.fault.StepFault.TheVariants.{Malformed, Full, Failed, Damaged, Memory}
use Rattle.gaz_rows.specs.declared.fault.AskFault.{AskFault}
use Rattle.gaz_rows.specs.declared.fault.AskFault.TheVariants as ask
use Rattle.gaz_rows.specs.Index.{Slots, SlotsDiffer, IsIndexed, line_key}
use Rattle.gaz_rows.specs.Stands.{StandsForBut, AreUsedOnce, places_in, value_in}
use Rattle.gaz_rows.specs.Laid.{IsLaid, ends_of}
use Rattle.gaz_rows.specs.Found.{HasRecord}
use Rattle.gaz_rows.specs.Faults.{step_fault_by}
use Rattle.gaz_rows.specs.Store.{IsSound, IsStepFaultOf}
use Rattle.gaz_rows.specs.declared.target.Target.{Target}
use Rattle.gaz_rows.specs.declared.target.Target.TheVariants.{Key, Code}
use Rattle.gaz_rows.specs.Target.{IsTargetOf}
use Rattle.gaz_rows.specs.Steps.{MeetsLine, IsSlotFor, slot_with, IsSlotOf, counted, recounted, line_put}
use Rattle.gaz_rows.specs.Stepping.{StandsAt, IsKeyOver, ComesRightly, ChangesRightly, HasSteppedTo, IsFullBy, IsOfPages, StandsStill, HasAlready}
use Rattle.gaz_rows.specs.Change.{HasCome, HasGone, HasReplaced}
use Rattle.gaz_keys.specs.Lines.{more_keys}
use Rattle.gaz_rows.proofs.PairsIndexed.{step_key}
use Rattle.gaz_rows.proofs.PairsStands.{meets_line}
use Rattle.gaz_rows.proofs.ReindexedSlots.{slot_kept, slot_new, slots_agree}
use Rattle.gaz_rows.proofs.SteppedStores.{laid_here, left_here, full_here, place_there, was_keyed, was_counted, come_stands, go_stands, replace_stands, same_stands, none_stands, some_found, none_found, come_taken, change_taken, was_key}

-- a test that passed
passed : (why : Reason) (b : Bool) (rest : List (Reason × Bool)) → first_failing ((why, b) ∷ rest) ≡ None → b ≡ true
passed why true rest is = refl
passed why false rest is = absurd (cc)

-- A line that its check accepts has at most 65,535 bytes.
pub short_line : (kind : Kind) (line : List ℕ) → reason_against kind line ≡ None → length line ≤ 65535
unfolding reason_against
short_line kind line is = leb-true (length line) line_limit (passed Length (nat_le (length line) line_limit) (tests_of_text kind line) is)

pub numbers_of : (kind : Kind) (line : List ℕ) → IsSome (key_in kind line) → (numbers : List ℕ) × (key_in kind line ≡ Some numbers)
numbers_of kind line has = by (key_in kind line) refl has
  where
    by : (found : Option (List ℕ)) → key_in kind line ≡ found → IsSome found → (numbers : List ℕ) × (key_in kind line ≡ Some numbers)
    by None is has = absurd (cc)
    by (Some numbers) is has = (numbers, is)

same_some : (a b : List ℕ) → Some a ≡ Some b → a ≡ b
same_some a b same = cc

-- A line that isn't one that only takes out is put.
pub put_is_some : (kind : Kind) (line : List ℕ) → is_delete kind ≡ false → line_put kind line ≡ None → ⊥
put_is_some kind line puts is = differ (sym (ap (λ (b : Bool). if b then None else Some line) puts) ∙ is)
  where
    differ : Some line ≡ None → ⊥
    differ same = cc

-- One that only takes out isn't.
pub put_is_none : (kind : Kind) (line was : List ℕ) → is_delete kind ≡ true → line_put kind line ≡ Some was → ⊥
put_is_none kind line was deletes is = differ (sym (ap (λ (b : Bool). if b then None else Some line) deletes) ∙ is)
  where
    differ : None ≡ Some was → ⊥
    differ same = cc

-- What is put is the line.
pub put_is_line : (kind : Kind) (line was : List ℕ) → is_delete kind ≡ false → line_put kind line ≡ Some was → was ≡ line
put_is_line kind line was puts is = same_some was line (sym is ∙ ap (λ (b : Bool). if b then None else Some line) puts)

-- ---- the key of a code

pub code_kind : (kind : Kind) → table_of kind ≡ Codes → kind ≡ kinds.Code
code_kind Row is = absurd (cc)
code_kind RowDelete is = absurd (cc)
code_kind Alt is = absurd (cc)
code_kind AltDelete is = absurd (cc)
code_kind Link is = absurd (cc)
code_kind Country is = absurd (cc)
code_kind kinds.Code is = refl

-- A code with the slot for it has its key.
pub code_over : (gaz : Gazetteer) (slots : Slots) → IsGazetteer gaz → SlotsDiffer slots gaz → (code : List ℕ) (slot : ℕ) → IsSlotFor slots gaz code slot → (kind : Kind) (line : List ℕ) → table_of kind ≡ Codes
    → key_in kind line ≡ Some code → (key : List ℕ) → key ≡ code_key (first_bytes 23 code) slot → IsKeyOver gaz slots kind line key
code_over gaz slots is differ code slot for kind line table keyed key key_is =
    subst (λ k. IsKeyOver gaz slots k line key) (sym (code_kind kind table)) (by (line_with Codes code gaz) refl)
  where
    own : column 1 line ≡ code
    own = some_code (column 1 line) code (subst (λ k. key_in k line ≡ Some code) (code_kind kind table) keyed)
      where
        some_code : (a b : List ℕ) → Some a ≡ Some b → a ≡ b
        some_code a b same = cc

    by : (found : Option (List ℕ)) → line_with Codes code gaz ≡ found → IsKeyOver gaz slots kinds.Code line key
    by (Some was) found = record {
      now = slots;
      same = λ l has. refl;
      slot = λ codes. subst (IsSlotOf slots gaz) (sym own) (slot_kept slots gaz code was differ found);
      chosen = λ codes. subst (λ text. IsSlotFor slots gaz text (slots text)) (sym own) (subst (IsSlotFor slots gaz code) (sym (for.own was found)) for);
      is = ap (λ text. code_key (first_bytes 23 text) (slots text)) own ∙ ap (code_key (first_bytes 23 code)) (for.own was found) ∙ sym key_is;
    }
    by None found = record {
      now = slot_with slots code slot;
      same = slots_agree slots gaz code slot is found;
      slot = λ codes. subst (IsSlotOf (slot_with slots code slot) gaz) (sym own) (slot_new slots gaz code slot (for.new found).0 (for.new found).1);
      chosen = λ codes. subst (λ text. IsSlotFor slots gaz text (slot_with slots code slot text)) (sym own) (subst (IsSlotFor slots gaz code) (sym given) for);
      is = ap (λ text. code_key (first_bytes 23 text) (slot_with slots code slot text)) own ∙ ap (code_key (first_bytes 23 code)) given ∙ sym key_is;
    }
      where
        given : slot_with slots code slot code ≡ slot
        given = ap (λ (b : Bool). if b then slot else slots code) ((bytes_eq-Decides code code).1 refl)

-- ---- pages that a question left as they were

abbrev pub stands_same : (waiting : List (List ℕ)) (gaz : Gazetteer) (old new : PagesView) (root now : Root) → SamePages old new → now ≡ root → StandsForBut waiting gaz old.page (ends_of old root) → StandsForBut waiting gaz new.page (ends_of new now)
stands_same waiting gaz old new root now same root_is stands = record {
  is_gazetteer = stands.is_gazetteer;
  date = stands.date ∙ ap (λ (r : Root). Some r.day) (sym root_is);
  counts = ap (λ (r : Root). r.counts) root_is ∙ stands.counts;
  pairs = stands.pairs;
  tree = subst (λ (r : Root). IsTop new.page r.height r.top stands.pairs) (sym root_is) (subst (λ p. IsTop p root.height root.top stands.pairs) (sym same.pages) stands.tree);
  placeless = stands.placeless;
  slots = stands.slots;
  indexed = subst (λ p. IsIndexed stands.slots gaz (value_in waiting stands.pairs) (record_at p)) (sym same.pages) stands.indexed;
  used_once = subst (λ (r : Root). AreUsedOnce new.page r (r.heap ∷ []) (places_in stands.pairs)) (sym ends) (subst (λ p. AreUsedOnce p (ends_of old root) (root.heap ∷ []) (places_in stands.pairs)) (sym same.pages) stands.used_once);
}
  where
    ends : ends_of new now ≡ ends_of old root
    ends = ap (ends_of new) root_is ∙ ap (λ n. record root { fresh = n; free = new.free }) same.fresh ∙ ap (λ n. record root { fresh = old.fresh; free = n }) same.free

-- What stands at a place stands there still.
pub at_same : (old new : PagesView) (key : List ℕ) (pairs : List Pair) (place : ℕ) (line : List ℕ) → SamePages old new → StandsAt old key pairs place line → StandsAt new key pairs place line
at_same old new key pairs place line same at = record { at = at.at; record_is = ap (λ p. record_at p place) same.pages ∙ at.record_is }

-- A sound fault of a question is one of a step.
pub ask_rightly : (gaz : Gazetteer) (kind : Kind) (line : List ℕ) (cause : AskFault) (result : StepFault) → IsSound cause → result ≡ step_fault_by cause → IsStepFaultOf (after_line gaz kind line) result
ask_rightly gaz kind line cause result sound is = subst (IsStepFaultOf (after_line gaz kind line)) (sym is) (by cause sound)
  where
    by : (cause : AskFault) → IsSound cause → IsStepFaultOf (after_line gaz kind line) (step_fault_by cause)
    by ask.Failed sound = tt
    by (ask.Damaged page) sound = sound
    by ask.Memory sound = absurd sound

module _ (gaz : Gazetteer) (v : PagesView) (root : Root) (stands : StandsForBut [] gaz v.page (ends_of v root)) (kind : Kind) (line key : List ℕ) (one : IsTrue (is_one_line line)) (accepted : reason_against kind line ≡ None)
    (has : IsSome (key_in kind line)) (over : IsKeyOver gaz stands.slots kind line key) where
  pub numbers : List ℕ
  numbers = (numbers_of kind line has).0

  pub meets : MeetsLine stands.slots over.now gaz kind line (numbers_of kind line has).0 stands.pairs (record_at v.page)
  meets = meets_line gaz v root stands over.now kind line (numbers_of kind line has).0 one accepted (numbers_of kind line has).1 over.same over.slot

  -- A record stands at the place of the key.
  pub record_here : HasRecord key v stands.pairs
  record_here place at =
      let held = (laid_here gaz v root stands over.now kind line (numbers_of kind line has).0 key meets over.is).held place (place_there gaz v root stands over.now kind line (numbers_of kind line has).0 key meets over.is place at) in
      ap is_some held.1.at

  -- The fault of a line that comes is that of the definition.
  pub come_rightly : is_delete kind ≡ false → lookup (key_of key) stands.pairs ≡ None → IsTrue v.is_told → (fault : StepFault) → ComesRightly (table_of kind) root v fault → IsStepFaultOf (after_line gaz kind line) fault
  come_rightly puts none told (Full other) right =
      full_here gaz v root stands over.now kind line (numbers_of kind line has).0 key meets over.is puts none right.1 ∙ ap (λ t. Err (full t)) (sym right.0)
  come_rightly puts none told (Malformed reason) right = absurd right
  come_rightly puts none told (Damaged page) right =
      right stands.pairs (places_in stands.pairs) told (laid_here gaz v root stands over.now kind line (numbers_of kind line has).0 key meets over.is) (left_here gaz v root stands over.now kind line (numbers_of kind line has).0 key meets over.is)
  come_rightly puts none told Failed right = tt
  come_rightly puts none told Memory right = come_taken gaz v root stands over.now kind line (numbers_of kind line has).0 key meets over.is puts none right

  -- So is that of one that goes or is replaced.
  pub change_rightly : (place : ℕ) (was : List ℕ) → StandsAt v key stands.pairs place was → IsTrue v.is_told → (fault : StepFault) → ChangesRightly (table_of kind) root v place was fault → IsStepFaultOf (after_line gaz kind line) fault
  change_rightly place was at told (Full other) right = absurd right
  change_rightly place was at told (Malformed reason) right = absurd right
  change_rightly place was at told (Damaged page) right =
      right stands.pairs (places_in stands.pairs) told (laid_here gaz v root stands over.now kind line (numbers_of kind line has).0 key meets over.is) (left_here gaz v root stands over.now kind line (numbers_of kind line has).0 key meets over.is)
      (place_there gaz v root stands over.now kind line (numbers_of kind line has).0 key meets over.is place at.at) (was_keyed gaz v root stands over.now kind line (numbers_of kind line has).0 key meets over.is place was at)
      (was_counted gaz v root stands over.now kind line (numbers_of kind line has).0 key meets over.is place was at)
  change_rightly place was at told Failed right = tt
  change_rightly place was at told Memory right = change_taken gaz v root stands over.now kind line (numbers_of kind line has).0 key meets over.is place was at

  -- What a line has changed stands for the gazetteer after it.
  pub come_over : (new : PagesView) (last : Root) → is_delete kind ≡ false → lookup (key_of key) stands.pairs ≡ None → HasCome v new last stands.pairs (places_in stands.pairs) key (more_keys (table_of kind) line) line
      → counted root.counts (table_of kind) < limit_of (table_of kind) → last.counts ≡ recounted root.counts (table_of kind) (counted root.counts (table_of kind) + 1) → last.day ≡ root.day → HasSteppedTo gaz kind line new last
  come_over = come_stands gaz v root stands over.now kind line (numbers_of kind line has).0 key meets over.is

  pub go_over : (new : PagesView) (last : Root) (place : ℕ) (was : List ℕ) → is_delete kind ≡ true → StandsAt v key stands.pairs place was → HasGone v new last stands.pairs (places_in stands.pairs) key (more_keys (table_of kind) was) place
      → last.counts ≡ recounted root.counts (table_of kind) (counted root.counts (table_of kind) - 1) → last.day ≡ root.day → HasSteppedTo gaz kind line new last
  go_over = go_stands gaz v root stands over.now kind line (numbers_of kind line has).0 key meets over.is

  pub replace_over : (new : PagesView) (last : Root) (place : ℕ) (was : List ℕ) → is_delete kind ≡ false → StandsAt v key stands.pairs place was
      → HasReplaced v new last stands.pairs (places_in stands.pairs) key (more_keys (table_of kind) was) (more_keys (table_of kind) line) place line → last.counts ≡ root.counts → last.day ≡ root.day
      → HasSteppedTo gaz kind line new last
  replace_over = replace_stands gaz v root stands over.now kind line (numbers_of kind line has).0 key meets over.is

  pub same_over : (place : ℕ) → is_delete kind ≡ false → StandsAt v key stands.pairs place line → HasSteppedTo gaz kind line v root
  same_over = same_stands gaz v root stands over.now kind line (numbers_of kind line has).0 key meets over.is

  pub none_over : is_delete kind ≡ true → lookup (key_of key) stands.pairs ≡ None → HasSteppedTo gaz kind line v root
  none_over = none_stands gaz v root stands over.now kind line (numbers_of kind line has).0 key meets over.is

  pub laid_over : IsLaid v root stands.pairs (root.heap ∷ []) (places_in stands.pairs)
  laid_over = laid_here gaz v root stands over.now kind line (numbers_of kind line has).0 key meets over.is

  pub there_over : (place : ℕ) → lookup (key_of key) stands.pairs ≡ Some place → Contains (places_in stands.pairs) place
  there_over = place_there gaz v root stands over.now kind line (numbers_of kind line has).0 key meets over.is

  -- What stands there is what the line puts, where its table has that already.
  pub already_over : (place : ℕ) (was : List ℕ) → StandsAt v key stands.pairs place was → HasAlready gaz kind line → line_put kind line ≡ Some was
  already_over place was at has_already =
      sym (has_already (numbers_of kind line has).0 (numbers_of kind line has).1) ∙ some_found gaz v root stands over.now kind line (numbers_of kind line has).0 key meets over.is place was at

  -- Where none stands there, the table lacks what a line puts.
  pub lacking_over : is_delete kind ≡ false → lookup (key_of key) stands.pairs ≡ None → HasAlready gaz kind line → ⊥
  lacking_over puts none has_already =
      put_is_some kind line puts (sym (has_already (numbers_of kind line has).0 (numbers_of kind line has).1) ∙ none_found gaz v root stands over.now kind line (numbers_of kind line has).0 key meets over.is none)

  -- The line that its table has is the one that stands there.
  pub was_over : (place : ℕ) (was : List ℕ) → StandsAt v key stands.pairs place was → (number earlier : List ℕ) → key_in kind line ≡ Some number → line_with (table_of kind) number gaz ≡ Some earlier → earlier ≡ was
  was_over place was at number earlier keyed found =
      same_some earlier was (sym found ∙ ap (λ n. line_with (table_of kind) n gaz) (same_some number (numbers_of kind line has).0 (sym keyed ∙ (numbers_of kind line has).1))
      ∙ some_found gaz v root stands over.now kind line (numbers_of kind line has).0 key meets over.is place was at)

  pub was_key_over : (place : ℕ) (was : List ℕ) → StandsAt v key stands.pairs place was → line_key stands.slots (table_of kind) was ≡ key
  was_key_over = was_key gaz v root stands over.now kind line (numbers_of kind line has).0 key meets over.is

  -- So its table has a line.
  pub has_over : (place : ℕ) (was : List ℕ) → StandsAt v key stands.pairs place was → (number : List ℕ) → key_in kind line ≡ Some number → line_with (table_of kind) number gaz ≡ None → ⊥
  has_over place was at number keyed lacks =
      differ (sym lacks ∙ ap (λ n. line_with (table_of kind) n gaz) (same_some number (numbers_of kind line has).0 (sym keyed ∙ (numbers_of kind line has).1))
      ∙ some_found gaz v root stands over.now kind line (numbers_of kind line has).0 key meets over.is place was at)
    where
      differ : None ≡ Some was → ⊥
      differ same = cc

  pub fits_over : IsKey key
  fits_over = subst IsKey over.is (step_key stands.slots over.now gaz kind line (numbers_of kind line has).0 stands.pairs (record_at v.page) meets)

  -- Where none stands there it has none.
  pub lacks_over : lookup (key_of key) stands.pairs ≡ None → (number earlier : List ℕ) → key_in kind line ≡ Some number → line_with (table_of kind) number gaz ≡ Some earlier → ⊥
  lacks_over none number earlier keyed found =
      differ (sym (none_found gaz v root stands over.now kind line (numbers_of kind line has).0 key meets over.is none)
      ∙ ap (λ n. line_with (table_of kind) n gaz) (same_some (numbers_of kind line has).0 number (sym (numbers_of kind line has).1 ∙ keyed)) ∙ found)
    where
      differ : None ≡ Some earlier → ⊥
      differ same = cc

-- What a line speaks of has a key in its table.
pub target_keyed : (kind : Kind) (line : List ℕ) (target : Target) → IsTargetOf kind line (Some target) → IsSome (key_in kind line)
target_keyed kind line (Key key) is = is.0
target_keyed kind line (Code code) is = ap is_some is.1

-- Pages that stand for a gazetteer, behind two questions that left them as they were: the key for a line, and what stands there.
pub record Behind (gaz : Gazetteer) (v : PagesView) (root : Root) (stands : StandsForBut [] gaz v.page (ends_of v root)) (between now : PagesView) (root_between root_now : Root) (kind : Kind) (line key : List ℕ) : Type 0 where
  pub told : IsTrue now.is_told
  pub stands_between : StandsForBut [] gaz between.page (ends_of between root_between)
  pub stands_now : StandsForBut [] gaz now.page (ends_of now root_now)
  pub same_now : SamePages between now
  pub over : IsKeyOver gaz stands_now.slots kind line key
  pub same_pairs : stands_between.pairs ≡ stands_now.pairs
  pub recorded : HasRecord key between stands_between.pairs

abbrev pub behind : (gaz : Gazetteer) (v between now : PagesView) (root root_between root_now : Root) (stands : StandsForBut [] gaz v.page (ends_of v root)) (kind : Kind) (line key : List ℕ) → IsTrue (is_one_line line) → reason_against kind line ≡ None
    → IsSome (key_in kind line) → IsTrue now.is_told → SamePages v between → root_between ≡ root → SamePages between now → root_now ≡ root_between → IsKeyOver gaz stands.slots kind line key
    → Behind gaz v root stands between now root_between root_now kind line key
behind gaz v between now root root_between root_now stands kind line key one accepted has told first first_root second second_root over =
    let stands_between = stands_same [] gaz v between root root_between first first_root stands in
    record {
      told = told;
      stands_between = stands_between;
      stands_now = stands_same [] gaz between now root_between root_now second second_root stands_between;
      same_now = second;
      over = over;
      same_pairs = refl;
      recorded = record_here gaz between root_between stands_between kind line key one accepted has over;
    }

-- what follows of the value of an answer that is Ok
pub map_value : {T F : Type 0} {P Q : T → Type 0} (result : Result T F) → ((value : T) → P value → Q value) → IfOk result P → IfOk result Q
map_value (Ok value) f p = f value p
map_value (Err fault) f p = tt

-- what follows where an answer is a fault
pub map_err : {T F : Type 0} {P Q : F → Type 0} (result : Result T F) → ((fault : F) → P fault → Q fault) → IfErr result P → IfErr result Q
map_err (Ok value) f p = tt
map_err (Err fault) f p = f fault p

-- ---- where a table is full

-- The fault of a line that comes tells that its table is full where the root counts so many.
pub come_full : (kind : Kind) (root now : Root) (v : PagesView) (fault : StepFault) → now ≡ root → is_delete kind ≡ false → ComesRightly (table_of kind) now v fault → IsFullBy kind root fault
come_full kind root now v (Full other) same puts right =
    (puts, right.0, subst (λ (r : Root). limit_of (table_of kind) ≤ counted r.counts (table_of kind)) same right.1)
come_full kind root now v (Malformed reason) same puts right = tt
come_full kind root now v (Damaged page) same puts right = tt
come_full kind root now v Failed same puts right = tt
come_full kind root now v Memory same puts right = tt

-- A fault of the pages or of memory tells nothing of it.
pub pages_full : (kind : Kind) (root : Root) (fault : StepFault) → IsOfPages fault → IsFullBy kind root fault
pages_full kind root (Full other) why = absurd why
pages_full kind root (Malformed reason) why = tt
pages_full kind root (Damaged page) why = tt
pages_full kind root Failed why = tt
pages_full kind root Memory why = tt

-- Nor does one of a question.
pub ask_full : (kind : Kind) (root : Root) (cause : AskFault) (result : StepFault) → result ≡ step_fault_by cause → IsFullBy kind root result
ask_full kind root cause result is = subst (IsFullBy kind root) (sym is) (by cause)
  where
    by : (cause : AskFault) → IsFullBy kind root (step_fault_by cause)
    by ask.Failed = tt
    by (ask.Damaged page) = tt
    by ask.Memory = tt

-- ---- what a line leaves that changes nothing

pub still : (v : PagesView) (root : Root) → StandsStill v root v root
still v root = record { same = record { pages = refl; free = refl; fresh = refl }; unchanged = refl; root_same = refl }

-- Behind a call that leaves all as it was.
pub still_behind : (old mid new : PagesView) (root between now : Root) → SamePages old mid → mid.changed ≡ old.changed → between ≡ root → StandsStill mid between new now → StandsStill old root new now
still_behind old mid new root between now same unchanged root_same rest = record {
  same = record { pages = rest.same.pages ∙ same.pages; free = rest.same.free ∙ same.free; fresh = rest.same.fresh ∙ same.fresh };
  unchanged = rest.unchanged ∙ unchanged;
  root_same = rest.root_same ∙ root_same;
}
