-- The admin codes with the same first bytes: their keys are a range, and the records there are their lines.
use Rattle.std.proofs.Common.{◌≡◌, ◌<◌, ◌≤◌, ◌+◌, ◌-◌, ◌*◌, ◌^◌, ℕ, suc, Bool, true, List, [], ◌∷◌, length, filter, take, drop, refl, sym, ◌∙◌, ap, arith, subst, Option, Some, None, Result, Ok, Err}
use Rattle.std.specs.Prelude.{All, Contains, find, IsTrue, unwrap_or, option_and_then, is_some, bytes_eq, IfOk, IfErr}
use Rattle.std.proofs.lemmas.Slice.Eq.{bytes_eq-Decides}
use Rattle.std.proofs.lemmas.Map.Text.{is_eq-slice_cmp}
use Rattle.std.proofs.lemmas.List.{length-map}
use Rattle.std.proofs.lemmas.List.Sums.{length-filter, count_by-le-length}
use Rattle.std.proofs.lemmas.List.Elements.{All-contains}
use Rattle.gaz_num.specs.Pieces.{column}
use Rattle.gaz_num.specs.declared.words.Table.TheVariants.{Codes}
use Rattle.gaz_name.specs.Name.{first_bytes}
use Rattle.gaz_plain.specs.Gazetteer.{Gazetteer, line_with}
use Rattle.gaz_page.specs.declared.tree_root.Root.{Root}
use Rattle.gaz_page.specs.Pages.{PagesView}
use Rattle.gaz_heap.specs.Place.{record_at}
use Rattle.gaz_leaf.specs.Node.{Pair, key_of as number_of}
use Rattle.gaz_tree.specs.Pairs.{Within, lookup}
use Rattle.gaz_tree.specs.Tree.{IsTop}
use Rattle.gaz_scan.specs.declared.scan.Scan.{Scan}
use Rattle.gaz_scan.specs.Scan.{Comes}
use Rattle.std.proofs.Math.Nat.{mul-le-mul_left}
use Rattle.gaz_rows.specs.declared.fault.AskFault.{AskFault}
use Rattle.gaz_tree.proofs.Fans.{head_within}
use Rattle.gaz_scan.specs.Ranges.{between}
use Rattle.gaz_keys.specs.Keys.{code_key}
use Rattle.gaz_keys.specs.Parts.{tag_of, has_place, slot_of}
use Rattle.gaz_rows.specs.Index.{line_key}
use Rattle.gaz_rows.specs.Laid.{ends_of}
use Rattle.gaz_rows.specs.Store.{IsStoreBut, IsAnswer, Answers, IsSound, IsSoundOver}
use Rattle.gaz_rows.specs.Found.{HaveRecords, OverRange, Searches, SlotsRise, coded_in, has_code, like_codes, records_of, slot_in, size_found, slot_found}
use Rattle.gaz_rows.specs.Steps.{IsSlotFor}
use Rattle.gaz_rows.specs.declared.codes.Search.{Search}
use Rattle.gaz_rows.specs.declared.codes.Search.TheVariants as search
use Rattle.gaz_keys.proofs.Fit.{first_size}
use Rattle.gaz_rows.proofs.Fit.{AreBytes, code_key_fits}
use Rattle.gaz_rows.proofs.Finding.{same_found, kept_in, mapped_from, mapped_in, IsApart, no_longer}
use Rattle.gaz_rows.proofs.Keyed.{some_inj}
use Rattle.gaz_rows.proofs.Got.{value_is, line_at_tag, has_key}
use Rattle.gaz_rows.proofs.Ranged.{each_found, in_range, range_rises, found_in_range, slot_added, first_read, slot_read}
use Rattle.gaz_rows.proofs.SlotKeys.{slot_key}
use Rattle.gaz_rows.proofs.ReindexedLines.{find_has, none_is_some}
use Rattle.gaz_plain.proofs.KeyOrder.{same_key}

code_tag : (first : List ℕ) (slot : ℕ) → tag_of (code_key first slot) ≡ 6
unfolding code_key
code_tag first slot = refl

code_has : (first : List ℕ) (slot : ℕ) → has_place (tag_of (code_key first slot)) ≡ true
unfolding code_key
code_has first slot = refl

-- the record of a pair
abbrev record_of : PagesView → Pair → List ℕ
record_of v pair = unwrap_or (record_at v.page pair.value) []

module _ (waiting : List (List ℕ)) (gaz : Gazetteer) (v : PagesView) (root : Root) (stands : IsStoreBut waiting gaz v root) (code : List ℕ) (bytes : AreBytes code) where
  abbrev pub key : ℕ → List ℕ
  key slot = code_key (first_bytes 23 code) slot

  -- the pairs with keys of these first bytes
  abbrev pub range : List Pair
  range = between (number_of (key 0)) (number_of (key (2 ^ 32 - 1))) stands.pairs

  numbered : (slot : ℕ) → slot < 2 ^ 32 → number_of (key slot) ≡ number_of (key 0) + slot
  numbered = slot_added (first_bytes 23 code) (first_size 23 code)

  -- A line stands at the place of the pair, and has its key with this slot.
  record IsCoded (pair : Pair) : Type 0 where
    slot : ℕ
    small : slot < 2 ^ 32
    at : pair.key ≡ number_of (key slot)
    line : List ℕ
    there : Contains gaz.codes line
    keyed : line_key stands.slots Codes line ≡ key slot
    stands_at : record_at v.page pair.value ≡ Some line

  coded : (pair : Pair) → lookup pair.key stands.pairs ≡ Some pair.value → number_of (key 0) ≤ pair.key → pair.key ≤ number_of (key (2 ^ 32 - 1)) → IsCoded pair
  coded pair found start end =
      let last = numbered (2 ^ 32 - 1) (omega arith) in
      let slot = pair.key - number_of (key 0) in
      let small : slot < 2 ^ 32 = omega (arith, last, end, start) in
      let is : pair.key ≡ number_of (key slot) = let own = numbered slot small in omega (arith, own, start) in
      let that = line_at_tag waiting gaz v.page (ends_of v root) stands Codes (key slot) (code_key_fits code slot bytes) (code_tag (first_bytes 23 code) slot) pair.value
      (subst (λ n. lookup n stands.pairs ≡ Some pair.value) is found)
      in
      record { slot = slot; small = small; at = is; line = that.line; there = that.there; keyed = that.is; stands_at = that.stands }

  within : Within 0 (2 ^ 256) stands.pairs
  within = subst (Within 0 (2 ^ 256)) stands.tree.holds (head_within v.page stands.tree.level root.top 0 (2 ^ 256) stands.tree.head)

  all_coded : All IsCoded range
  all_coded k d below =
      let has = in_range (λ p. (0 ≤ p.key) × (lookup p.key stands.pairs ≡ Some p.value)) (number_of (key 0)) (number_of (key (2 ^ 32 - 1))) stands.pairs (each_found 0 (2 ^ 256) stands.pairs within) k d below in
      coded _ has.0.1 has.1 has.2

  pub have_records : HaveRecords v.page range
  have_records k d below = ap is_some (all_coded k d below).stands_at

  -- the record of a pair is its line
  line_is : (pair : Pair) (is : IsCoded pair) → record_of v pair ≡ is.line
  line_is pair is = ap (λ found. unwrap_or found []) is.stands_at

  -- the records are lines
  lines_are : (line : List ℕ) → Contains (records_of v.page range) line → Contains gaz.codes line
  lines_are line has =
      let from = mapped_from (record_of v) range line has in
      let is = All-contains IsCoded range from.0 all_coded from.1 in
      subst (Contains gaz.codes) (sym (line_is from.0 is) ∙ from.2) is.there

  -- a line with these first bytes is found at its key
  value_of_line : (line : List ℕ) → Contains gaz.codes line → option_and_then (record_at v.page) (lookup (number_of (line_key stands.slots Codes line)) stands.pairs) ≡ Some line
  value_of_line line there =
      ap (option_and_then (record_at v.page)) (sym (value_is waiting gaz v.page (ends_of v root) stands (line_key stands.slots Codes line) (code_has (first_bytes 23 (column 1 line)) (stands.slots (column 1 line)))))
      ∙ stands.indexed.lines Codes line there

  -- the pair of a line with these first bytes
  pub record IsPairOf (line : List ℕ) : Type 0 where
    pub pair : Pair
    pub among : Contains range pair
    pub at : pair.key ≡ number_of (key (stands.slots (column 1 line)))
    pub stands_at : record_at v.page pair.value ≡ Some line

  pub pair_of : (line : List ℕ) → Contains gaz.codes line → first_bytes 23 (column 1 line) ≡ first_bytes 23 code → IsPairOf line
  pair_of line there same = by (lookup (number_of (key slot)) stands.pairs) refl (subst (λ first. option_and_then (record_at v.page) (lookup (number_of (code_key first slot)) stands.pairs) ≡ Some line) same (value_of_line line there))
    where
      slot : ℕ
      slot = stands.slots (column 1 line)

      small : slot < 2 ^ 32
      small = stands.indexed.slots_differ.fit line there

      by : (found : Option ℕ) → lookup (number_of (key slot)) stands.pairs ≡ found → option_and_then (record_at v.page) found ≡ Some line → IsPairOf line
      by None is stands_at = absurd (cc)
      by (Some place) is stands_at =
          let own = numbered slot small in
          let last = numbered (2 ^ 32 - 1) (omega arith) in
          record {
            pair = record { key = number_of (key slot); value = place };
            among = found_in_range (number_of (key 0)) (number_of (key (2 ^ 32 - 1))) (number_of (key slot)) place stands.pairs is (omega (arith, own)) (omega (arith, own, last, small));
            at = refl;
            stands_at = stands_at;
          }

  among_records : (line : List ℕ) → Contains gaz.codes line → first_bytes 23 (column 1 line) ≡ first_bytes 23 code → Contains (records_of v.page range) line
  among_records line there same =
      let of = pair_of line there same in
      subst (Contains (records_of v.page range)) (ap (λ found. unwrap_or found []) of.stands_at) (mapped_in (record_of v) range of.pair of.among)

  -- only one line has the code
  one_has_code : (line another : List ℕ) → Contains gaz.codes line → Contains gaz.codes another → has_code code line ≡ true → has_code code another ≡ true → line ≡ another
  one_has_code line another there also is too =
      let same : column 1 line ≡ column 1 another = (bytes_eq-Decides (column 1 line) code).0 is ∙ sym ((bytes_eq-Decides (column 1 another) code).0 too) in
      some_inj line another (sym (value_of_line line there)
      ∙ ap (λ text. option_and_then (record_at v.page) (lookup (number_of (code_key (first_bytes 23 text) (stands.slots text))) stands.pairs)) same
      ∙ value_of_line another also)

  -- Of the records of the range the one with the code is the line.
  pub code_found : coded_in code v.page range ≡ line_with Codes code gaz
  code_found =
      same_found (has_code code) gaz.codes (records_of v.page range) lines_are
      (λ line there is. among_records line there (ap (first_bytes 23) ((bytes_eq-Decides (column 1 line) code).0 is)))
      one_has_code
      ∙ (λ i. find (λ line. sym (is_eq-slice_cmp (column 1 line) code) i) gaz.codes)

  -- the line of a pair has these first bytes
  like : (pair : Pair) (is : IsCoded pair) → first_bytes 23 (column 1 is.line) ≡ first_bytes 23 code
  like pair is =
      sym (first_read (first_bytes 23 (column 1 is.line)) (first_size 23 (column 1 is.line)) (stands.slots (column 1 is.line)))
      ∙ ap (λ k. take 23 (drop 1 k)) is.keyed
      ∙ first_read (first_bytes 23 code) (first_size 23 code) is.slot

  -- pairs with one line have one key
  same_pair : (a b : Pair) → IsCoded a → IsCoded b → record_of v a ≡ record_of v b → a.key ≡ b.key
  same_pair a b is also same =
      let line : is.line ≡ also.line = sym (line_is a is) ∙ same ∙ line_is b also in
      is.at ∙ ap number_of (sym is.keyed ∙ ap (line_key stands.slots Codes) line ∙ also.keyed) ∙ sym also.at

  apart_in : (low high : ℕ) (ps : List Pair) → Within low high ps → All IsCoded ps → IsApart (records_of v.page ps)
  apart_in low high [] rises all = tt
  apart_in low high (p ∷ ps) rises all =
      let rest : All IsCoded ps = λ k d below. all (suc k) d (omega (arith, below)) in (
        λ has.
            let from = mapped_from (record_of v) ps (record_of v p) has in
            let above = (All-contains (λ q. (suc p.key ≤ q.key) × (lookup q.key ps ≡ Some q.value)) ps from.0 (each_found (suc p.key) high ps rises.1) from.1).0 in
            let same = same_pair from.0 p (All-contains IsCoded ps from.0 rest from.1) (all 0 p (omega arith)) from.2 in
            absurd (omega (arith, above, same)),
        apart_in (suc p.key) high ps rises.1 rest,
      )

  -- There are no more pairs than codes with these first bytes.
  pub range_few : length range ≤ like_codes gaz code
  range_few =
      let like_one : List ℕ → Bool = λ line. bytes_eq (first_bytes 23 (column 1 line)) (first_bytes 23 code) in
      let few = no_longer (records_of v.page range) (filter like_one gaz.codes)
      (apart_in 0 (2 ^ 256) range (range_rises (number_of (key 0)) (number_of (key (2 ^ 32 - 1))) 0 (2 ^ 256) stands.pairs within) all_coded)
      (λ line has.
      let from = mapped_from (record_of v) range line has in
      let is = All-contains IsCoded range from.0 all_coded from.1 in
      let line_here : is.line ≡ line = sym (line_is from.0 is) ∙ from.2 in
      kept_in like_one gaz.codes line (lines_are line has)
      ((bytes_eq-Decides (first_bytes 23 (column 1 line)) (first_bytes 23 code)).1 (ap (λ l. first_bytes 23 (column 1 l)) (sym line_here) ∙ like from.0 is)))
      in
      let long = length-map range (record_of v) in
      let counted = length-filter like_one gaz.codes in
      omega (arith, few, long, counted)

  -- so there are no more than codes
  pub range_within : length range ≤ root.counts.codes
  range_within =
      let few = range_few in
      let most = count_by-le-length (λ line. bytes_eq (first_bytes 23 (column 1 line)) (first_bytes 23 code)) gaz.codes in
      let counts = ap (λ c. c.codes) stands.counts in
      omega (arith, few, most, counts)

  -- ---- their slots

  slot_at_key : (slot : ℕ) → slot < 2 ^ 32 → slot_in (number_of (key slot)) ≡ slot
  slot_at_key slot small =
      let read = slot_read (first_bytes 23 code) (first_size 23 code) slot small in
      slot_key (key slot) (subst (λ n. n < 2 ^ 32) (sym read) small) ∙ read

  -- the slot in the key of a pair is that of its line
  slot_is : (pair : Pair) (is : IsCoded pair) → slot_in pair.key ≡ stands.slots (column 1 is.line)
  slot_is pair is =
      ap slot_in is.at
      ∙ slot_at_key is.slot is.small
      ∙ sym (sym (slot_read (first_bytes 23 (column 1 is.line)) (first_size 23 (column 1 is.line)) (stands.slots (column 1 is.line)) (stands.indexed.slots_differ.fit is.line is.there))
      ∙ ap slot_of is.keyed
      ∙ slot_read (first_bytes 23 code) (first_size 23 code) is.slot is.small)

  rise_from : (least low high : ℕ) (ps : List Pair) → least ≤ low - number_of (key 0) → Within low high ps → All IsCoded ps → SlotsRise least ps
  rise_from least low high [] at rises all = tt
  rise_from least low high (p ∷ ps) at rises all =
      let is = all 0 p (omega arith) in
      let own = numbered is.slot is.small in
      let here = ap slot_in is.at ∙ slot_at_key is.slot is.small in
      let number = is.at in
      let start = rises.0 in (
        omega (arith, at, own, here, number, start),
        rise_from (suc (slot_in p.key)) (suc p.key) high ps (omega (arith, own, here, number)) rises.1 (λ k d below. all (suc k) d (omega (arith, below))),
      )

  slots_rise : SlotsRise 0 range
  slots_rise = rise_from 0 0 (2 ^ 256) range (omega arith) (range_rises (number_of (key 0)) (number_of (key (2 ^ 32 - 1))) 0 (2 ^ 256) stands.pairs within) all_coded

  coded_pair : (pair : Pair) → Contains range pair → IsCoded pair
  coded_pair pair has = All-contains IsCoded range pair all_coded has

  -- A search among them comes to the line with the code, or to none.
  pub search_line : (buf : List ℕ) (search : Search) → Searches code v.page buf range search → IsAnswer (line_with Codes code gaz) buf (size_found search)
  search_line buf (search.Found slot size) found = sym code_found ∙ found.0
  search_line buf (search.Free slot) found = sym code_found ∙ found.0

  -- It comes to the slot for the code.
  pub search_slot : (buf : List ℕ) (search : Search) → Searches code v.page buf range search → IsSlotFor stands.slots gaz code (slot_found search)
  search_slot buf (search.Found slot size) found =
      let here = sym code_found ∙ found.0 in
      let pair = found.1.pair in
      let is = coded_pair pair found.1.there in
      let line : is.line ≡ take size buf = some_inj is.line (take size buf) (sym is.stands_at ∙ found.1.stands) in
      record {
        own = λ was has.
            let has_it = find_has (has_key Codes code) gaz.codes was has in
            let same : column 1 is.line ≡ code = ap (column 1) (line ∙ some_inj (take size buf) was (sym here ∙ has)) ∙ same_key (column 1 was) code has_it.1 in
            ap stands.slots (sym same) ∙ sym (slot_is pair is) ∙ found.1.at;
        new = λ none. absurd (none_is_some (take size buf) (sym none ∙ here));
        least = λ none. absurd (none_is_some (take size buf) (sym none ∙ here));
      }
  search_slot buf (search.Free slot) found = record {
    own = λ was has. absurd (none_is_some was (sym found.0 ∙ code_found ∙ has));
    new = λ none. (
      found.1.small,
      λ line there same is.
          let of = pair_of line there same in
          found.1.free slots_rise of.pair of.among (ap slot_in of.at ∙ slot_at_key (stands.slots (column 1 line)) (stands.indexed.slots_differ.fit line there) ∙ is),
    );
    least = λ none less below.
        let from = found.1.taken less below in
        let is = coded_pair from.0 from.1 in
        (is.line, is.there, like from.0 is, sym (slot_is from.0 is) ∙ from.2);
  }

  -- what is said of a scan over the range holds of it
  pub over_range : (P : List Pair → Type 0) (scan : Scan) (low high : List ℕ) → low ≡ key 0 → high ≡ key (2 ^ 32 - 1) → IsTrue v.is_told
      → ((pages : ℕ → List ℕ) (pairs : List Pair) → IsTop pages root.height root.top pairs → Comes pages scan (between (number_of low) (number_of high) pairs))
      → OverRange root.counts.codes v scan P → P range
  over_range P scan low high low_is high_is told comes over =
      over told range
      (subst (λ to. Comes v.page scan (between (number_of (key 0)) (number_of to) stands.pairs)) high_is
      (subst (λ from. Comes v.page scan (between (number_of from) (number_of high) stands.pairs)) low_is (comes v.page stands.pairs stands.tree)))
      have_records range_within

-- the first key with these first bytes, and the last
abbrev pub AreBounds : List ℕ → List ℕ → List ℕ → Type 0
AreBounds code low high = (low ≡ code_key (first_bytes 23 code) 0) × (high ≡ code_key (first_bytes 23 code) (2 ^ 32 - 1))

-- The scan goes over the pairs with keys between these.
abbrev pub Begins : Root → Scan → List ℕ → List ℕ → Type 0
Begins root scan low high = (pages : ℕ → List ℕ) (pairs : List Pair) → IsTop pages root.height root.top pairs → Comes pages scan (between (number_of low) (number_of high) pairs)

module _ (v : PagesView) (root : Root) (code : List ℕ) (bytes : AreBytes code) (scan : Scan) (low high : List ℕ) (bounds : AreBounds code low high) (begins : Begins root scan low high) where
  pub code_answered : {E : Type 0} (buf : List ℕ) (result : Result Search E) → IfOk result (λ search. OverRange root.counts.codes v scan (λ left. Searches code v.page buf left search)) → IfOk result (λ search. Answers Codes code v root buf (size_found search))
  code_answered buf (Ok search) finds = λ told waiting gaz stands.
      search_line waiting gaz v root stands code bytes buf search
      (over_range waiting gaz v root stands code bytes (λ left. Searches code v.page buf left search) scan low high bounds.0 bounds.1 told begins finds)
  code_answered buf (Err fault) finds = tt

  pub code_slot : {E : Type 0} (buf : List ℕ) (result : Result Search E) → IfOk result (λ search. OverRange root.counts.codes v scan (λ left. Searches code v.page buf left search))
      → IfOk result (λ search. IsTrue v.is_told → (waiting : List (List ℕ)) (gaz : Gazetteer) → (stands : IsStoreBut waiting gaz v root) → IsSlotFor stands.slots gaz code (slot_found search))
  code_slot buf (Ok search) finds = λ told waiting gaz stands.
      search_slot waiting gaz v root stands code bytes buf search
      (over_range waiting gaz v root stands code bytes (λ left. Searches code v.page buf left search) scan low high bounds.0 bounds.1 told begins finds)
  code_slot buf (Err fault) finds = tt

  pub code_sound : {T : Type 0} (result : Result T AskFault) → IfErr result (λ fault. OverRange root.counts.codes v scan (λ left. IsSound fault)) → IfErr result (IsSoundOver v root)
  code_sound (Ok given) fails = tt
  code_sound (Err fault) fails = λ told waiting gaz stands.
      over_range waiting gaz v root stands code bytes (λ left. IsSound fault) scan low high bounds.0 bounds.1 told begins fails

  pub code_reads : (reads each : ℕ) → OverRange root.counts.codes v scan (λ left. reads ≤ v.reads + each * (length left + 1))
      → IsTrue v.is_told → (waiting : List (List ℕ)) (gaz : Gazetteer) → IsStoreBut waiting gaz v root → reads ≤ v.reads + each * (like_codes gaz code + 1)
  code_reads reads each few told waiting gaz stands =
      let pairs = range waiting gaz v root stands code bytes in
      let most : each * (length pairs + 1) ≤ each * (like_codes gaz code + 1) = let few_pairs = range_few waiting gaz v root stands code bytes in mul-le-mul_left each (omega (arith, few_pairs)) in
      let some = over_range waiting gaz v root stands code bytes (λ left. reads ≤ v.reads + each * (length left + 1)) scan low high bounds.0 bounds.1 told begins few in
      omega (arith, most, some)
