-- A record that is put leaves pages laid.
use Rattle.std.proofs.Common.{◌≡◌, ◌≢◌, ◌≤◌, ◌<◌, ◌-◌, ◌+◌, ◌*◌, ◌⊎◌, ℕ, true, false, List, [], ◌∷◌, refl, sym, ap, ◌∙◌, subst, arith, inl, inr}
use Rattle.std.specs.Prelude.{IsTrue, Contains}
use Rattle.std.proofs.lemmas.Bool.{cases_Bool, cases_eq, cases_lt}
use Rattle.gaz_page.specs.declared.tree_root.Root.{Root}
use Rattle.gaz_page.specs.Pages.{PagesView}
use Rattle.gaz_page.specs.Chains.{Among, InUse, IsTakenSince}
use Rattle.gaz_leaf.specs.Node.{Pair}
use Rattle.gaz_slots.specs.RecordPage.{is_record_page, is_used}
use Rattle.gaz_slots.proofs.PageKinds.{overflow_not_record}
use Rattle.gaz_tree.specs.Stands.{OfTree}
use Rattle.gaz_tree.proofs.Changed.{reach_on}
use Rattle.gaz_tree.proofs.Chains.{left_one, on_chain}
use Rattle.gaz_heap.specs.Heap.{HasUsed}
use Rattle.gaz_heap.specs.Place.{pages_of, page_of, is_chain, record_at}
use Rattle.gaz_heap.specs.Facts.{Holds, StillHolds, ShareNone, Puts}
use Rattle.gaz_heap.proofs.Holds.{nothing, pages_slot}
use Rattle.gaz_heap.proofs.LongPuts.{among_or_not, each_at}
use Rattle.gaz_heap.proofs.StoredPuts.{the_page, no_chain}
use Rattle.gaz_keys.proofs.Tags.{contained, contained_none}
use Rattle.gaz_together.proofs.Keeps.{tree_after_put}
use Rattle.gaz_rows.specs.Stands.{Use, tree, slots, chain, free, HasSlots, IsFor}
use Rattle.gaz_rows.specs.Laid.{IsLaid, LaidWith, HasRoom, ends_of, tree_in, AfterRecordPut, AfterRecordPutAlone}
use Rattle.gaz_rows.proofs.LaidForms.{slot_form, contains_of, among_of, tree_form, tree_not_slots, tree_not_free, free_not_slots}
use Rattle.gaz_rows.proofs.LaidParts.{Parts, laid_of, free_of, free_form, apart_of, low_of, heap_of, records_of, place_form, chain_page_form, more_slots, slots_at}
use Rattle.gaz_rows.proofs.LaidSlots.{used_has, used_small, slot_small, used_back, slot_at, near_place, is_used_by, used_by, used_if}
use Rattle.gaz_rows.proofs.LaidKept.{IsKeptBy, fewer_kept}
use Rattle.gaz_rows.proofs.Members.{head_is_in, tail_is_in}

module _ (old new : PagesView) (root : Root) (pairs : List Pair) (current now : ℕ) (kept places : List ℕ) (bytes : List ℕ) (place : ℕ)
    (laid : IsLaid old root pairs kept places) (current_is : (current ≡ 0) ⊎ Contains kept current) (behind : (now ≡ current) ⊎ ((current ≡ 0) ⊎ HasUsed (old.page current)))
    (puts : Puts old new current now laid.tree.chain.frees bytes place) where
  -- the records of before
  still : (other : ℕ) (is : Contains places other) → StillHolds old new other (laid.held other is).0
  still other is = puts.others other (laid.held other is).0 (laid.held other is).1

  tree_stays : (n : ℕ) → OfTree old.page (tree_in root) n → new.page n ≡ old.page n
  tree_stays n reach = puts.stays n (λ among.
      let form = tree_form old (tree_in root) pairs n laid.tree reach in
      elim (puts.owns n among) [
        | inl here ↦ tree_not_slots n (old.page n) form here.1
        | inr more ↦ elim more [
          | inl free_ ↦ tree_not_free n (old.page n) form (free_form old root pairs kept places laid n free_)
          | inr past ↦ (let lies = laid.tree.lies n reach in omega (arith, past, lies.end))
        ]
      ])

  -- a page of the place that had slots was the one for new records
  was_current : (n : ℕ) → HasSlots kept places n → Among (pages_of new.page place) n → n ≡ current
  was_current n has among = elim (puts.owns n among) [
    | inl here ↦ here.0
    | inr more ↦ elim more [
      | inl free_ ↦ absurd (free_not_slots n (old.page n) (free_form old root pairs kept places laid n free_) (laid.used_once.in_form n has))
      | inr past ↦ absurd (let low = low_of old root pairs kept places laid n has in omega (arith, past, low.1))
    ]
  ]

  slot_holds : (n slot : ℕ) → slot < 65535 → (earlier : List ℕ) → Holds new (n * 65536 + slot) earlier → is_record_page n (new.page n) ≡ true
  slot_holds n slot small earlier has =
      subst (λ (k : ℕ). is_record_page k (new.page k) ≡ true) (the_page n slot small) (slot_form new (n * 65536 + slot) earlier (no_chain n slot small) has.at)

  -- a page with a used slot has one still
  used_form : (n : ℕ) → HasSlots kept places n → HasUsed (old.page n) → is_record_page n (new.page n) ≡ true
  used_form n has used =
      let there = laid.used_once.no_more n used.0 has (is_used_by (old.page n) used.0 used.1 used.2) in
      slot_holds n used.0 (slot_small n used.0 (old.page n) (laid.used_once.in_form n has) used.1) (laid.held (n * 65536 + used.0) there).0 (still (n * 65536 + used.0) there).holds

  now_form : (n : ℕ) → now ≡ n → n ≢ 0 → is_record_page n (new.page n) ≡ true
  now_form n is some = elim (puts.records (records_of old root pairs kept places laid current current_is)) [
    | inl none_ ↦ absurd (some (sym is ∙ none_))
    | inr form ↦ subst (λ (k : ℕ). is_record_page k (new.page k) ≡ true) is form
  ]

  kept_form : (n : ℕ) → Contains kept n → n ≢ 0 → is_record_page n (new.page n) ≡ true
  kept_form n has some = elim (among_or_not (pages_of new.page place) n) [
    | inr away ↦ subst (λ (p : List ℕ). is_record_page n p ≡ true) (sym (puts.stays n away)) (laid.used_once.in_form n (inr (has, some)))
    | inl here ↦
        let is = was_current n (inr (has, some)) here in
        elim behind [
          | inl same ↦ now_form n (same ∙ sym is) some
          | inr more ↦ elim more [
            | inl none_ ↦ absurd (some (is ∙ none_))
            | inr used ↦ used_form n (inr (has, some)) (subst (λ (k : ℕ). HasUsed (old.page k)) (sym is) used)
          ]
        ]
  ]

  forms : (n : ℕ) → HasSlots (now ∷ kept) (place ∷ places) n → is_record_page n (new.page n) ≡ true
  forms n (inl slot) = elim (contained place places (n * 65536 + slot.0) slot.2) [
    | inl is ↦ slot_holds n slot.0 slot.1 bytes (subst (λ (p : ℕ). Holds new p bytes) is puts.holds)
    | inr there ↦ slot_holds n slot.0 slot.1 (laid.held (n * 65536 + slot.0) there).0 (still (n * 65536 + slot.0) there).holds
  ]
  forms n (inr kept_is) = elim (contained now kept n kept_is.0) [
    | inl is ↦ now_form n is kept_is.1
    | inr has ↦ kept_form n has kept_is.1
  ]

  was_low : (n : ℕ) → HasSlots kept places n → InUse new n
  was_low n has = let was = low_of old root pairs kept places laid n has in (was.0, omega (arith, was.1, puts.grows))

  its_page : is_chain place ≡ false → Among (pages_of new.page place) (page_of place)
  its_page slotted = subst (λ (l : List ℕ). Among l (page_of place)) (sym (pages_slot new.page place slotted)) (inl refl)

  lows : (n : ℕ) → HasSlots (now ∷ kept) (place ∷ places) n → InUse new n
  lows n (inl slot) = elim (contained place places (n * 65536 + slot.0) slot.2) [
    | inl is ↦
        let here : page_of place ≡ n = ap (λ (p : ℕ). page_of p) is ∙ the_page n slot.0 slot.1 in
        let slotted : is_chain place ≡ false = subst (λ (p : ℕ). is_chain p ≡ false) (sym is) (no_chain n slot.0 slot.1) in
        subst (InUse new) here (each_at (InUse new) (pages_of new.page place) (page_of place) puts.holds.pages (its_page slotted))
    | inr there ↦ was_low n (inl (slot.0, slot.1, there))
  ]
  lows n (inr kept_is) = elim (contained now kept n kept_is.0) [
    | inl is ↦ elim puts.heap.page [
      | inl none_ ↦ absurd (kept_is.1 (sym is ∙ none_))
      | inr in_use ↦ subst (InUse new) is in_use
    ]
    | inr has ↦ was_low n (inr (has, kept_is.1))
  ]

  -- a record page in form that was taken once had slots
  had_slots : (n : ℕ) → 1 ≤ n → n < old.fresh → is_record_page n (old.page n) ≡ true → HasSlots kept places n
  had_slots n some low form = let was = laid.used_once.used n some low in by was.0 was.1
    where
      by : (what : Use) → IsFor old.page (ends_of old root) kept places laid.used_once.frees what n → HasSlots kept places n
      by tree is = absurd (tree_not_slots n (old.page n) (tree_form old (tree_in root) pairs n laid.tree is) form)
      by slots is = is
      by (chain p) is =
          let held = laid.held p is.0 in
          absurd (overflow_not_record n n (old.page n) (chain_page_form old p held.0 n is.1 held.1 (among_of (pages_of old.page p) n is.2)) form)
      by free is =
          absurd (free_not_slots n (old.page n) (free_form old root pairs kept places laid n (free_of old root pairs kept places laid n is)) form)

  -- a used slot of a page that stayed
  used_away : (n slot : ℕ) → HasSlots (now ∷ kept) (place ∷ places) n → (Among (pages_of new.page place) n → ⊥) → IsTrue (is_used (new.page n) slot) → Contains (place ∷ places) (n * 65536 + slot)
  used_away n slot has away used =
      let low = lows n has in
      let form = forms n has in
      let same = puts.stays n away in
      elim (cases_lt n old.fresh) [
        | inl below ↦
            let had = had_slots n low.0 below (subst (λ (p : List ℕ). is_record_page n p ≡ true) same form) in
            tail_is_in place places (n * 65536 + slot) (laid.used_once.no_more n slot had (subst (λ (p : List ℕ). IsTrue (is_used p slot)) same used))
        | inr past ↦ elim (puts.taken n (inr (past, low.1))) [
          | inl free_ ↦ absurd (free_not_slots n (new.page n) (on_chain new new.free n puts.left puts.heap.chain free_) form)
          | inr here ↦ absurd (away here)
        ]
      ]

  -- a used slot of the page of the place
  used_here : (n slot : ℕ) → HasSlots (now ∷ kept) (place ∷ places) n → n ≡ page_of place → IsTrue (is_used (new.page n) slot) → Contains (place ∷ places) (n * 65536 + slot)
  used_here n slot has is used =
      let low = lows n has in
      let form = forms n has in
      let small = used_small n slot (new.page n) form used in
      let near : n < 4294967296 = subst (λ (k : ℕ). k < 4294967296) (sym is) (near_place new.page place bytes puts.holds.at) in
      let its = used_has (new.page n) slot used in
      let there = slot_at new.page n slot near small form ∙ its.1 in
      let page_is = the_page n slot small in
      elim (cases_eq (n * 65536 + slot) place) [
        | inl same ↦ subst (Contains (place ∷ places)) (sym same) (head_is_in place places)
        | inr differs ↦
            let stays = puts.slots (n * 65536 + slot) (λ long. (let wrong = sym long ∙ no_chain n slot small in cc)) differs (subst (InUse new) (sym page_is) low) in
            elim (cases_lt n old.fresh) [
              | inr past ↦ absurd (nothing its.0 (record_at new.page (n * 65536 + slot)) (stays.1 (λ in_use. omega (arith, past, in_use.1, page_is))) there)
              | inl below ↦
                  let same = stays.0 (subst (InUse old) (sym page_is) (low.0, below)) in
                  let was_form = subst (λ (k : ℕ). is_record_page k (old.page k) ≡ true) page_is (slot_form old (n * 65536 + slot) its.0 (no_chain n slot small) (sym same ∙ there)) in
                  tail_is_in place places (n * 65536 + slot)
                  (laid.used_once.no_more n slot (had_slots n low.0 below was_form) (used_back old.page new.page n slot near small form was_form same used))
            ]
      ]

  no_more_now : (n slot : ℕ) → HasSlots (now ∷ kept) (place ∷ places) n → IsTrue (is_used (new.page n) slot) → Contains (place ∷ places) (n * 65536 + slot)
  no_more_now n slot has used = elim (among_or_not (pages_of new.page place) n) [
    | inr away ↦ used_away n slot has away used
    | inl here ↦ elim (place_form new place bytes n puts.holds here) [
      | inl long ↦ absurd (overflow_not_record n n (new.page n) long.1 (forms n has))
      | inr short ↦ used_here n slot has short.1 used
    ]
  ]

  -- what a page that was free or never taken is for now
  taken_now : (n : ℕ) → Among laid.tree.chain.frees n ⊎ IsTakenSince old new n → (what : Use) × IsFor new.page (ends_of new root) (now ∷ kept) (place ∷ places) puts.left what n
  taken_now n was = elim (puts.taken n was) [
    | inl free_ ↦ (free, contains_of puts.left n free_)
    | inr here ↦ elim (cases_Bool (is_chain place)) [
      | inl long ↦ (chain place, (head_is_in place places, long, contains_of (pages_of new.page place) n here))
      | inr slotted ↦ elim (subst (λ (l : List ℕ). Among l n) (pages_slot new.page place slotted) here) [
        | inl is ↦ (slots, subst (HasSlots (now ∷ kept) (place ∷ places)) (sym is) (slots_at (now ∷ kept) (place ∷ places) place slotted (head_is_in place places)))
        | inr nowhere ↦ absurd nowhere
      ]
    ]
  ]

  use_now : (what : Use) (n : ℕ) → IsFor old.page (ends_of old root) kept places laid.used_once.frees what n → (now_for : Use) × IsFor new.page (ends_of new root) (now ∷ kept) (place ∷ places) puts.left now_for n
  use_now tree n is = (tree, reach_on old.page new.page (root.height - 1) root.top n tree_stays is)
  use_now slots n is = (slots, more_slots kept (now ∷ kept) places (place ∷ places) (tail_is_in now kept) (tail_is_in place places) n is)
  use_now (chain p) n is = (chain p, (tail_is_in place places p is.0, is.1, subst (λ (l : List ℕ). Contains l n) (sym (still p is.0).pages) is.2))
  use_now free n is = taken_now n (inl (free_of old root pairs kept places laid n is))

  -- two places share no page
  apart : (one other : ℕ) → Contains (place ∷ places) one → Contains (place ∷ places) other → one ≢ other → ShareNone new one other
  apart one other a b differ = elim (contained place places one a) [
    | inl is ↦ elim (contained place places other b) [
      | inl also ↦ absurd (differ (sym is ∙ also))
      | inr there ↦ subst (λ (p : ℕ). ShareNone new p other) is (puts.apart other (laid.held other there).0 (laid.held other there).1)
    ]
    | inr here ↦ elim (contained place places other b) [
      | inl also ↦
          let share = subst (λ (p : ℕ). ShareNone new p one) also (puts.apart one (laid.held one here).0 (laid.held one here).1) in
          λ long longer n mine theirs. share longer long n theirs mine
      | inr there ↦ λ long longer n mine theirs.
          apart_of old root pairs kept places laid one other here there differ long longer n
          (subst (λ (l : List ℕ). Among l n) (still one here).pages mine) (subst (λ (l : List ℕ). Among l n) (still other there).pages theirs)
    ]
  ]

  held_now : (other : ℕ) → Contains (place ∷ places) other → (its : List ℕ) × Holds new other its
  held_now other has = elim (contained place places other has) [
    | inl is ↦ (bytes, subst (λ (p : ℕ). Holds new p bytes) is puts.holds)
    | inr there ↦ ((laid.held other there).0, (still other there).holds)
  ]

  parts : Parts new root pairs (now ∷ kept) (place ∷ places)
  parts = record {
    tree_is = tree_after_put old new (tree_in root) pairs current now laid.tree.chain.frees bytes place laid.tree (heap_of old root pairs kept places laid current current_is) puts;
    held = held_now;
    frees = puts.left;
    chain_is = puts.heap.chain;
    used = λ n some below. elim (cases_lt n old.fresh) [
      | inl low ↦ (let was = laid.used_once.used n some low in use_now was.0 n was.1)
      | inr past ↦ taken_now n (inr (past, below))
    ];
    low = lows;
    in_form = forms;
    no_more = no_more_now;
    apart = apart;
  }

  room_left : (n : ℕ) → HasRoom (n + 17) old → HasRoom n new
  room_left n room then =
      let least = room laid.tree.chain in
      let same = left_one new (record { frees = puts.left; chain = puts.heap.chain }) then in
      omega (arith, least, puts.takes, puts.grows, same)

  pub was_put : LaidWith old new root pairs now kept places bytes place
  was_put = record {
    laid = laid_of new root pairs (now ∷ kept) (place ∷ places) parts;
    there = puts.holds.at;
    unlisted = λ is. puts.unlisted (laid.held place is).0 (laid.held place is).1;
    same = λ other is. (still other is).holds.at ∙ sym (laid.held other is).1.at;
    room = room_left;
  }

  -- A page for new records that was changed for another one has a used slot still.
  pub used_still : current ≢ 0 → HasUsed (old.page current) → HasUsed (new.page current)
  used_still some used =
      let kept_is : Contains kept current = elim current_is [ inl none_ ↦ absurd (some none_) | inr has ↦ has ] in
      let has : HasSlots kept places current = inr (kept_is, some) in
      let small = slot_small current used.0 (old.page current) (laid.used_once.in_form current has) used.1 in
      let there = laid.used_once.no_more current used.0 has (is_used_by (old.page current) used.0 used.1 used.2) in
      let holds = (still (current * 65536 + used.0) there).holds in
      let near : current < 4294967296 = subst (λ (k : ℕ). k < 4294967296) (the_page current used.0 small) (near_place new.page (current * 65536 + used.0) (laid.held (current * 65536 + used.0) there).0 holds.at) in
      let form = used_form current has used in
      let is_it = used_if (new.page current) used.0 (laid.held (current * 65536 + used.0) there).0 (sym (slot_at new.page current used.0 near small form) ∙ holds.at) in
      (used.0, (used_by (new.page current) used.0 is_it).0, (used_by (new.page current) used.0 is_it).1)

pub after_record_put : AfterRecordPut
after_record_put old new root pairs current now kept places bytes place laid current_is behind puts = was_put old new root pairs current now kept places bytes place laid current_is behind puts

pub after_record_put_alone : AfterRecordPutAlone
after_record_put_alone old new root pairs current now places bytes place laid behind puts =
    let with_it = was_put old new root pairs current now (current ∷ []) places bytes place laid (inr (head_is_in current [])) behind puts in
    record {
      laid = fewer_kept new root pairs (now ∷ current ∷ []) (now ∷ []) (place ∷ places) with_it.laid within kept_by;
      there = with_it.there;
      unlisted = with_it.unlisted;
      same = with_it.same;
      room = with_it.room;
    }
  where
    within : (n : ℕ) → Contains (now ∷ []) n → Contains (now ∷ current ∷ []) n
    within n has = elim (contained now [] n has) [
      | inl is ↦ subst (Contains (now ∷ current ∷ [])) is (head_is_in now (current ∷ []))
      | inr nowhere ↦ absurd (contained_none n nowhere)
    ]

    current_by : IsKeptBy new (now ∷ []) current
    current_by = elim behind [
      | inl same ↦ inr (inr (subst (Contains (now ∷ [])) same (head_is_in now [])))
      | inr more ↦ elim more [
        | inl none_ ↦ inl none_
        | inr used ↦ elim (cases_eq current 0) [
          | inl none_ ↦ inl none_
          | inr some ↦ inr (inl (used_still old new root pairs current now (current ∷ []) places bytes place laid (inr (head_is_in current [])) (inr (inr used)) puts some used))
        ]
      ]
    ]

    kept_by : (n : ℕ) → Contains (now ∷ current ∷ []) n → IsKeptBy new (now ∷ []) n
    kept_by n has = elim (contained now (current ∷ []) n has) [
      | inl is ↦ inr (inr (subst (Contains (now ∷ [])) is (head_is_in now [])))
      | inr more ↦ elim (contained current [] n more) [
        | inl is ↦ subst (IsKeptBy new (now ∷ [])) is current_by
        | inr nowhere ↦ absurd (contained_none n nowhere)
      ]
    ]
