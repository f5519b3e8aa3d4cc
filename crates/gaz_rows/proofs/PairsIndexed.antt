-- The pairs and the records after a step hold the gazetteer after it.
use Rattle.std.proofs.Common.{◌≡◌, ◌+◌, ◌-◌, ◌^◌, ℕ, List, [], ◌∷◌, refl, sym, ◌∙◌, ap, subst, true, false, Bool, Option, Some, None, Ok}
use Rattle.std.specs.Prelude.{Contains, IsSome, is_some, option_map, option_and_then, unwrap_or, if◌then◌else◌}
use Rattle.std.proofs.lemmas.List.Elements.{All-contains}
use Rattle.gaz_num.specs.Numbers.{id_in}
use Rattle.gaz_num.specs.Pieces.{column}
use Rattle.gaz_num.specs.Check.{reason_against, key_in}
use Rattle.gaz_num.specs.declared.words.Kind.{Kind}
use Rattle.gaz_num.specs.declared.words.Kind.TheVariants.{Row, RowDelete, Alt, AltDelete, Link, Country}
use Rattle.gaz_num.specs.declared.words.Kind.TheVariants as kind
use Rattle.gaz_num.specs.declared.words.Table.{Table}
use Rattle.gaz_num.specs.declared.words.Table.TheVariants.{Rows, Alternates}
use Rattle.gaz_plain.specs.Gazetteer.{Gazetteer, IsLine, kind_in, key_of as key_of_table, after_line, table_of, is_delete, lines_in, line_with, line_at}
use Rattle.gaz_plain.specs.Laws.{IsGazetteerOf}
use Rattle.gaz_leaf.specs.Node.{Pair, key_of}
use Rattle.gaz_tree.specs.Pairs.{Within, lookup, put, without}
use Rattle.gaz_keys.specs.Keys.{IsKey, place_key, alternate_key}
use Rattle.gaz_keys.specs.Lines.{id_at, more_keys, IsKeyed}
use Rattle.gaz_keys.proofs.KeysFit.{keys_fit}
use Rattle.gaz_keys.proofs.Tags.{contained_none, tag_at}
use Rattle.gaz_rows.specs.Index.{Slots, line_key, IsIndexed, SlotsDiffer}
use Rattle.gaz_rows.specs.Stands.{value_in, places_in, counts_of}
use Rattle.gaz_rows.specs.Work.{put_zeros, without_all, missing_in}
use Rattle.gaz_rows.specs.Steps.{pair_at, pairs_after, but_old, line_put, keys_by, more_by, AreReplaced, KeysTell, LineKeysFit, KeysStepped, RecordsLeft, SameMembers, place_by, with_new, other_places, pairs_with, MeetsLine, counted, recounted, one_if}
use Rattle.gaz_rows.proofs.Members.{head_is_in}
use Rattle.gaz_rows.proofs.Keyed.{that_of, IsThatOf}
use Rattle.gaz_rows.proofs.Fit.{place_key_fits, alternate_key_fits}
use Rattle.gaz_rows.proofs.Got.{IsKeyAlone}
use Rattle.gaz_keys.proofs.Fit.{id_small}
use Rattle.gaz_rows.proofs.KeysFor.{row_key_alone, alternate_key_alone}
use Rattle.gaz_rows.proofs.Reindexed.{by_line, reindexed, reslotted}
use Rattle.gaz_rows.proofs.ReindexedLines.{find_has, found_itself, step_replaces, is_taken, IsTaken, stays_gazetteer, none_is_some}
use Rattle.gaz_rows.proofs.Reindexed.{is_placed, more_of_line}
use Rattle.gaz_rows.proofs.Got.{has_key}
use Rattle.gaz_rows.proofs.ReindexedKeys.{lines_fit, lines_tell, same_line_keys, key_told}
use Rattle.gaz_rows.proofs.ReindexedSlots.{slots_next}
use Rattle.gaz_rows.proofs.ReindexedTaken.{step_recounts}
use Rattle.gaz_rows.proofs.Pairs.{AllKeys, missing_all, rising_without_all, all_out_elsewhere, missing_had}
use Rattle.gaz_rows.proofs.PairsStepped.{keys_stepped, more_differ}
use Rattle.gaz_rows.proofs.PairsPlaces.{records_stepped, places_stepped, rising_after}
use Rattle.gaz_tree.proofs.Lists.{put-there}

-- ---- a line that only takes out

id_key_is : (id : Option ℕ) (key : List ℕ) → option_map (λ n. n ∷ []) id ≡ Some key → unwrap_or id 0 ∷ [] ≡ key
id_key_is None key is = absurd (cc)
id_key_is (Some n) key is = ap (λ found. unwrap_or found []) is

delete_fits : (slots : Slots) (k : Kind) (line : List ℕ) → is_delete k ≡ true → IsKey (line_key slots (table_of k) line)
delete_fits slots Row line is = absurd (cc)
delete_fits slots RowDelete line is = place_key_fits (id_at 1 line)
delete_fits slots Alt line is = absurd (cc)
delete_fits slots AltDelete line is = alternate_key_fits (id_at 1 line)
delete_fits slots Link line is = absurd (cc)
delete_fits slots Country line is = absurd (cc)
delete_fits slots kind.Code line is = absurd (cc)

-- only lines with its key have its key of the index
delete_alone : (slots : Slots) (k : Kind) (line key : List ℕ) → is_delete k ≡ true → key_in k line ≡ Some key → IsKeyAlone slots (table_of k) key (line_key slots (table_of k) line)
delete_alone slots Row line key is keyed = absurd (cc)
delete_alone slots RowDelete line key is keyed =
    subst (λ asked. IsKeyAlone slots Rows asked (place_key (id_at 1 line))) (id_key_is (id_in (column 1 line)) key keyed) (row_key_alone slots (id_at 1 line) (id_small 1 line))
delete_alone slots Alt line key is keyed = absurd (cc)
delete_alone slots AltDelete line key is keyed =
    subst (λ asked. IsKeyAlone slots Alternates asked (alternate_key (id_at 1 line))) (id_key_is (id_in (column 1 line)) key keyed) (alternate_key_alone slots (id_at 1 line) (id_small 1 line))
delete_alone slots Link line key is keyed = absurd (cc)
delete_alone slots Country line key is keyed = absurd (cc)
delete_alone slots kind.Code line key is keyed = absurd (cc)

-- a line of a kind that puts it is one of its table
puts_keyed : (k : Kind) (line : List ℕ) → is_delete k ≡ false → reason_against k line ≡ None → IsSome (key_in k line) → IsKeyed (table_of k) line
puts_keyed Row line puts accepted some = record { accepted = accepted; keyed = some }
puts_keyed RowDelete line puts accepted some = absurd (cc)
puts_keyed Alt line puts accepted some = record { accepted = accepted; keyed = some }
puts_keyed AltDelete line puts accepted some = absurd (cc)
puts_keyed Link line puts accepted some = record { accepted = accepted; keyed = some }
puts_keyed Country line puts accepted some = record { accepted = accepted; keyed = some }
puts_keyed kind.Code line puts accepted some = record { accepted = accepted; keyed = some }

module _ (slots now : Slots) (gaz : Gazetteer) (k : Kind) (line key : List ℕ) (pairs : List Pair) (bytes : ℕ → Option (List ℕ)) (meets : MeetsLine slots now gaz k line key pairs bytes) where
  abbrev table : Table
  table = table_of k

  abbrev old : Option (List ℕ)
  old = line_with table key gaz

  abbrev new : Option (List ℕ)
  new = line_put k line

  abbrev Key : List ℕ
  Key = line_key now table line

  held : IsIndexed now gaz (value_in [] pairs) bytes
  held = reslotted slots now gaz (value_in [] pairs) bytes meets.same_slots meets.held

  fit : LineKeysFit now gaz
  fit = lines_fit now gaz meets.is_gazetteer

  was_there : (was : List ℕ) → old ≡ Some was → Contains (lines_in gaz table) was
  was_there was is = (find_has (has_key table key) (lines_in gaz table) was is).0

  -- The old line has the same key with a place.
  pub same_place_key : (was : List ℕ) → old ≡ Some was → line_key now table was ≡ Key
  same_place_key was is = same_line_keys now gaz meets.is_gazetteer k line key was meets.keyed is

  -- ---- the old line

  -- what is found where a line that was there has the key of the table
  found_by : (l : List ℕ) → Contains (lines_in gaz table) l → key_of_table table l ≡ key → old ≡ Some l
  found_by l there has = ap (λ asked. line_at table asked (lines_in gaz table)) (sym has) ∙ found_itself table (lines_in gaz table) l (meets.is_gazetteer.tables table).rising there

  -- a line that was there and has the key with a place has the key of the table
  told_key : (b : Bool) → is_delete k ≡ b → (l : List ℕ) → Contains (lines_in gaz table) l → line_key now table l ≡ Key → old ≡ Some l
  told_key true deletes l there same =
      found_by l there (delete_alone now k line key deletes meets.keyed l (All-contains (IsLine (kind_in table)) (lines_in gaz table) l (meets.is_gazetteer.tables table).each there) same)
  told_key false puts l there same =
      found_by l there (key_told now gaz meets.is_gazetteer k line key l meets.keyed (puts_keyed k line puts meets.accepted (ap is_some meets.keyed)) there held.slots_differ meets.slot same)

  key_fits : (b : Bool) → is_delete k ≡ b → IsKey Key
  key_fits true deletes = delete_fits now k line deletes
  key_fits false puts = keys_fit table (now (column 1 line)) line Key (puts_keyed k line puts meets.accepted (ap is_some meets.keyed)) (head_is_in Key (more_keys table line))

  -- The key with a place, of a line that is put or only takes out, has 32 bytes.
  pub step_key : IsKey Key
  step_key = key_fits (is_delete k) refl

  -- where no line has the key, the tree has none of its place
  none_at : old ≡ None → (found : Option ℕ) → lookup (key_of Key) pairs ≡ found → found ≡ None
  none_at none None is = refl
  none_at none (Some place) is =
      let of : IsThatOf now gaz table Key = that_of now gaz table Key (tag_at table (now (column 1 line)) line) (held.only Key step_key (ap is_some is)) in
      absurd (none_is_some of.line (sym none ∙ told_key (is_delete k) refl of.line of.there of.is))

  -- Where the old line stands is what the tree has at the key with the place.
  pub place_is : place_by now table pairs old ≡ lookup (key_of Key) pairs
  place_is = by old refl
    where
      by : (one : Option (List ℕ)) → old ≡ one → place_by now table pairs one ≡ lookup (key_of Key) pairs
      by None is = sym (none_at is (lookup (key_of Key) pairs) refl)
      by (Some was) is = ap (λ asked. lookup (key_of asked) pairs) (same_place_key was is)

  -- And the old line is what stands there.
  pub old_is : old ≡ option_and_then bytes (lookup (key_of Key) pairs)
  old_is = by old refl
    where
      by : (one : Option (List ℕ)) → old ≡ one → one ≡ option_and_then bytes (lookup (key_of Key) pairs)
      by None is = sym (ap (option_and_then bytes) (none_at is (lookup (key_of Key) pairs) refl))
      by (Some was) is = sym (held.lines table was (was_there was is)) ∙ ap (λ asked. option_and_then bytes (lookup (key_of asked) pairs)) (same_place_key was is)

  -- So there is one where the tree has a place.
  pub old_there : is_some old ≡ is_some (lookup (key_of Key) pairs)
  old_there = by old refl
    where
      by : (one : Option (List ℕ)) → old ≡ one → is_some one ≡ is_some (lookup (key_of Key) pairs)
      by None is = sym (ap is_some (none_at is (lookup (key_of Key) pairs) refl))
      by (Some was) is =
          let stands = is_placed (value_in [] pairs) bytes (line_key now table was) was (held.lines table was (was_there was is)) in
          sym (ap is_some stands.at) ∙ ap (λ asked. is_some (lookup (key_of asked) pairs)) (same_place_key was is)

  -- The places of the other lines are those but that.
  pub places_are : other_places now gaz k key pairs ≡ but_old (lookup (key_of Key) pairs) (places_in pairs)
  places_are = ap (λ spot. but_old spot (places_in pairs)) place_is

  -- ---- the pairs after the step

  -- where the line is put
  pub put_pairs : (place : ℕ) → is_delete k ≡ false
      → pairs_with now gaz k line key place pairs ≡ put_zeros (missing_in (more_by table old) (more_keys table line)) (put (pair_at Key place) (without_all (missing_in (more_keys table line) (more_by table old)) pairs))
  put_pairs place puts = ap (λ one. pairs_after now table old one place pairs) (ap (λ b. if b then None else Some line) puts)

  -- where it is put at the place of the old one the tree has that already
  pub put_stays : (place : ℕ) → lookup (key_of Key) pairs ≡ Some place
      → put (pair_at Key place) (without_all (missing_in (more_keys table line) (more_by table old)) pairs) ≡ without_all (missing_in (more_keys table line) (more_by table old)) pairs
  put_stays place at =
      put-there (pair_at Key place) 0 (2 ^ 256) (without_all out pairs) (rising_without_all out 0 (2 ^ 256) pairs meets.rising)
      (all_out_elsewhere out Key pairs all_out step_key (λ has. more_differ now table old line Key (missing_had (more_keys table line) (more_by table old) Key has).0 refl) ∙ at)
    where
      out : List (List ℕ)
      out = missing_in (more_keys table line) (more_by table old)

      all_out : AllKeys (missing_in (more_keys table line) (more_by table old))
      all_out asked has =
          let among = more_of_line now table old asked (missing_had (more_keys table line) (more_by table old) asked has).0 in
          let of = by_line now table old asked among in
          fit table of.0 asked (was_there of.0 of.1) of.2

  -- where the old line is only taken out
  pub deleted_pairs : (was : List ℕ) (place : ℕ) → is_delete k ≡ true → old ≡ Some was → pairs_with now gaz k line key place pairs ≡ without_all (missing_in [] (more_keys table was)) (without (key_of Key) pairs)
  deleted_pairs was place deletes is =
      ap (λ one. pairs_after now table old one place pairs) (ap (λ b. if b then None else Some line) deletes)
      ∙ ap (λ one. pairs_after now table one None place pairs) is
      ∙ ap (λ asked. without_all (more_keys table was) (without (key_of asked) pairs)) (same_place_key was is)
      ∙ ap (λ keys. without_all keys (without (key_of Key) pairs)) (sym (missing_all (more_keys table was)))

  -- ---- the next gazetteer

  module _ (next : Gazetteer) (taken : after_line gaz k line ≡ Ok next) where
    told : IsTaken gaz k line next
    told = is_taken gaz k line next taken

    -- What is taken makes a gazetteer with the same date.
    pub next_gazetteer : IsGazetteerOf gaz.date next
    next_gazetteer = stays_gazetteer gaz next k line meets.is_gazetteer meets.dated meets.one_line taken

    pub next_replaced : AreReplaced gaz next table old new
    next_replaced = subst (λ g. AreReplaced gaz g table old new) (sym told.is) (step_replaces gaz k line key meets.keyed meets.is_gazetteer)

    -- Its counts are those of before, with one more for the new line and one less for the old one.
    pub next_counts : counts_of next ≡ recounted (counts_of gaz) table (counted (counts_of gaz) table + one_if new - one_if old)
    next_counts = ap counts_of told.is ∙ step_recounts gaz k line key meets.keyed meets.is_gazetteer

    new_is : (b : Bool) (l : List ℕ) → (if b then None else Some line) ≡ Some l → l ≡ line
    new_is true l is = absurd (cc)
    new_is false l is = ap (λ o. unwrap_or o []) (sym is)

    -- The slots tell its codes apart.
    pub next_slots : SlotsDiffer now next
    next_slots = slots_next now gaz next table old line new next_gazetteer.is_gazetteer held.slots_differ next_replaced (new_is (is_delete k)) meets.slot

    fit_next : LineKeysFit now next
    fit_next = lines_fit now next next_gazetteer.is_gazetteer

    tell : KeysTell now gaz
    tell = lines_tell now gaz meets.is_gazetteer held.slots_differ

    tell_next : KeysTell now next
    tell_next = lines_tell now next next_gazetteer.is_gazetteer next_slots

    all_old : AllKeys (keys_by now table old)
    all_old asked has = let of = by_line now table old asked has in fit table of.0 asked (next_replaced.was of.0 of.1) of.2

    all_new : AllKeys (keys_by now table new)
    all_new asked has = let of = by_line now table new asked has in fit_next table of.0 asked (next_replaced.came of.0 of.1) of.2

    more_zero : (one : Option (List ℕ)) → old ≡ one → (asked : List ℕ) → Contains (more_by table one) asked → lookup (key_of asked) pairs ≡ Some 0
    more_zero None is asked has = absurd (contained_none asked has)
    more_zero (Some was) is asked has = held.zeros table was asked (next_replaced.was was is) has

    module _ (place : ℕ) where
      -- The keys of its lines have their values.
      pub stepped_keys : KeysStepped now table old new place (value_in [] pairs) (value_in [] (pairs_with now gaz k line key place pairs))
      stepped_keys =
          keys_stepped now table old place (2 ^ 256) pairs meets.rising all_old new all_new
          (λ was l is here. same_place_key was is ∙ ap (line_key now table) (sym (new_is (is_delete k) l here))) (more_zero old refl)

      -- The keys of the pairs rise.
      pub rising_with : Within 0 (2 ^ 256) (pairs_with now gaz k line key place pairs)
      rising_with = rising_after now table old new place pairs all_new meets.rising

      -- Their places are those of the other lines, and that of the new one.
      pub stepped_places : SameMembers (places_in (pairs_with now gaz k line key place pairs)) (with_new new place (other_places now gaz k key pairs))
      stepped_places = places_stepped now gaz pairs bytes held meets.rising fit next table old new place next_replaced (pairs_with now gaz k line key place pairs) stepped_keys rising_with tell_next fit_next

      -- The pairs and the records hold the next gazetteer.
      pub stepped_is_indexed : (bytes_now : ℕ → Option (List ℕ)) → RecordsLeft new place (other_places now gaz k key pairs) bytes bytes_now → IsIndexed now next (value_in [] (pairs_with now gaz k line key place pairs)) bytes_now
      stepped_is_indexed bytes_now left =
          reindexed now gaz next table old new place (value_in [] pairs) (value_in [] (pairs_with now gaz k line key place pairs)) bytes bytes_now held next_replaced stepped_keys
          (records_stepped now gaz pairs bytes held meets.rising fit next table old new place next_replaced bytes_now left) tell tell_next fit_next next_slots
