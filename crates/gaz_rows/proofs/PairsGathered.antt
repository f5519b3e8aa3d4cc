-- A line that comes while keys wait, where no line has its key: its other keys wait too. And what stands once all are put.
use Rattle.std.proofs.Common.{◌≡◌, ◌≢◌, ◌^◌, ℕ, List, [], ◌∷◌, refl, sym, ◌∙◌, ap, subst, inl, inr, true, false, Option, Some, None, Ok}
use Rattle.std.specs.Prelude.{◌⊎◌, Contains, if◌then◌else◌}
use Rattle.std.proofs.lemmas.Bool.{cases_eq}
use Rattle.gaz_num.specs.declared.words.Kind.{Kind}
use Rattle.gaz_num.specs.declared.words.Table.{Table}
use Rattle.gaz_plain.specs.Gazetteer.{Gazetteer, table_of, is_delete, after_line}
use Rattle.gaz_leaf.specs.Node.{Pair, key_of}
use Rattle.gaz_tree.specs.Pairs.{Within, lookup, put}
use Rattle.gaz_keys.specs.Keys.{IsKey}
use Rattle.gaz_keys.specs.Parts.{tag_of, has_place}
use Rattle.gaz_keys.specs.Lines.{more_keys}
use Rattle.gaz_keys.proofs.Tags.{contained, contained_none}
use Rattle.gaz_rows.specs.Index.{Slots, line_key, IsIndexed}
use Rattle.gaz_rows.specs.Stands.{value_in, tag_in, places_in}
use Rattle.gaz_rows.specs.Work.{put_zeros}
use Rattle.gaz_rows.specs.Steps.{MeetsLine, RecordsLeft, SameMembers, line_put, old_by, other_places, place_by, but_old, pairs_with, pairs_after, pair_at, ArePlaceless, AreGathered}
use Rattle.gaz_rows.proofs.Members.{head_is_in, tail_is_in}
use Rattle.gaz_rows.proofs.Keyed.{some_inj}
use Rattle.gaz_rows.proofs.Settled.{put_there, put_elsewhere}
use Rattle.gaz_rows.proofs.Reindexed.{is_in}
use Rattle.gaz_rows.proofs.ReindexedLines.{none_is_some, false_is_true}
use Rattle.gaz_rows.proofs.ReindexedKeys.{lines_fit}
use Rattle.gaz_rows.proofs.Pairs.{AllKeys, numbers_differ, zeros_there, zeros_elsewhere, missing_all}
use Rattle.gaz_rows.proofs.PairsStepped.{place_tag}
use Rattle.gaz_rows.proofs.PairsPlaces.{IsAt, place_at, at_place, tag_key, rising_put}
use Rattle.gaz_rows.proofs.PairsIndexed.{next_gazetteer, next_replaced, place_is, stepped_is_indexed}
use Rattle.gaz_rows.proofs.PairsWaiting.{same_index, waits, waits_not, place_waits_not, places_zeros}

module _ (slots now : Slots) (gaz : Gazetteer) (k : Kind) (line key : List ℕ) (waiting waits_now : List (List ℕ)) (pairs : List Pair) (bytes : ℕ → Option (List ℕ))
    (all : AllKeys waiting) (placeless : ArePlaceless waiting) (rising : Within 0 (2 ^ 256) pairs) (meets : MeetsLine slots now gaz k line key (put_zeros waiting pairs) bytes)
    (next : Gazetteer) (taken : after_line gaz k line ≡ Ok next) (puts : is_delete k ≡ false) (none : old_by gaz k key ≡ None) (gathered : AreGathered waiting (more_keys (table_of k) line) waits_now) (place : ℕ) where
  abbrev table : Table
  table = table_of k

  abbrev Key : List ℕ
  Key = line_key now table line

  abbrev more : List (List ℕ)
  more = more_keys table line

  -- the pairs where nothing waits
  abbrev settled : List Pair
  settled = put_zeros waiting pairs

  new_is : line_put k line ≡ Some line
  new_is = ap (λ b. if b then None else Some line) puts

  line_fits : (asked : List ℕ) → Contains (Key ∷ more) asked → IsKey asked
  line_fits asked has =
      lines_fit now next (next_gazetteer slots now gaz k line key settled bytes meets next taken).is_gazetteer table line asked
      ((next_replaced slots now gaz k line key settled bytes meets next taken).came line new_is) has

  key_fits : IsKey Key
  key_fits = line_fits Key (head_is_in Key more)

  all_more : AllKeys more
  all_more asked has = line_fits asked (tail_is_in Key more asked has)

  key_tag : has_place (tag_of Key) ≡ true
  key_tag = place_tag now table line

  not_key : (asked : List ℕ) → has_place (tag_of asked) ≡ false → asked ≢ Key
  not_key asked lacks is = false_is_true (sym lacks ∙ ap (λ a. has_place (tag_of a)) is ∙ key_tag)

  not_waiting : Contains waiting Key → ⊥
  not_waiting = place_waits_not waiting pairs Key placeless key_tag

  -- the tree has no place for the key
  absent : lookup (key_of Key) pairs ≡ None
  absent =
      sym (zeros_elsewhere waiting Key pairs all key_fits not_waiting) ∙ sym (place_is slots now gaz k line key settled bytes meets) ∙ ap (place_by now table settled) none

  -- the pairs after a step where nothing waits
  pairs_are : pairs_with now gaz k line key place settled ≡ put_zeros more (put (pair_at Key place) settled)
  pairs_are =
      ap (λ one. pairs_after now table (old_by gaz k key) one place settled) new_is ∙ ap (λ one. pairs_after now table one (Some line) place settled) none
      ∙ ap (λ keys. put_zeros keys (put (pair_at Key place) settled)) (missing_all more)

  same_value : (asked : List ℕ) → IsKey asked → value_in waits_now (put (pair_at Key place) pairs) asked ≡ lookup (key_of asked) (put_zeros more (put (pair_at Key place) settled))
  same_value asked fits = elim (is_in more asked) [
    | inl has ↦ waits waits_now (put (pair_at Key place) pairs) asked (gathered.come asked has) ∙ sym (zeros_there more asked (put (pair_at Key place) settled) all_more fits has)
    | inr not_more ↦ by_waiting not_more (is_in waiting asked) ∙ sym (zeros_elsewhere more asked (put (pair_at Key place) settled) all_more fits not_more)
  ]
    where
      elsewhere : asked ≢ Key → (ps : List Pair) → lookup (key_of asked) (put (pair_at Key place) ps) ≡ lookup (key_of asked) ps
      elsewhere differs ps = put_elsewhere (key_of asked) (pair_at Key place) ps (numbers_differ Key asked key_fits fits (λ is. differs (sym is)))

      there : asked ≡ Key → (ps : List Pair) → lookup (key_of asked) (put (pair_at Key place) ps) ≡ Some place
      there is ps = ap (λ a. lookup (key_of a) (put (pair_at Key place) ps)) is ∙ put_there (pair_at Key place) ps

      no_wait : (Contains more asked → ⊥) → (Contains waiting asked → ⊥) → Contains waits_now asked → ⊥
      no_wait not_more lacks has = elim (gathered.to asked has) [
        | inl earlier ↦ lacks earlier
        | inr come ↦ not_more come
      ]

      by_key : (Contains waiting asked → ⊥) → (Contains (Key ∷ []) asked) ⊎ (Contains (Key ∷ []) asked → ⊥) → lookup (key_of asked) (put (pair_at Key place) pairs) ≡ lookup (key_of asked) (put (pair_at Key place) settled)
      by_key lacks (inl has) = elim (contained Key [] asked has) [
        | inl is ↦ there (sym is) pairs ∙ sym (there (sym is) settled)
        | inr later ↦ absurd (contained_none asked later)
      ]
      by_key lacks (inr other) =
          let differs : asked ≢ Key = λ is. other (subst (Contains (Key ∷ [])) (sym is) (head_is_in Key [])) in
          elsewhere differs pairs ∙ sym (zeros_elsewhere waiting asked pairs all fits lacks) ∙ sym (elsewhere differs settled)

      by_waiting : (Contains more asked → ⊥) → Contains waiting asked ⊎ (Contains waiting asked → ⊥) → value_in waits_now (put (pair_at Key place) pairs) asked ≡ lookup (key_of asked) (put (pair_at Key place) settled)
      by_waiting not_more (inl has) =
          waits waits_now (put (pair_at Key place) pairs) asked (gathered.from asked has)
          ∙ sym (elsewhere (not_key asked (placeless asked has)) settled ∙ zeros_there waiting asked pairs all fits has)
      by_waiting not_more (inr lacks) = waits_not waits_now (put (pair_at Key place) pairs) asked (no_wait not_more lacks) ∙ by_key lacks (is_in (Key ∷ []) asked)

  -- The pairs with the line's place, and the keys that then wait, hold the next gazetteer.
  pub gathered_is_indexed : (bytes_now : ℕ → Option (List ℕ)) → RecordsLeft (Some line) place (places_in pairs) bytes bytes_now → IsIndexed now next (value_in waits_now (put (pair_at Key place) pairs)) bytes_now
  gathered_is_indexed bytes_now left =
      let places : other_places now gaz k key settled ≡ places_in pairs = ap (λ one. but_old (place_by now table settled one) (places_in settled)) none ∙ places_zeros waiting pairs all placeless in
      same_index now next (value_in [] (pairs_with now gaz k line key place settled)) (value_in waits_now (put (pair_at Key place) pairs)) bytes_now bytes_now
      (lines_fit now next (next_gazetteer slots now gaz k line key settled bytes meets next taken).is_gazetteer)
      (λ asked fits. same_value asked fits ∙ ap (lookup (key_of asked)) (sym pairs_are))
      (stepped_is_indexed slots now gaz k line key settled bytes meets next taken place bytes_now (subst (λ ps. RecordsLeft (line_put k line) place ps bytes bytes_now) (sym places) (subst (λ one. RecordsLeft one place (places_in pairs) bytes bytes_now) (sym new_is) left)))
      (λ t l p there at. refl)

  -- The places then are those of before, and that of the line.
  pub gathered_places : SameMembers (places_in (put (pair_at Key place) pairs)) (place ∷ places_in pairs)
  gathered_places = record { to = to; from = from }
    where
      number : ℕ
      number = key_of Key

      tag : has_place (tag_in (key_of Key)) ≡ true
      tag = ap has_place (tag_key Key key_fits) ∙ key_tag

      to : (p : ℕ) → Contains (places_in (put (pair_at Key place) pairs)) p → Contains (place ∷ places_in pairs) p
      to p has = by (place_at 0 (put (pair_at Key place) pairs) p (rising_put Key place pairs key_fits rising) has)
        where
          by : IsAt (put (pair_at Key place) pairs) p → Contains (place ∷ places_in pairs) p
          by found = elim (cases_eq (key_of Key) found.key) [
            | inl is ↦
                let same : Some place ≡ Some p = sym (put_there (pair_at Key place) pairs) ∙ ap (λ n. lookup n (put (pair_at Key place) pairs)) is ∙ found.at in
                subst (Contains (place ∷ places_in pairs)) (some_inj place p same) (head_is_in place (places_in pairs))
            | inr differs ↦ tail_is_in place (places_in pairs) p (at_place found.key p pairs found.tag (sym (put_elsewhere found.key (pair_at Key place) pairs differs) ∙ found.at))
          ]

      from : (p : ℕ) → Contains (place ∷ places_in pairs) p → Contains (places_in (put (pair_at Key place) pairs)) p
      from p has = elim (contained place (places_in pairs) p has) [
        | inl is ↦ at_place (key_of Key) p (put (pair_at Key place) pairs) tag (put_there (pair_at Key place) pairs ∙ ap Some is)
        | inr later ↦ stays (place_at 0 pairs p rising later)
      ]
        where
          stays : IsAt pairs p → Contains (places_in (put (pair_at Key place) pairs)) p
          stays found =
              let differs : key_of Key ≢ found.key = λ is. none_is_some p (sym absent ∙ ap (λ n. lookup n pairs) is ∙ found.at) in
              at_place found.key p (put (pair_at Key place) pairs) found.tag (put_elsewhere found.key (pair_at Key place) pairs differs ∙ found.at)
