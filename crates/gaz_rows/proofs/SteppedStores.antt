-- Pages that stand for a gazetteer, once a line has come, gone or taken the place of another, stand for the gazetteer after it.
use Rattle.std.proofs.Common.{◌≡◌, ◌<◌, ◌≤◌, ◌+◌, ◌-◌, ℕ, List, [], ◌∷◌, refl, sym, ◌∙◌, ap, subst, arith, inl, inr, true, false, Bool, Option, Some, None, Ok, Err}
use Rattle.std.specs.Prelude.{Contains, option_and_then, if◌then◌else◌, IsOk}
use Rattle.std.proofs.lemmas.Bool.{cases_eq}
use Rattle.std.proofs.lemmas.List.Elements.{All-contains}
use Rattle.gaz_num.specs.declared.words.Kind.{Kind}
use Rattle.gaz_num.specs.declared.words.Table.{Table}
use Rattle.gaz_num.specs.declared.words.Table.TheVariants.{Rows, Alternates, Links, Countries, Codes}
use Rattle.gaz_page.specs.declared.root.LineCounts.{LineCounts}
use Rattle.gaz_page.specs.declared.tree_root.Root.{Root}
use Rattle.gaz_page.specs.Pages.{PagesView}
use Rattle.gaz_plain.specs.Gazetteer.{Gazetteer, IsLine, kind_in, full, lines_in, limit_of, table_of, is_delete, step, after_line}
use Rattle.gaz_leaf.specs.Node.{Pair, key_of}
use Rattle.gaz_tree.specs.Pairs.{lookup, put, without}
use Rattle.gaz_heap.specs.Place.{record_at}
use Rattle.gaz_keys.specs.Keys.{IsKey}
use Rattle.gaz_keys.specs.Parts.{has_place, tag_of}
use Rattle.gaz_keys.specs.Lines.{more_keys, IsKeyed}
use Rattle.gaz_keys.proofs.Tags.{contained}
use Rattle.gaz_rows.specs.Index.{Slots, line_key}
use Rattle.gaz_rows.specs.Stands.{StandsForBut, places_in, counts_of, value_in}
use Rattle.gaz_rows.specs.Laid.{IsLaid, ends_of, all_but}
use Rattle.gaz_rows.specs.Work.{put_zeros, without_all, missing_in}
use Rattle.gaz_rows.specs.Steps.{MeetsLine, RecordsLeft, pair_at, more_by, line_put, old_by, other_places, but_old, with_new, pairs_with, counted, recounted, one_if}
use Rattle.gaz_rows.specs.Change.{IsChanged, HasCome, HasGone, HasReplaced, HasLeft}
use Rattle.gaz_rows.specs.Stepping.{StandsAt}
use Rattle.gaz_rows.proofs.Members.{head_is_in, tail_is_in}
use Rattle.gaz_rows.proofs.Fit.{keyed}
use Rattle.gaz_rows.proofs.Got.{has_key}
use Rattle.gaz_rows.proofs.LaidKept.{after_order}
use Rattle.gaz_rows.proofs.LaidSlots.{among_all, among_rest}
use Rattle.gaz_rows.proofs.LaidStands.{are_laid}
use Rattle.gaz_rows.proofs.Pairs.{missing_had}
use Rattle.gaz_rows.proofs.PairsIndexed.{old_is, places_are, put_pairs, put_stays, deleted_pairs, step_key, same_place_key}
use Rattle.gaz_rows.proofs.Reindexed.{same_line_key}
use Rattle.gaz_rows.proofs.PairsPlaces.{at_place, tag_key}
use Rattle.gaz_rows.proofs.PairsStands.{left_stands, nothing_left}
use Rattle.gaz_rows.proofs.PairsStepped.{place_tag}
use Rattle.gaz_rows.proofs.ReindexedLines.{find_has}
use Rattle.gaz_rows.proofs.ReindexedTaken.{is_within, is_full, counted_is, step_count}
use Rattle.gaz_rows.proofs.Room.{enough, pairs_left}

recounted_same : (table : Table) (counts : LineCounts) → counts ≡ recounted counts table (counted counts table)
recounted_same Rows counts = refl
recounted_same Alternates counts = refl
recounted_same Links counts = refl
recounted_same Countries counts = refl
recounted_same Codes counts = refl

-- No key of a list is missing in the list.
none_missing : (keys : List (List ℕ)) → missing_in keys keys ≡ []
none_missing keys = by (missing_in keys keys) refl
  where
    by : (missing : List (List ℕ)) → missing_in keys keys ≡ missing → missing ≡ []
    by [] is = refl
    by (key ∷ rest) is = let had = missing_had keys keys key (subst (λ ks. Contains ks key) (sym is) (head_is_in key rest)) in absurd (had.1 had.0)

module _ (gaz : Gazetteer) (v : PagesView) (root : Root) (stands : StandsForBut [] gaz v.page (ends_of v root)) (now : Slots) (kind : Kind) (line numbers key : List ℕ)
    (meets : MeetsLine stands.slots now gaz kind line numbers stands.pairs (record_at v.page)) (is : line_key now (table_of kind) line ≡ key) where
  abbrev table : Table
  table = table_of kind

  abbrev bytes : ℕ → Option (List ℕ)
  bytes = record_at v.page

  -- The gazetteer after the line, for which the pages then stand.
  abbrev pub Stepped : PagesView → Root → Type 0
  Stepped new last = (next : Gazetteer) × (after_line gaz kind line ≡ Ok next) × StandsForBut [] next new.page (ends_of new last)

  pub laid_here : IsLaid v root stands.pairs (root.heap ∷ []) (places_in stands.pairs)
  laid_here = are_laid [] gaz v root stands

  pub left_here : HasLeft v stands.pairs
  left_here = record { room = enough [] gaz v root stands; few = pairs_left [] gaz v root stands }

  old_found : old_by gaz kind numbers ≡ option_and_then bytes (lookup (key_of key) stands.pairs)
  old_found = old_is stands.slots now gaz kind line numbers stands.pairs bytes meets ∙ ap (λ k. option_and_then bytes (lookup (key_of k) stands.pairs)) is

  pub none_found : lookup (key_of key) stands.pairs ≡ None → old_by gaz kind numbers ≡ None
  none_found none = old_found ∙ ap (option_and_then bytes) none

  pub some_found : (place : ℕ) (was : List ℕ) → StandsAt v key stands.pairs place was → old_by gaz kind numbers ≡ Some was
  some_found place was at = old_found ∙ ap (option_and_then bytes) at.at ∙ at.record_is

  puts_line : is_delete kind ≡ false → line_put kind line ≡ Some line
  puts_line puts = ap (λ b. if b then None else Some line) puts

  puts_none : is_delete kind ≡ true → line_put kind line ≡ None
  puts_none deletes = ap (λ b. if b then None else Some line) deletes

  others_are : (found : Option ℕ) → lookup (key_of key) stands.pairs ≡ found → other_places now gaz kind numbers stands.pairs ≡ but_old found (places_in stands.pairs)
  others_are found at = places_are stands.slots now gaz kind line numbers stands.pairs bytes meets ∙ ap (λ k. but_old (lookup (key_of k) stands.pairs) (places_in stands.pairs)) is ∙ ap (λ spot. but_old spot (places_in stands.pairs)) at

  count_is : counted root.counts table ≡ counted (counts_of gaz) table
  count_is = ap (λ counts. counted counts table) stands.counts

  few_lines : counted root.counts table ≤ limit_of table
  few_lines = let within = (meets.is_gazetteer.tables table).within in omega (arith, within, counted_is gaz table, count_is)

  -- The line is taken, with so many lines of its table then.
  taken_with : (n : ℕ) → counted root.counts table + one_if (line_put kind line) - one_if (old_by gaz kind numbers) ≡ n → n ≤ limit_of table → after_line gaz kind line ≡ Ok (step gaz kind line)
  taken_with n is_n within =
      let count = step_count gaz kind line numbers meets.keyed meets.is_gazetteer in
      let same = count_is in
      is_within gaz kind line meets.accepted (omega (arith, count, same, is_n, within))

  -- What a line has changed is what a step leaves.
  left_by : (new : PagesView) (last : Root) (turned : List Pair) (others : List ℕ) (one : Option (List ℕ)) (place n : ℕ) → line_put kind line ≡ one → pairs_with now gaz kind line numbers place stands.pairs ≡ turned
      → other_places now gaz kind numbers stands.pairs ≡ others → IsChanged v new last turned others one place → last.day ≡ root.day
      → counted root.counts table + one_if (line_put kind line) - one_if (old_by gaz kind numbers) ≡ n → last.counts ≡ recounted root.counts table n → n ≤ limit_of table → Stepped new last
  left_by new last turned others one place n one_is pairs_are others_is changed day n_is counts within =
      let taken = taken_with n n_is within in
      let here = changed in (
        step gaz kind line,
        taken,
        left_stands gaz v root stands now kind line numbers meets (step gaz kind line) taken after_order new last place (record {
          day = day;
          counts = counts ∙ ap (recounted root.counts table) (sym n_is);
          laid = subst (λ ps. IsLaid new last ps (last.heap ∷ []) (with_new (line_put kind line) place (other_places now gaz kind numbers stands.pairs))) (sym pairs_are)
              (subst (λ ps. IsLaid new last turned (last.heap ∷ []) (with_new (line_put kind line) place ps)) (sym others_is)
              (subst (λ l. IsLaid new last turned (last.heap ∷ []) (with_new l place others)) (sym one_is) changed.laid));
          records = subst (λ ps. RecordsLeft (line_put kind line) place ps bytes (record_at new.page)) (sym others_is)
              (subst (λ l. RecordsLeft l place others bytes (record_at new.page)) (sym one_is) changed.left);
        }),
      )

  -- A line has come.
  pub come_stands : (new : PagesView) (last : Root) → is_delete kind ≡ false → lookup (key_of key) stands.pairs ≡ None → HasCome v new last stands.pairs (places_in stands.pairs) key (more_keys table line) line
      → counted root.counts table < limit_of table → last.counts ≡ recounted root.counts table (counted root.counts table + 1) → last.day ≡ root.day → Stepped new last
  come_stands new last puts none come room counts day =
      let new_one = ap one_if (puts_line puts) in
      let old_one = ap one_if (none_found none) in
      left_by new last (put_zeros (missing_in [] (more_keys table line)) (put (pair_at key come.place) stands.pairs)) (places_in stands.pairs) (Some line) come.place (counted root.counts table + 1)
      (puts_line puts)
      (put_pairs stands.slots now gaz kind line numbers stands.pairs bytes meets come.place puts
      ∙ ap (λ one. put_zeros (missing_in (more_by table one) (more_keys table line)) (put (pair_at (line_key now table line) come.place) (without_all (missing_in (more_keys table line) (more_by table one)) stands.pairs))) (none_found none)
      ∙ ap (λ k. put_zeros (missing_in [] (more_keys table line)) (put (pair_at k come.place) stands.pairs)) is)
      (others_are None none) come.changed day (omega (arith, new_one, old_one)) counts (omega (arith, room))

  -- The table is full.
  pub full_here : is_delete kind ≡ false → lookup (key_of key) stands.pairs ≡ None → limit_of table ≤ counted root.counts table → after_line gaz kind line ≡ Err (full table)
  full_here puts none many =
      let new_one = ap one_if (puts_line puts) in
      let old_one = ap one_if (none_found none) in
      let count = step_count gaz kind line numbers meets.keyed meets.is_gazetteer in
      let same = count_is in
      is_full gaz kind line meets.accepted (omega (arith, new_one, old_one, count, same, many))

  -- A line has gone.
  pub go_stands : (new : PagesView) (last : Root) (place : ℕ) (was : List ℕ) → is_delete kind ≡ true → StandsAt v key stands.pairs place was → HasGone v new last stands.pairs (places_in stands.pairs) key (more_keys table was) place
      → last.counts ≡ recounted root.counts table (counted root.counts table - 1) → last.day ≡ root.day → Stepped new last
  go_stands new last place was deletes at gone counts day =
      let new_none = ap one_if (puts_none deletes) in
      let old_one = ap one_if (some_found place was at) in
      let few = few_lines in
      left_by new last (without_all (missing_in [] (more_keys table was)) (without (key_of key) stands.pairs)) (all_but place (places_in stands.pairs)) None 0 (counted root.counts table - 1)
      (puts_none deletes)
      (deleted_pairs stands.slots now gaz kind line numbers stands.pairs bytes meets was 0 deletes (some_found place was at)
      ∙ ap (λ k. without_all (missing_in [] (more_keys table was)) (without (key_of k) stands.pairs)) is)
      (others_are (Some place) at.at) gone.changed day (omega (arith, new_none, old_one)) counts (omega (arith, few))

  -- A line has taken the place of another.
  pub replace_stands : (new : PagesView) (last : Root) (place : ℕ) (was : List ℕ) → is_delete kind ≡ false → StandsAt v key stands.pairs place was
      → HasReplaced v new last stands.pairs (places_in stands.pairs) key (more_keys table was) (more_keys table line) place line → last.counts ≡ root.counts → last.day ≡ root.day → Stepped new last
  replace_stands new last place was puts at replaced counts day =
      let new_one = ap one_if (puts_line puts) in
      let old_one = ap one_if (some_found place was at) in
      let few = few_lines in
      left_by new last (put_zeros (missing_in (more_keys table was) (more_keys table line)) (put (pair_at key replaced.place_now) (without_all (missing_in (more_keys table line) (more_keys table was)) stands.pairs)))
      (all_but place (places_in stands.pairs)) (Some line) replaced.place_now (counted root.counts table)
      (puts_line puts)
      (put_pairs stands.slots now gaz kind line numbers stands.pairs bytes meets replaced.place_now puts
      ∙ ap (λ one. put_zeros (missing_in (more_by table one) (more_keys table line)) (put (pair_at (line_key now table line) replaced.place_now) (without_all (missing_in (more_keys table line) (more_by table one)) stands.pairs))) (some_found place was at)
      ∙ ap (λ k. put_zeros (missing_in (more_keys table was) (more_keys table line)) (put (pair_at k replaced.place_now) (without_all (missing_in (more_keys table line) (more_keys table was)) stands.pairs))) is)
      (others_are (Some place) at.at) replaced.changed day (omega (arith, new_one, old_one)) (counts ∙ recounted_same table root.counts) few

  -- ---- the line that stands there

  pub place_there : (place : ℕ) → lookup (key_of key) stands.pairs ≡ Some place → Contains (places_in stands.pairs) place
  place_there place at = at_place (key_of key) place stands.pairs (ap has_place (tag_key key fits) ∙ ap (λ k. has_place (tag_of k)) (sym is) ∙ place_tag now table line) at
    where
      fits : IsKey key
      fits = subst IsKey is (step_key stands.slots now gaz kind line numbers stands.pairs bytes meets)

  was_line : (place : ℕ) (was : List ℕ) → StandsAt v key stands.pairs place was → Contains (lines_in gaz table) was
  was_line place was at = (find_has (has_key table numbers) (lines_in gaz table) was (some_found place was at)).0

  -- The key is that of the line that stands there.
  pub was_key : (place : ℕ) (was : List ℕ) → StandsAt v key stands.pairs place was → line_key stands.slots table was ≡ key
  was_key place was at =
      sym (same_line_key stands.slots now gaz (value_in [] stands.pairs) bytes meets.same_slots table was (was_line place was at))
      ∙ same_place_key stands.slots now gaz kind line numbers stands.pairs bytes meets was (some_found place was at) ∙ is

  pub was_keyed : (place : ℕ) (was : List ℕ) → StandsAt v key stands.pairs place was → IsKeyed table was
  was_keyed place was at = keyed table was (All-contains (IsLine (kind_in table)) (lines_in gaz table) was (meets.is_gazetteer.tables table).each (was_line place was at))

  pub was_counted : (place : ℕ) (was : List ℕ) → StandsAt v key stands.pairs place was → 1 ≤ counted root.counts table
  was_counted place was at = let there = (was_line place was at).1 in omega (arith, there, counted_is gaz table, count_is)

  -- A line that comes where there is room is taken.
  pub come_taken : is_delete kind ≡ false → lookup (key_of key) stands.pairs ≡ None → counted root.counts table < limit_of table → IsOk (after_line gaz kind line)
  come_taken puts none room =
      let new_one = ap one_if (puts_line puts) in
      let old_one = ap one_if (none_found none) in
      subst IsOk (sym (taken_with (counted root.counts table + 1) (omega (arith, new_one, old_one)) (omega (arith, room)))) refl

  -- So is one whose like stands there.
  pub change_taken : (place : ℕ) (was : List ℕ) → StandsAt v key stands.pairs place was → IsOk (after_line gaz kind line)
  change_taken place was at = subst IsOk (sym (by (is_delete kind) refl)) refl
    where
      by : (deletes : Bool) → is_delete kind ≡ deletes → after_line gaz kind line ≡ Ok (step gaz kind line)
      by true deletes =
          let new_none = ap one_if (puts_none deletes) in
          let old_one = ap one_if (some_found place was at) in
          let few = few_lines in
          taken_with (counted root.counts table - 1) (omega (arith, new_none, old_one)) (omega (arith, few))
      by false puts =
          let new_one = ap one_if (puts_line puts) in
          let old_one = ap one_if (some_found place was at) in
          taken_with (counted root.counts table) (omega (arith, new_one, old_one)) few_lines

  -- The line that is put stands there already.
  pub same_stands : (place : ℕ) → is_delete kind ≡ false → StandsAt v key stands.pairs place line → Stepped v root
  same_stands place puts at =
      let new_one = ap one_if (puts_line puts) in
      let old_one = ap one_if (some_found place line at) in
      let few = few_lines in
      left_by v root stands.pairs (all_but place (places_in stands.pairs)) (Some line) place (counted root.counts table) (puts_line puts) pairs_stay (others_are (Some place) at.at)
      (record {
        laid = after_order v root stands.pairs (root.heap ∷ []) (places_in stands.pairs) (place ∷ all_but place (places_in stands.pairs)) laid_here to from;
        left = record {
          there = λ l l_is. at.record_is ∙ l_is;
          unlisted = λ l l_is has. (among_all place (places_in stands.pairs) place has).1 refl;
          same = λ stood has. refl;
        };
      })
      refl (omega (arith, new_one, old_one)) (recounted_same table root.counts) few
    where
      more : List (List ℕ)
      more = more_keys table line

      none : missing_in more more ≡ []
      none = none_missing more

      pairs_stay : pairs_with now gaz kind line numbers place stands.pairs ≡ stands.pairs
      pairs_stay =
          put_pairs stands.slots now gaz kind line numbers stands.pairs bytes meets place puts
          ∙ ap (put_zeros (missing_in (more_by table (old_by gaz kind numbers)) more)) (put_stays stands.slots now gaz kind line numbers stands.pairs bytes meets place (ap (λ k. lookup (key_of k) stands.pairs) is ∙ at.at))
          ∙ ap (λ one. put_zeros (missing_in (more_by table one) more) (without_all (missing_in more (more_by table one)) stands.pairs)) (some_found place line at)
          ∙ ap (λ ks. put_zeros ks (without_all ks stands.pairs)) none

      to : (other : ℕ) → Contains (places_in stands.pairs) other → Contains (place ∷ all_but place (places_in stands.pairs)) other
      to other has = elim (cases_eq other place) [
        | inl same ↦ subst (Contains (place ∷ all_but place (places_in stands.pairs))) (sym same) (head_is_in place (all_but place (places_in stands.pairs)))
        | inr differs ↦ tail_is_in place (all_but place (places_in stands.pairs)) other (among_rest place (places_in stands.pairs) other has differs)
      ]

      from : (other : ℕ) → Contains (place ∷ all_but place (places_in stands.pairs)) other → Contains (places_in stands.pairs) other
      from other has = elim (contained place (all_but place (places_in stands.pairs)) other has) [
        | inl same ↦ subst (Contains (places_in stands.pairs)) same (place_there place at.at)
        | inr rest ↦ (among_all place (places_in stands.pairs) other rest).0
      ]

  -- None stands there that could be taken out.
  pub none_stands : is_delete kind ≡ true → lookup (key_of key) stands.pairs ≡ None → Stepped v root
  none_stands deletes none =
      let new_none = ap one_if (puts_none deletes) in
      let old_none = ap one_if (none_found none) in
      let few = few_lines in
      let taken = taken_with (counted root.counts table) (omega (arith, new_none, old_none)) few in
      (step gaz kind line, taken, nothing_left gaz v root stands now kind line numbers meets (step gaz kind line) taken after_order are_laid deletes (none_found none))
