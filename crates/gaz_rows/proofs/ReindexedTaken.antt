-- What becomes of a line by its check and the number of lines, and what the counts of the tables then are.
use Rattle.std.proofs.Common.{◌≡◌, ◌<◌, ◌≤◌, ◌+◌, ◌-◌, ℕ, Bool, List, length, refl, sym, ◌∙◌, ap, subst, arith, Some, None, Ok, Err}
use Rattle.std.specs.Prelude.{if◌then◌else◌}
use Rattle.std.proofs.lemmas.Bool.{lt-ltb, le-ltb}
use Rattle.gaz_num.specs.declared.words.Kind.{Kind}
use Rattle.gaz_num.specs.declared.words.Table.{Table}
use Rattle.gaz_num.specs.declared.words.Table.TheVariants.{Rows, Alternates, Links, Countries, Codes}
use Rattle.gaz_num.specs.declared.words.Reason.{Reason}
use Rattle.gaz_num.specs.Check.{reason_against, key_in}
use Rattle.gaz_plain.specs.Gazetteer.{Gazetteer, IsGazetteer, malformed, full, lines_in, with_lines, limit_of, table_of, put_by, replaced, step, step_at, after_check, after_line}
use Rattle.gaz_plain.proofs.Steps.{own_lines}
use Rattle.gaz_rows.specs.Stands.{counts_of}
use Rattle.gaz_rows.specs.Steps.{counted, recounted, one_if, line_put, old_by}
use Rattle.gaz_rows.proofs.ReindexedLines.{step_counts}

-- a line against which there is a reason
pub is_malformed : (gaz : Gazetteer) (kind : Kind) (line : List ℕ) (reason : Reason) → reason_against kind line ≡ Some reason → after_line gaz kind line ≡ Err (malformed reason)
unfolding after_line
is_malformed gaz kind line reason is = ap (after_check gaz kind line) is

-- one that passes its check, by how many lines there are then
pub is_within : (gaz : Gazetteer) (kind : Kind) (line : List ℕ) → reason_against kind line ≡ None → length (lines_in (step gaz kind line) (table_of kind)) ≤ limit_of (table_of kind) → after_line gaz kind line ≡ Ok (step gaz kind line)
unfolding after_line
is_within gaz kind line is within =
    ap (after_check gaz kind line) is
    ∙ ap (λ (b : Bool). if b then Err (full (table_of kind)) else Ok (step gaz kind line)) (le-ltb (limit_of (table_of kind)) (length (lines_in (step gaz kind line) (table_of kind))) within)

pub is_full : (gaz : Gazetteer) (kind : Kind) (line : List ℕ) → reason_against kind line ≡ None → limit_of (table_of kind) < length (lines_in (step gaz kind line) (table_of kind)) → after_line gaz kind line ≡ Err (full (table_of kind))
unfolding after_line
is_full gaz kind line is past =
    ap (after_check gaz kind line) is
    ∙ ap (λ (b : Bool). if b then Err (full (table_of kind)) else Ok (step gaz kind line)) (lt-ltb (limit_of (table_of kind)) (length (lines_in (step gaz kind line) (table_of kind))) past)

-- A line without a key changes nothing.
pub is_comment : (gaz : Gazetteer) (kind : Kind) (line : List ℕ) → IsGazetteer gaz → reason_against kind line ≡ None → key_in kind line ≡ None → after_line gaz kind line ≡ Ok gaz
is_comment gaz kind line is accepted none =
    let same : step gaz kind line ≡ gaz = ap (step_at gaz kind line) none in
    is_within gaz kind line accepted (subst (λ g. length (lines_in g (table_of kind)) ≤ limit_of (table_of kind)) (sym same) (is.tables (table_of kind)).within) ∙ ap Ok same

-- ---- counts

-- how many lines a table has, by the counts
pub counted_is : (gaz : Gazetteer) (table : Table) → counted (counts_of gaz) table ≡ length (lines_in gaz table)
counted_is gaz Rows = refl
counted_is gaz Alternates = refl
counted_is gaz Links = refl
counted_is gaz Countries = refl
counted_is gaz Codes = refl

recounted_is : (gaz : Gazetteer) (table : Table) (lines : List (List ℕ)) → counts_of (with_lines gaz table lines) ≡ recounted (counts_of gaz) table (length lines)
recounted_is gaz Rows lines = refl
recounted_is gaz Alternates lines = refl
recounted_is gaz Links lines = refl
recounted_is gaz Countries lines = refl
recounted_is gaz Codes lines = refl

module _ (gaz : Gazetteer) (kind : Kind) (line key : List ℕ) (keyed : key_in kind line ≡ Some key) (is : IsGazetteer gaz) where
  -- how many lines the table has after a step
  pub step_count : length (lines_in (step gaz kind line) (table_of kind)) ≡ counted (counts_of gaz) (table_of kind) + one_if (line_put kind line) - one_if (old_by gaz kind key)
  step_count =
      let count = step_counts gaz kind line key keyed is in
      let before = counted_is gaz (table_of kind) in
      omega (arith, count, before)

  -- The other counts stay.
  pub step_recounts : counts_of (step gaz kind line) ≡ recounted (counts_of gaz) (table_of kind) (counted (counts_of gaz) (table_of kind) + one_if (line_put kind line) - one_if (old_by gaz kind key))
  step_recounts =
      let same : step gaz kind line ≡ with_lines gaz (table_of kind) (replaced (table_of kind) key (put_by kind line) (lines_in gaz (table_of kind))) = ap (step_at gaz kind line) keyed in
      ap counts_of same
      ∙ recounted_is gaz (table_of kind) (replaced (table_of kind) key (put_by kind line) (lines_in gaz (table_of kind)))
      ∙ ap (recounted (counts_of gaz) (table_of kind)) (sym (ap length (own_lines gaz (table_of kind) (replaced (table_of kind) key (put_by kind line) (lines_in gaz (table_of kind))))) ∙ sym (ap (λ g. length (lines_in g (table_of kind))) same) ∙ step_count)
