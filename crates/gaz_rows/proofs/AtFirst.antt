-- What areas mirror is a gazetteer, and at first it is the empty one.
use Rattle.std.proofs.Common.{◌≤◌, [], refl, sym, subst, arith, inl, inr}
use Rattle.gaz_plain.specs.Gazetteer.{Gazetteer, empty}
use Rattle.gaz_num.specs.declared.words.Table.{Table}
use Rattle.gaz_num.specs.declared.words.Table.TheVariants.{Rows, Alternates, Links, Countries, Codes}
use Rattle.gaz_plain.specs.Gazetteer.{IsGazetteer, IsTable, limit_of, lines_in}
use Rattle.gaz_redo.specs.Content.{Contents}
use Rattle.gaz_rows.specs.Content.{HasGaz}
use Rattle.gaz_rows.specs.Laws.{MirroredIsGazetteer, EmptyAtFirst}

no_lines : (table : Table) → 0 ≤ limit_of table → IsTable table []
no_lines table some = record {
  each = λ k d below. absurd (omega (arith, below));
  rising = λ i j d lt below. absurd (omega (arith, below));
  within = some;
}

pub empty_is : IsGazetteer empty
empty_is = record { tables = each; undated = λ is. refl }
  where
    each : (table : Table) → IsTable table (lines_in empty table)
    each Rows = no_lines Rows (omega arith)
    each Alternates = no_lines Alternates (omega arith)
    each Links = no_lines Links (omega arith)
    each Countries = no_lines Countries (omega arith)
    each Codes = no_lines Codes (omega arith)

by_contents : (c : Contents) (gaz : Gazetteer) → HasGaz c gaz → IsGazetteer gaz
by_contents c gaz (inl short) = subst IsGazetteer (sym short.1) empty_is
by_contents c gaz (inr named) = named.stands.is_gazetteer

pub is_gazetteer : MirroredIsGazetteer
is_gazetteer areas gaz mirrors = by_contents mirrors.three gaz mirrors.gaz_in

pub empty_at_first : EmptyAtFirst
empty_at_first = record {
  three = record { root = []; left = []; right = [] };
  content = refl;
  gaz_in = inl (omega arith, refl);
}
