use Rattle.std.proofs.Common.{◌≡◌, length, map}
use denote.Shadow.{shadow}
use denote.Text.{Utf8}
use Rattle.gaz_num.specs.Pieces.{fields}
use Rattle.std.specs.Option.{option_copied}
use Rattle.gaz_words.specs.Search.{no_values, with_parameters}
use Rattle.gaz_words.proofs.search.Values.read.Given as goal

-- what is to come of all is to come of the rest
abbrev pub invariant-texts : goal.invariant-texts
invariant-texts l = record {
  text : shadow (Utf8 l.rest);
  so_far : with_parameters no_values (fields l.text) ≡ with_parameters (map option_copied l.values.0) (fields l.rest);
}

abbrev pub decreases-texts : goal.decreases-texts
decreases-texts l = length l.rest
