-- What the values of a search are seen as.
use Rattle.std.specs.Prelude.{map}
use Rattle.std.specs.Option.{option_copied}
use Rattle.gaz_words.specs.declared.search.Values.{Values}
use Rattle.gaz_words.specs.Search.{Values as AllValues}

-- the text of each value
abbrev pub values_of : Values → AllValues
values_of values = map option_copied values.texts
