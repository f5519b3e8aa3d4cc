-- Lines of a gazetteer have keys of 32 bytes. That of their bytes stands in gaz_keys.
use Rattle.std.proofs.Common.{ℕ, List}
use Rattle.gaz_num.specs.declared.words.Table.{Table}
use Rattle.gaz_num.specs.declared.words.Table.TheVariants.{Rows, Alternates, Links, Countries, Codes}
use Rattle.gaz_plain.specs.Gazetteer.{IsLine, kind_in}
use Rattle.gaz_keys.specs.Keys.{IsKey}
use Rattle.gaz_keys.specs.Lines.{key_at, IsKeyed}
use Rattle.gaz_keys.proofs.KeysFit as keys
pub use Rattle.gaz_keys.proofs.Fit.{AreBytes, byte_fits, no_comment}
pub use Rattle.gaz_keys.proofs.KeysFit.{place_key_fits, alternate_key_fits, country_key_fits, code_key_fits}

-- a line of a table is accepted and has a key
pub keyed : (table : Table) (line : List ℕ) → IsLine (kind_in table) line → IsKeyed table line
keyed Rows line is = record { accepted = is.accepted; keyed = is.keyed }
keyed Alternates line is = record { accepted = is.accepted; keyed = is.keyed }
keyed Links line is = record { accepted = is.accepted; keyed = is.keyed }
keyed Countries line is = record { accepted = is.accepted; keyed = is.keyed }
keyed Codes line is = record { accepted = is.accepted; keyed = is.keyed }

-- the key by which a line stands at its place has 32 bytes
pub key_fits : (table : Table) (slot : ℕ) (line : List ℕ) → IsLine (kind_in table) line → IsKey (key_at table slot line)
key_fits table slot line is = keys.key_fits table slot line (keyed table line is)
