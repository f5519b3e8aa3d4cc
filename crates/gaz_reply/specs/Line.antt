-- A line that is put together.
use Rattle.std.specs.Prelude.{ℕ, List, take}
use Rattle.gaz_reply.specs.declared.line.Line.{Line}

-- the bytes that were put into it
abbrev pub text_of : Line → List ℕ
text_of line = take line.size line.bytes
