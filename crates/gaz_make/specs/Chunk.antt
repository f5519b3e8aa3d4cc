-- A text that is put together.
use Rattle.std.specs.Prelude.{ℕ, List, take}
use Rattle.gaz_make.specs.declared.chunk.Chunk.{Chunk}

-- the bytes that were put into it
abbrev pub text_of : Chunk → List ℕ
text_of chunk = take chunk.size chunk.bytes
