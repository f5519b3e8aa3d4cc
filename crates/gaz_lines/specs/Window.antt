-- What the buffer holds.
use Rattle.std.specs.Prelude.{ℕ, ◌<◌, List, Option, Some, None, vec_len, slice_range, if◌then◌else◌, nat_le, ◌&&◌}
use Rattle.gaz_lines.specs.declared.window.Window.{Window}
use Rattle.gaz_lines.specs.declared.window.Span.{Span}

-- the bytes that were taken and not given yet
abbrev pub items : Window → List ℕ
items window = slice_range window.bytes.items window.start window.end

-- the bytes that stand there, where the place lies within the buffer
abbrev pub bytes_at : Window → Span → Option (List ℕ)
bytes_at window span =
    if nat_le span.from span.to && nat_le span.to (vec_len window.bytes) then Some (slice_range window.bytes.items span.from span.to) else None

-- Bytes may be put behind those that are held.
abbrev pub has_room : Window → Type 0
has_room window = window.end < vec_len window.bytes

-- the bytes that stand there
abbrev pub text_at : Window → Span → List ℕ
text_at window span = slice_range window.bytes.items span.from span.to
