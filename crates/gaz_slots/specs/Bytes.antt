-- A range of bytes was replaced.
use Rattle.std.specs.Prelude.{◌≡◌, ℕ, ◌+◌, List, ◌++◌, length, take, drop, Option, IsSomeAnd}

-- so many bytes from a place on
abbrev pub part : ℕ → ℕ → List ℕ → List ℕ
part at n bytes = take n (drop at bytes)

-- the bytes with these ones from a place on
abbrev pub edited : ℕ → List ℕ → List ℕ → List ℕ
edited at new bytes = take at bytes ++ new ++ drop (at + length new) bytes

-- there is this record, and its n bytes stand in the front of the buffer
abbrev pub IsCopied : ℕ → List ℕ → Option (List ℕ) → Type 0
IsCopied n buf record_ = IsSomeAnd record_ (λ bytes. (n ≡ length bytes) × (take n buf ≡ bytes))
