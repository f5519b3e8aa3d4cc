-- The chains of places: each place that is held stands on the chain of its key's bucket, those put later before those put earlier.
use Rattle.std.specs.Prelude.{◌≡◌, ◌≢◌, ℕ, ◌-◌, ◌*◌, ◌/◌, ◌%◌, ◌^◌, ◌<◌, ◌≤◌, Bool, true, false, ◌==◌, ◌&&◌, List, length, slice_index, slice_index_or}
use Rattle.gaz_places.specs.declared.places.Link.{Link}

-- The link is held for the key.
abbrev pub has : ℕ → Link → Bool
has key link = link.held && link.key == key

-- the number that stands for no place
abbrev pub nowhere : ℕ
nowhere = 2 ^ 32 - 1

-- a link that is held for no key
abbrev pub free_link : Link
free_link = record { key = 0; next = nowhere; held = false }

-- the link of a place; past the last place a free one
abbrev pub link_at : List Link → ℕ → Link
link_at links place = slice_index_or links place free_link

-- the bucket of a key, of so many: the upper half of a product taken as a fraction of 2^32
unfoldable pub bucket_of : ℕ → ℕ → ℕ
bucket_of count key = key * 11400714819323198485 % 2 ^ 64 / 2 ^ 32 * count / 2 ^ 32

-- The place is held for some key.
abbrev pub IsHeld : List Link → ℕ → Type 0
IsHeld links place = (link_at links place).held ≡ true

-- the bucket of the key that a place is held for
abbrev pub bucket_at : List Link → ℕ → ℕ
bucket_at links place = bucket_of (length links) (link_at links place).key

-- The place is held for a key of the bucket.
pub record StandsIn (links : List Link) (bucket place : ℕ) : Type 0 where
  pub held : IsHeld links place
  pub there : bucket_at links place ≡ bucket

-- Of the places of a bucket that were put before a time, this one was put last; where there are none it is nowhere.
pub record IsLatest (links : List Link) (times : ℕ → ℕ) (bucket time place : ℕ) : Type 0 where
  pub there : place ≢ nowhere → StandsIn links bucket place × (times place < time)
  pub latest : (other : ℕ) → StandsIn links bucket other → times other < time → StandsIn links bucket place × (times other ≤ times place)

-- Places were put at times of which no two are the same, for keys of which no two are the same. The head of a bucket is the place put last,
-- and the next place of each is the one put last before it.
pub record Linked (heads : List ℕ) (links : List Link) : Type 0 where
  pub times : ℕ → ℕ
  pub now : ℕ
  pub earlier : (place : ℕ) → IsHeld links place → times place < now
  pub apart : (a b : ℕ) → IsHeld links a → IsHeld links b → times a ≡ times b → a ≡ b
  pub alone : (a b : ℕ) → IsHeld links a → IsHeld links b → (link_at links a).key ≡ (link_at links b).key → a ≡ b
  pub first : (bucket : ℕ) → bucket < length links → IsLatest links times bucket now (slice_index heads bucket)
  pub later : (place : ℕ) → IsHeld links place → IsLatest links times (bucket_at links place) (times place) (link_at links place).next

-- A place follows another on the chain of a bucket, or is its first where the other is nowhere.
pub record LeadsTo (heads : List ℕ) (links : List Link) (bucket before place : ℕ) : Type 0 where
  pub first : before ≡ nowhere → slice_index heads bucket ≡ place
  pub later : before ≢ nowhere → StandsIn links bucket before × ((link_at links before).next ≡ place)
