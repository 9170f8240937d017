-- What a cache of reads holds.
use Rattle.std.specs.Prelude.{◌≡◌, ◌⊎◌, ℕ, Bool, List, [], take, drop, is_some, Contains, ◌&&◌, ◌==◌}
use Rattle.std.specs.Map.{lookup}
use Rattle.alt_disk.specs.Disk.{DiskState, contents}
use Rattle.alt_blocks.specs.declared.cache.BlockCache.{BlockCache}

-- a read: its file, its place, and the length of its buffer
abbrev pub ReadPlace : Type 0
ReadPlace = ℕ × ℕ × ℕ

-- what the disk gives there
abbrev pub bytes_on_disk : DiskState → ReadPlace → List ℕ
bytes_on_disk s p = take p.2 (drop p.1 (contents s p.0))

-- a place of the cache has these bytes
abbrev pub CacheKeeps : BlockCache → ReadPlace → List ℕ → Type 0
CacheKeeps cache p bytes = Contains cache.places.entries (p, bytes)

-- each place of the cache holds what the disk gives there
abbrev pub CacheAgrees : DiskState → BlockCache → Type 0
CacheAgrees s cache = (p : ReadPlace) (bytes : List ℕ) → CacheKeeps cache p bytes → bytes ≡ bytes_on_disk s p

-- no place is new
abbrev pub HasNoNewPlace : BlockCache → BlockCache → Type 0
HasNoNewPlace old new = (p : ReadPlace) (bytes : List ℕ) → CacheKeeps new p bytes → CacheKeeps old p bytes

-- no place is new but this one, which has these bytes
abbrev pub CacheAddsPlace : BlockCache → BlockCache → ReadPlace → List ℕ → Type 0
CacheAddsPlace old new place kept = (p : ReadPlace) (bytes : List ℕ) → CacheKeeps new p bytes
    → CacheKeeps old p bytes ⊎ ((p ≡ place) × (bytes ≡ kept))

-- two places are the same
abbrev pub same_place : ReadPlace → ReadPlace → Bool
same_place p q = ((p.0 == q.0) && (p.1 == q.1)) && (p.2 == q.2)

-- whether the cache has a place
abbrev pub cache_has_place : BlockCache → ℕ → ℕ → ℕ → Bool
cache_has_place cache f at n = is_some (lookup (same_place (f, at, n)) cache.places.entries)

-- it has no place
abbrev pub IsEmpty : BlockCache → Type 0
IsEmpty cache = cache.places.entries ≡ []

-- how many places it may have
abbrev pub room_of : BlockCache → ℕ
room_of cache = cache.places.cap
