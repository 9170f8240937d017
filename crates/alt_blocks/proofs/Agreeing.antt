-- What a cache holds stays right while the disk reads the same.
use Rattle.std.proofs.Common.{◌≡◌, ◌⊎◌, ◌==◌, ◌&&◌, ◌-◌, inl, inr, ⊎_elim, min, ℕ, Bool, true, List, Some, IsTrue, sym, ap, subst, ◌∙◌, take, drop, length, Contains, arith}
use Rattle.std.specs.Map.{lookup}
use Rattle.std.proofs.lemmas.Bool.{and_parts}
use Rattle.std.proofs.lemmas.List.{take-take, take-append-drop, take_at, length-take, length-drop}
use Rattle.lru.specs.LruCache.{LruCache, promoted, put_entries}
use Rattle.lru.proofs.CallerLemmas.{Contains-put_entries, Contains-promoted, Contains-lookup}
use Rattle.alt_disk.specs.Disk.{DiskState, Read, bytes_or_none}
use Rattle.alt_shell.specs.Calls.{Keeps as KeepsFiles}
use Rattle.alt_blocks.specs.Places.{CacheKeeps, CacheAgrees, HasNoNewPlace, CacheAddsPlace, ReadPlace, bytes_on_disk, same_place}
use Rattle.alt_blocks.specs.declared.cache.BlockCache.{BlockCache}

-- what agrees with one disk agrees with another whose files read the same
pub agrees_same : (a b : DiskState) (cache : BlockCache) → ((g : ℕ) → b.file g ≡ a.file g)
    → CacheAgrees a cache → CacheAgrees b cache
agrees_same a b cache same h = λ p bytes c.
    h p bytes c ∙ ap (λ (l : List ℕ). take p.2 (drop p.1 l)) (ap bytes_or_none (sym (same p.0)))

-- the same, where files need to read the same only of a disk that tells what it reads
pub agrees_on : (a b : DiskState) (cache : BlockCache) → (IsTrue a.tells → CacheAgrees a cache)
    → b.tells ≡ a.tells
    → (IsTrue a.tells → (g : ℕ) → b.file g ≡ a.file g) → IsTrue b.tells → CacheAgrees b cache
agrees_on a b cache h tells same told =
    let t : IsTrue a.tells = subst (λ (v : Bool). IsTrue v) tells told in
    agrees_same a b cache (same t) (h t)

-- the same behind a call of a shell, which leaves all files
pub agrees_kept : (a b : DiskState) (cache : BlockCache) → (IsTrue a.tells → CacheAgrees a cache)
    → KeepsFiles a b → IsTrue b.tells → CacheAgrees b cache
agrees_kept a b cache h keeps = agrees_on a b cache h keeps.tells (λ told. keeps.file)

same_number : (m n : ℕ) → (m == n) ≡ true → m ≡ n
same_number m n e = grind arith

-- places that are told to be the same are the same
pub same_is : (p q : ReadPlace) → same_place p q ≡ true → p ≡ q
same_is p q e =
    let two = and_parts ((p.0 == q.0) && (p.1 == q.1)) (p.2 == q.2) e in
    let one = and_parts (p.0 == q.0) (p.1 == q.1) two.0 in
    let a = same_number p.0 q.0 one.0 in
    let b = same_number p.1 q.1 one.1 in
    let c = same_number p.2 q.2 two.1 in
    (λ i. (a i, b i, c i))

-- what is found at a place is what is kept there
pub found : (cache : BlockCache) (place : ReadPlace) (bytes : List ℕ)
    → lookup (same_place place) cache.places.entries ≡ Some bytes → CacheKeeps cache place bytes
found cache place bytes there =
    let e = Contains-lookup (same_place place) cache.places.entries bytes there in
    subst (λ (p : ReadPlace). CacheKeeps cache p bytes) (sym (same_is place e.0 e.2)) e.1

-- the same places in another order
pub within_promoted : (old new : List (ReadPlace × List ℕ)) (test : ReadPlace → Bool)
    → new ≡ promoted test old → (p : ReadPlace) (bytes : List ℕ) → Contains new (p, bytes)
    → Contains old (p, bytes)
within_promoted old new test is p bytes kept = Contains-promoted test old (p, bytes)
    (subst (λ (l : List (ReadPlace × List ℕ)). Contains l (p, bytes)) is kept)

-- a cache that holds no more than one before agrees with the disk as that one did
pub agrees_within : (s : DiskState) (old new : BlockCache) → HasNoNewPlace old new → CacheAgrees s old
    → CacheAgrees s new
agrees_within s old new within h p bytes kept = h p bytes (within p bytes kept)

-- one place more
pub adds_put : (old : LruCache ReadPlace (List ℕ)) (new : List (ReadPlace × List ℕ)) (place : ReadPlace)
    (bytes : List ℕ) → new ≡ put_entries same_place old place bytes → (p : ReadPlace) (b : List ℕ)
    → Contains new (p, b) → Contains old.entries (p, b) ⊎ ((p ≡ place) × (b ≡ bytes))
adds_put old new place bytes is p b kept = ⊎_elim (λ before. inl before)
    (λ put. inr (at_place put.1, put.0))
    (Contains-put_entries same_place old place bytes (p, b)
    (subst (λ (l : List (ReadPlace × List ℕ)). Contains l (p, b)) is kept))
  where
    at_place : (p ≡ place)
        ⊎ ((w : List ℕ) × Contains old.entries (p, w) × (same_place place p ≡ true)) → p ≡ place
    at_place (inl e) = e
    at_place (inr o) = sym (same_is place p o.2)

-- a cache that adds what the disk gives at a place goes on agreeing with it
pub agrees_adds : (s : DiskState) (old new : BlockCache) (place : ReadPlace) (bytes : List ℕ)
    → CacheAddsPlace old new place bytes → bytes ≡ bytes_on_disk s place → CacheAgrees s old → CacheAgrees s new
agrees_adds s old new place bytes adds is h p b kept = ⊎_elim (λ before. h p b before)
    (λ put. put.1 ∙ is ∙ ap (bytes_on_disk s) (sym put.0)) (adds p b kept)

-- what adds to a cache that holds no more than one before adds to that one
pub adds_within : (old middle new : BlockCache) (place : ReadPlace) (bytes : List ℕ)
    → HasNoNewPlace old middle → CacheAddsPlace middle new place bytes → CacheAddsPlace old new place bytes
adds_within old middle new place bytes within adds p b kept = ⊎_elim
    (λ before. inl (within p b before)) (λ put. inr put) (adds p b kept)

-- a cache that holds no more than one before adds nothing to it, whatever the place
pub adds_none : (old new : BlockCache) (place : ReadPlace) (bytes : List ℕ) → HasNoNewPlace old new
    → CacheAddsPlace old new place bytes
adds_none old new place bytes within p b kept = inl (within p b kept)

-- bytes that the disk gives are what a read gives
pub read_given : (whole old new bytes : List ℕ) (at count : ℕ)
    → bytes ≡ take (length old) (drop at whole) → count ≡ min (length old) (length bytes)
    → take count new ≡ take count bytes → Read whole at old new count
read_given whole old new bytes at count is size front =
    let long : length bytes ≡ min (length old) (length whole - at) =
    omega
    (arith, ap length is, length-take (length old) (drop at whole), length-drop at whole) in
    record {
      count_is = omega (arith, size, long);
      front = front ∙ ap (take count) is
          ∙ take-take count (length old) (drop at whole) (omega (arith, size));
    }

-- and back: a read gives what the disk gives there
pub given_read : (whole old new : List ℕ) (at count : ℕ) → Read whole at old new count
    → take count new ≡ take (length old) (drop at whole)
given_read whole old new at count read =
    let bytes = take (length old) (drop at whole) in
    let size : count ≡ length bytes =
    omega (arith, read.count_is, length-take (length old) (drop at whole), length-drop at whole)
    in
    read.front ∙ ap (take count) (sym (take-append-drop (length old) (drop at whole)))
    ∙ take_at bytes (drop (length old) (drop at whole)) count (sym size)
