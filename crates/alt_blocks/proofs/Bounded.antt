-- What a cache holds stays short.
use Rattle.std.proofs.Common.{◌≡◌, ◌≤◌, ℕ, Bool, List, length, Result, Ok, Err, OnOk, OnErr, ⊎_elim, sym, ap, subst}
use Rattle.lru.specs.LruCache.{LruCache, lru_cache, promoted, put_entries}
use Rattle.alt_blocks.specs.declared.cache.TheConstants.{LONGEST_KEPT}
use Rattle.alt_blocks.specs.Places.{ReadPlace, same_place}
use Rattle.alt_blocks.specs.Short.{AreShort}
use Rattle.alt_blocks.proofs.Agreeing.{adds_put, within_promoted}

-- the same places in another order
pub short_promoted : (old new : List (ReadPlace × List ℕ)) (test : ReadPlace → Bool)
    → new ≡ promoted test old → AreShort old → AreShort new
short_promoted old new test is short p bytes kept =
    short p bytes (within_promoted old new test is p bytes kept)

-- a short one more, or none
pub short_put : {X E : Type 0} (r : Result X E) (old new : LruCache ReadPlace (List ℕ)) (place : ReadPlace)
    (bytes : List ℕ) → OnOk r (new ≡ lru_cache (put_entries same_place old place bytes) old.cap)
    → OnErr r (new ≡ old) → length bytes ≤ LONGEST_KEPT → AreShort old.entries
    → AreShort new.entries
short_put (Ok x) old new place bytes is none one short p b kept = ⊎_elim (λ before. short p b before)
    (λ put. subst (λ (v : List ℕ). length v ≤ LONGEST_KEPT) (sym put.1) one)
    (adds_put old new.entries place bytes (ap (λ l. l.entries) is) p b kept)
short_put (Err e) old new place bytes none is one short p b kept =
    subst (λ (l : LruCache ReadPlace (List ℕ)). AreShort l.entries) (sym is) short p b kept
