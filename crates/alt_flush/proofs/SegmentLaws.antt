-- A draft with a segment more, which is empty: it is a version, and its layout is the one before.
use Rattle.std.proofs.Common.{◌≡◌, ◌<◌, ◌≤◌, ◌+◌, ◌^◌, ⊎_elim, inl, inr, ℕ, List, [], ◌∷◌, ◌++◌, length, refl, sym, ap, subst, arith, length-append}
use Rattle.std.specs.Prelude.{◌⊎◌}
use Rattle.std.specs.List.{AllByRecursion}
use Rattle.alt_fields.proofs.Apart.{all_front}
use Rattle.alt_writes.specs.Writes.{AreRising, Write}
use Rattle.alt_writes.specs.Bytes.{AllHeld}
use Rattle.alt_manifest.specs.Versions.{AreDistinct, IsIn, IsVersion, RiseFrom, files_named, row_files}
use Rattle.alt_manifest.specs.declared.version.Version.{Version}
use Rattle.alt_layout.specs.Families.{Held, layout_of}
use Rattle.alt_layout.specs.Files.{EndsWith, Image, IsSegment, Stored, all_of}
use Rattle.alt_layout.proofs.FileLaws.{segments_with}
use Rattle.alt_layout.proofs.FlushLaws.{above_all, all_later, rise_count}
use Rattle.alt_flush.specs.Drafts.{with_segment}

-- ---- a number more among others

-- it is the new one or one of the others
pub in_inserted : (xs ys : List ℕ) (n m : ℕ) → IsIn ((xs ++ n ∷ []) ++ ys) m
    → (m ≡ n) ⊎ IsIn (xs ++ ys) m
in_inserted [] ys n m there = there
in_inserted (x ∷ xs) ys n m there = ⊎_elim
    (λ (e : m ≡ x). inr (inl e))
    (λ (later : IsIn ((xs ++ n ∷ []) ++ ys) m). ⊎_elim (λ (e : m ≡ n). inl e)
    (λ (old : IsIn (xs ++ ys) m). inr (inr old)) (in_inserted xs ys n m later)) there

-- each of the others is there
pub in_beside : (xs ys : List ℕ) (n m : ℕ) → IsIn (xs ++ ys) m → IsIn ((xs ++ n ∷ []) ++ ys) m
in_beside [] ys n m there = inr there
in_beside (x ∷ xs) ys n m there = ⊎_elim (λ (e : m ≡ x). inl e)
    (λ (later : IsIn (xs ++ ys) m). inr (in_beside xs ys n m later)) there

-- where it is above all others it rises behind them
rise_push : (least : ℕ) (ns : List ℕ) (n : ℕ) → RiseFrom least ns → least ≤ n
    → AllByRecursion (λ m. m < n) ns → RiseFrom least (ns ++ n ∷ [])
rise_push least [] n rise le below = (le, tt)
rise_push least (m ∷ ns) n rise le below =
    (rise.0, rise_push (m + 1) ns n rise.1 (let low = below.0 in omega (arith, low)) below.1)

-- and none stands twice
distinct_insert : (xs ys : List ℕ) (n : ℕ) → AreDistinct (xs ++ ys)
    → AllByRecursion (λ m. m < n) (xs ++ ys) → AreDistinct ((xs ++ n ∷ []) ++ ys)
distinct_insert [] ys n differ below = (above_all ys n below, differ)
distinct_insert (x ∷ xs) ys n differ below = (
  λ there. ⊎_elim (λ (e : x ≡ n). let low = below.0 in omega (arith, low, e))
      (λ (old : IsIn (xs ++ ys) x). differ.0 old) (in_inserted xs ys n x there),
  distinct_insert xs ys n differ.1 below.1,
)

-- all are below the next one
all_insert : (xs ys : List ℕ) (n : ℕ) → AllByRecursion (λ m. m < n) (xs ++ ys)
    → AllByRecursion (λ m. m < n + 1) ((xs ++ n ∷ []) ++ ys)
all_insert [] ys n below = (omega arith, all_later ys n (n + 1) (omega arith) below)
all_insert (x ∷ xs) ys n below =
    ((let low = below.0 in omega (arith, low)), all_insert xs ys n below.1)

-- ---- the draft

-- It is a version.
pub with_segment_is : (u : Version) → IsVersion u → u.next_file + 1 < 2 ^ 32 → 2 ≤ u.next_file
    → IsVersion (with_segment u)
with_segment_is u is fits two =
    let rows = row_files u.families in
    let below : AllByRecursion (λ f. f < u.next_file) u.segments =
    all_front (λ f. f < u.next_file) u.segments rows is.below in
    let few = rise_count 2 u.next_file u.segments two is.segments below in
    record {
      next_file = fits;
      next_number = is.next_number;
      some = omega (arith, length-append u.segments (u.next_file ∷ []));
      segments = rise_push 2 u.segments u.next_file is.segments two below;
      count = omega (arith, length-append u.segments (u.next_file ∷ []), few, fits);
      rising = is.rising;
      families = is.families;
      families_count = is.families_count;
      below = all_insert u.segments rows u.next_file is.below;
      differ = distinct_insert u.segments rows u.next_file is.differ is.below;
    }

-- all writes, with those of an empty segment
pub all_of-none : (parts : List (List Write)) → all_of (parts ++ [] ∷ []) ≡ all_of parts
all_of-none [] = refl
all_of-none (ws ∷ parts) = ap (λ x. ws ++ x) (all_of-none parts)

-- Its files hold what they held, and the segment no write.
pub with_segment_stored : (image : Image) (u : Version) (held : Held) (parts : List (List Write))
    → Stored image u held parts → IsSegment [] (image u.next_file)
    → Stored image (with_segment u) held (parts ++ [] ∷ [])
with_segment_stored image u held parts stored log = record {
  files = stored.files;
  segments = segments_with image u.segments u.next_file parts [] stored.segments log;
  writes = subst AllHeld (sym (all_of-none parts)) stored.writes;
  rising = subst (AreRising 1) (sym (all_of-none parts)) stored.rising;
}

-- Its layout is the one before.
pub with_segment_same : (u : Version) (held : Held) (parts : List (List Write))
    → layout_of (with_segment u) held (all_of (parts ++ [] ∷ [])) ≡ layout_of u held (all_of parts)
with_segment_same u held parts = ap (layout_of u held) (all_of-none parts)

-- The segment is its last one, and has no writes.
pub with_segment_ends : (u : Version) (parts : List (List Write))
    → EndsWith (with_segment u) (parts ++ [] ∷ []) u.next_file []
with_segment_ends u parts = record {
  firsts = u.segments;
  fronts = parts;
  segments = refl;
  parts_are = refl;
}

-- No file goes.
pub segment_drops : (u : Version) (f : ℕ) → IsIn (files_named u) f
    → IsIn (files_named (with_segment u)) f ⊎ IsIn [] f
segment_drops u f there = inl (in_beside u.segments (row_files u.families) u.next_file f there)
