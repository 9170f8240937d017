-- Flushed numbers, put into a map from the last family back.
use Rattle.std.proofs.Common.{◌≡◌, ◌<◌, ◌+◌, ◌-◌, ◌==◌, ◌∷◌, ◌++◌, ℕ, suc, Bool, true, false, cond, List, [], drop, drop-cons, take, take-append-drop, length, get_or, Some, None, refl, sym, ap, ◌∙◌, arith}
use Rattle.std.specs.Prelude.{if◌then◌else◌}
use Rattle.std.specs.BTreeMap.{BTreeMap, get, is_at}
use Rattle.std.specs.Map.{lookup}
use Rattle.std.specs.Ordering.{nat_cmp, is_eq}
use Rattle.alt_base.proofs.Orderings.{is_eq-nat_cmp}
use Rattle.alt_layout.specs.Families.{flushed_of}
use Rattle.alt_manifest.specs.declared.version.FamilyVersion.{FamilyVersion}
use Rattle.alt_recovery.specs.Flushed.{flushed_in, or_zero}

-- an empty map has nothing
pub get_empty : {X : Type 0} (m : BTreeMap ℕ X) → m.entries ≡ [] → (q : ℕ)
    → get nat_cmp m q ≡ None
get_empty m none q = ap (λ es. lookup (is_at (nat_cmp q)) es) none

-- behind the last elements of a list stands one more
pub drop_back : {X : Type 0} (xs : List X) (i k : ℕ) (x : X) → i < length xs
    → k ≡ length xs - 1 - i → x ≡ get_or xs k x
    → drop (length xs - (i + 1)) xs ≡ x ∷ drop (length xs - i) xs
drop_back xs i k x within at is =
    let here : length xs - (i + 1) ≡ k = omega (arith, at, within) in
    let next : suc k ≡ length xs - i = omega (arith, at, within) in
    ap (λ n. drop n xs) here ∙ drop-cons xs k x (omega (arith, at, within))
    ∙ (λ j. sym is j ∷ drop (next j) xs)

-- one family more
pub numbers_more : (old new : BTreeMap ℕ ℕ) (fs : List FamilyVersion) (f : FamilyVersion)
    → ((family : ℕ) → flushed_in old family ≡ flushed_of fs family)
    → ((q : ℕ) → get nat_cmp new q
    ≡ cond (is_eq (nat_cmp f.family q)) (Some f.flushed) (get nat_cmp old q))
    → (family : ℕ) → flushed_in new family ≡ flushed_of (f ∷ fs) family
numbers_more old new fs f before put family =
    ap or_zero (put family ∙ ap (λ b. cond b (Some f.flushed) (get nat_cmp old family))
    (is_eq-nat_cmp f.family family))
    ∙ by_test (f.family == family) (before family)
  where
    by_test : (t : Bool) → flushed_in old family ≡ flushed_of fs family
        → or_zero (cond t (Some f.flushed) (get nat_cmp old family))
        ≡ (if t then f.flushed else flushed_of fs family)
    by_test true rest = refl
    by_test false rest = rest

-- and all of it around that element
pub back_split : {X : Type 0} (xs : List X) (i k : ℕ) (x : X) → i < length xs
    → k ≡ length xs - 1 - i → x ≡ get_or xs k x
    → xs ≡ take k xs ++ x ∷ drop (length xs - i) xs
back_split xs i k x within at is =
    let next : suc k ≡ length xs - i = omega (arith, at, within) in
    sym (take-append-drop k xs)
    ∙ ap (λ l. take k xs ++ l) (drop-cons xs k x (omega (arith, at, within))
    ∙ (λ j. sym is j ∷ drop (next j) xs))
