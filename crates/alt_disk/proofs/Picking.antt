-- How a file is rebuilt and its open bytes are filled, in steps.
use Rattle.std.proofs.Common.{◌≡◌, ◌<◌, ◌≤◌, ◌+◌, ◌-◌, ◌||◌, min, ℕ, zero, suc, List, [], ◌∷◌, ◌++◌, length, drop, map, slice_set, Option, Some, None, is_none, append_assoc, refl, sym, ◌∙◌, ap, arith}
use Rattle.std.specs.List.{list_any}
use Rattle.alt_disk.specs.Fates.{opened}
use Rattle.alt_disk.specs.Stopped.{next, filled, behind_filled, open_bytes, is_missing, any_missing}
use Rattle.alt_disk.specs.Trace.{option_shape}
use Rattle.alt_disk.specs.declared.trace.Outline.{Outline}

-- a range of no bytes opens nothing
pub opened-nothing : (a n : ℕ) (known : List (Option ℕ)) → n ≡ 0 → opened a n known ≡ known
opened-nothing a n [] none = refl
opened-nothing zero zero (k ∷ known) none = refl
opened-nothing zero (suc n) (k ∷ known) none = absurd (omega (arith, none))
opened-nothing (suc a) n (k ∷ known) none = ap (λ (l : List (Option ℕ)). k ∷ l)
    (opened-nothing a n known none)

-- where one place more is opened, behind those that are open, one more of them is
set-opened : (known : List (Option ℕ)) (a n i m : ℕ) → i ≡ a + n → m ≡ n + 1 → i < length known
    → slice_set (opened a n known) i None ≡ opened a m known
set-opened [] a n i m is more below = absurd (omega (arith, below))
set-opened (k ∷ known) zero zero zero zero is more below = absurd (omega (arith, more))
set-opened (k ∷ known) zero zero zero (suc m) is more below =
    ap (λ (l : List (Option ℕ)). None ∷ l) (sym (opened-nothing zero m known (omega (arith, more))))
set-opened (k ∷ known) zero zero (suc i) m is more below = absurd (omega (arith, is))
set-opened (k ∷ known) zero (suc n) zero m is more below = absurd (omega (arith, is))
set-opened (k ∷ known) zero (suc n) (suc i) zero is more below = absurd (omega (arith, more))
set-opened (k ∷ known) zero (suc n) (suc i) (suc m) is more below =
    ap (λ (l : List (Option ℕ)). None ∷ l) (set-opened known zero n i m (omega (arith, is))
    (omega (arith, more)) (omega (arith, below)))
set-opened (k ∷ known) (suc a) n zero m is more below = absurd (omega (arith, is))
set-opened (k ∷ known) (suc a) n (suc i) m is more below =
    ap (λ (l : List (Option ℕ)). k ∷ l) (set-opened known a n i m (omega (arith, is)) more
    (omega (arith, below)))

-- one byte more is opened
pub opened-more : (known : List (Option ℕ)) (a i : ℕ) → a ≤ i → i < length known
    → slice_set (opened a (i - a) known) i None ≡ opened a (i + 1 - a) known
opened-more known a i le below = set-opened known a (i - a) i (i + 1 - a) (omega (arith, le))
    (omega (arith, le)) below

-- only the part of a range within the file is opened
pub opened-within : (known : List (Option ℕ)) (at n from m : ℕ) → from ≡ min at (length known)
    → m ≡ min n (length known - from) → opened from m known ≡ opened at n known
opened-within [] at n from m is_from is_m = refl
opened-within (k ∷ known) zero zero zero zero is_from is_m = refl
opened-within (k ∷ known) zero zero zero (suc m) is_from is_m = absurd (omega (arith, is_m))
opened-within (k ∷ known) zero n (suc from) m is_from is_m = absurd (omega (arith, is_from))
opened-within (k ∷ known) zero (suc n) zero zero is_from is_m = absurd (omega (arith, is_m))
opened-within (k ∷ known) zero (suc n) zero (suc m) is_from is_m =
    ap (λ (l : List (Option ℕ)). None ∷ l) (opened-within known zero n zero m (omega arith)
    (omega (arith, is_m)))
opened-within (k ∷ known) (suc at) n zero m is_from is_m = absurd (omega (arith, is_from))
opened-within (k ∷ known) (suc at) n (suc from) m is_from is_m =
    ap (λ (l : List (Option ℕ)). k ∷ l) (opened-within known at n from m (omega (arith, is_from))
    (omega (arith, is_m)))

-- the open bytes from a place on begin with one that isn't known
open-more : (n c : ℕ) → c < n → open_bytes (n - c) ≡ None ∷ open_bytes (n - (c + 1))
open-more n c less = let e : n - c ≡ suc (n - (c + 1)) = omega (arith, less) in ap open_bytes e

-- one open byte more is filled
pub fill-more : (bytes : List ℕ) (n c : ℕ) (choice : List ℕ) → c < n
    → (bytes ++ next choice ∷ []) ++ filled (open_bytes (n - (c + 1))) (drop 1 choice)
    ≡ bytes ++ filled (open_bytes (n - c)) choice
fill-more bytes n c choice less = append_assoc bytes (next choice ∷ [])
    (filled (open_bytes (n - (c + 1))) (drop 1 choice))
    ∙ ap (λ (l : List (Option ℕ)). bytes ++ filled l choice) (sym (open-more n c less))

-- and its byte of choice is used
pub behind-more : (n c : ℕ) (choice : List ℕ) → c < n
    → behind_filled (open_bytes (n - (c + 1))) (drop 1 choice)
    ≡ behind_filled (open_bytes (n - c)) choice
behind-more n c choice less = ap (λ (l : List (Option ℕ)). behind_filled l choice)
    (sym (open-more n c less))

-- bytes are filled in two parts
pub filled-append : (known more : List (Option ℕ)) (choice : List ℕ)
    → filled (known ++ more) choice ≡ filled known choice
    ++ filled more (behind_filled known choice)
filled-append [] more choice = refl
filled-append (Some b ∷ known) more choice = ap (λ (l : List ℕ). b ∷ l)
    (filled-append known more choice)
filled-append (None ∷ known) more choice = ap (λ (l : List ℕ). next choice ∷ l)
    (filled-append known more (drop 1 choice))

-- and use the choice in turn
pub behind-append : (known more : List (Option ℕ)) (choice : List ℕ)
    → behind_filled (known ++ more) choice ≡ behind_filled more (behind_filled known choice)
behind-append [] more choice = refl
behind-append (Some b ∷ known) more choice = behind-append known more choice
behind-append (None ∷ known) more choice = behind-append known more (drop 1 choice)

-- an outline is missing where its shape is
missing_is : (other : Option Outline) → is_none other ≡ is_missing (option_shape other)
missing_is None = refl
missing_is (Some o) = refl

-- none among outlines is missing among shapes
pub any_is : (others : List (Option Outline))
    → list_any (λ other. is_none other) others ≡ any_missing (map option_shape others)
any_is [] = refl
any_is (other ∷ others) = λ i. missing_is other i || any_is others i
