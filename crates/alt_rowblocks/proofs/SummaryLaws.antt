-- The summary of rows in two parts.
use Rattle.std.proofs.Common.{◌≡◌, ◌∙◌, ◌++◌, ◌||◌, ℕ, Bool, true, false, List, [], ◌∷◌, Some, max, refl, sym, ap, arith}
use Rattle.std.proofs.lemmas.List.{append-nil}
use Rattle.std.specs.List.{fold}
use Rattle.alt_rowblocks.specs.Format.{Entry}
use Rattle.alt_rowblocks.specs.Summaries.{any_tombstone, has_tombstone, joined_summary, last_key, joined_last_key, latest_of, row_latest, summary_of}

-- a greatest number that begins with one is that number or the greatest of the others
latest_from : (n : ℕ) (rows : List Entry)
    → fold (λ (m : ℕ) (e : Entry). max m (row_latest e.1)) n rows ≡ max n (latest_of rows)
latest_from n [] = omega arith
latest_from n (e ∷ rows) =
    latest_from (max n (row_latest e.1)) rows
    ∙ omega (arith, latest_from (max 0 (row_latest e.1)) rows)

latest-append : (xs ys : List Entry) → latest_of (xs ++ ys) ≡ max (latest_of xs) (latest_of ys)
latest-append xs ys = by 0 xs
  where
    by : (n : ℕ) (xs : List Entry)
        → fold (λ (m : ℕ) (e : Entry). max m (row_latest e.1)) n (xs ++ ys)
        ≡ max (fold (λ (m : ℕ) (e : Entry). max m (row_latest e.1)) n xs) (latest_of ys)
    by n [] = latest_from n ys
    by n (e ∷ xs) = by (max n (row_latest e.1)) xs

any-append : (xs ys : List Entry)
    → any_tombstone (xs ++ ys) ≡ (any_tombstone xs || any_tombstone ys)
any-append [] ys = refl
any-append (e ∷ xs) ys = by (has_tombstone e.1) (any-append xs ys)
  where
    by : (b : Bool) → any_tombstone (xs ++ ys) ≡ (any_tombstone xs || any_tombstone ys)
        → (b || any_tombstone (xs ++ ys)) ≡ ((b || any_tombstone xs) || any_tombstone ys)
    by true rest = refl
    by false rest = rest

-- the last key of rows in two parts is that of the second, if it has one
last-append : (xs ys : List Entry) → last_key (xs ++ ys) ≡ joined_last_key (last_key xs) (last_key ys)
last-append xs [] = ap last_key (append-nil xs)
last-append xs (y ∷ ys) = behind xs ∙ there (last_of y ys)
  where
    behind : (xs : List Entry) → last_key (xs ++ y ∷ ys) ≡ last_key (y ∷ ys)
    behind [] = refl
    behind (x ∷ []) = refl
    behind (x ∷ z ∷ xs) = behind (z ∷ xs)

    last_of : (y : Entry) (ys : List Entry) → (l : List ℕ) × (last_key (y ∷ ys) ≡ Some l)
    last_of y [] = (y.0, refl)
    last_of y (z ∷ ys) = last_of z ys

    there : (l : List ℕ) × (last_key (y ∷ ys) ≡ Some l)
        → last_key (y ∷ ys) ≡ joined_last_key (last_key xs) (last_key (y ∷ ys))
    there l = l.1 ∙ ap (joined_last_key (last_key xs)) (sym l.1)

-- it joins those of both
pub summary-append : (xs ys : List Entry)
    → summary_of (xs ++ ys) ≡ joined_summary (summary_of xs) (summary_of ys)
summary-append xs ys = λ i. record {
  latest = latest-append xs ys i;
  tombstone = any-append xs ys i;
  last = last-append xs ys i;
}
