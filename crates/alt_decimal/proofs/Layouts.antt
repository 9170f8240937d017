-- The text of a number's digits, by where the point stands, piece by piece.
use Rattle.std.proofs.Common.{◌≡◌, ℕ, ◌+◌, ◌-◌, ◌<◌, ◌≤◌, List, ◌∷◌, ◌++◌, length, take, drop, refl, ap, ◌∙◌, arith, replicate, length-append, append_assoc, length-take, length-drop}
use Rattle.std.proofs.lemmas.List.{length-replicate}
use Rattle.std.proofs.lemmas.Bool.{lt-ltb, le-ltb, le-leb, lt-leb}
use Rattle.alt_decimal.specs.Layout.{magnitude_text}

-- no digit stands behind the point
pub text_whole : (ds : List ℕ) (z : ℕ) → 167 ≤ z
    → magnitude_text ds z ≡ ds ++ replicate (z - 167) 48
unfolding magnitude_text
text_whole ds z h = rw (le-leb 167 z h) refl

-- the point stands among the digits
pub text_split : (ds : List ℕ) (z : ℕ) → z < 167 → 167 < length ds + z
    → magnitude_text ds z ≡ take (length ds + z - 167) ds ++ (46 ∷ drop (length ds + z - 167) ds)
unfolding magnitude_text
text_split ds z h k = rw (lt-leb 167 z h, lt-ltb 167 (length ds + z) k) refl

-- the point stands before the digits
pub text_fraction : (ds : List ℕ) (z : ℕ) → z < 167 → length ds + z ≤ 167
    → magnitude_text ds z ≡ 48 ∷ 46 ∷ (replicate (167 - (length ds + z)) 48 ++ ds)
unfolding magnitude_text
text_fraction ds z h k = rw (lt-leb 167 z h, le-ltb 167 (length ds + z) k) refl

-- what two calls wrote, one after the other
pub put_two : (r s front xs ys : List ℕ) → s ≡ r ++ ys → r ≡ front ++ xs → s ≡ front ++ (xs ++ ys)
put_two r s front xs ys e1 e2 = e1 ∙ ap (λ ts. ts ++ ys) e2 ∙ append_assoc front xs ys

-- three pieces, one behind another
pub put_three : (q r s front xs ys zs : List ℕ) → s ≡ r ++ zs → r ≡ q ++ ys → q ≡ front ++ xs
    → s ≡ front ++ (xs ++ (ys ++ zs))
put_three q r s front xs ys zs e1 e2 e3 = put_two r s (front ++ xs) ys zs e1
    (e2 ∙ ap (λ ts. ts ++ ys) e3) ∙ append_assoc front xs (ys ++ zs)

-- how long the text is: of a whole number
pub length-text_whole : (ds : List ℕ) (z : ℕ) → 167 ≤ z
    → length (magnitude_text ds z) ≡ length ds + (z - 167)
length-text_whole ds z h = ap length (text_whole ds z h) ∙ length-append ds (replicate (z - 167) 48)
    ∙ omega (arith, length-replicate {A = ℕ} (z - 167) 48)

-- of one with digits on both sides of the point
pub length-text_split : (ds : List ℕ) (z : ℕ) → z < 167 → 167 < length ds + z
    → length (magnitude_text ds z) ≡ length ds + 1
length-text_split ds z h k =
    let n = length ds + z - 167 in
    ap length (text_split ds z h k) ∙ length-append (take n ds) (46 ∷ drop n ds)
    ∙ omega (arith, length-take n ds, length-drop n ds)

-- of one below 1
pub length-text_fraction : (ds : List ℕ) (z : ℕ) → z < 167 → length ds + z ≤ 167
    → length (magnitude_text ds z) ≡ 169 - z
length-text_fraction ds z h k =
    let n = 167 - (length ds + z) in
    ap length (text_fraction ds z h k) ∙ omega
    (arith, length-append (replicate n 48) ds, length-replicate {A = ℕ} n 48)
