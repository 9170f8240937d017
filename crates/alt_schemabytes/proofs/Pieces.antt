-- Bytes put one piece behind another.
use Rattle.std.proofs.Common.{◌≡◌, ℕ, suc, ◌+◌, ◌<◌, List, ◌∷◌, ◌++◌, length, drop, get_or, add-one, ap, sym, ◌∙◌, append_assoc}
use Rattle.std.proofs.Math.Seq.{drop-cons}
use Rattle.alt_schemabytes.specs.Format.{each}

module _ {A : Type 0} where
  -- two pieces behind a list
  pub two_pieces : (out one two a b : List A) → one ≡ out ++ a → two ≡ one ++ b → two ≡ out
      ++ (a ++ b)
  two_pieces out one two a b p q = q ∙ ap (λ xs. xs ++ b) p ∙ append_assoc out a b

  -- four pieces
  pub four_pieces : (out one two three four a b c d : List A) → one ≡ out ++ a → two ≡ one ++ b
      → three ≡ two ++ c → four ≡ three ++ d
      → four ≡ out ++ (a ++ (b ++ (c ++ d)))
  four_pieces out one two three four a b c d p q r s =
      two_pieces out one four a (b ++ (c ++ d)) p
      (two_pieces one two four b (c ++ d) q (two_pieces two three four c d r s))

  -- six pieces
  pub six_pieces : (out one two three four five six a b c d e f : List A) → one ≡ out ++ a → two
      ≡ one ++ b → three ≡ two ++ c
      → four ≡ three ++ d → five ≡ four ++ e → six ≡ five ++ f → six ≡ out
      ++ (a ++ (b ++ (c ++ (d ++ (e ++ f)))))
  six_pieces out one two three four five six a b c d e f p q r s t u =
      two_pieces out one six a (b ++ (c ++ (d ++ (e ++ f)))) p
      (two_pieces one two six b (c ++ (d ++ (e ++ f))) q
      (four_pieces two three four five six c d e f r s t u))

-- one piece more of a list's bytes
pub one_more : {X : Type 0} (bytes : X → List ℕ) (xs : List X) (i : ℕ) (x : X)
    (out new all : List ℕ) → i < length xs → x ≡ get_or xs i x
    → new ≡ out ++ bytes x → out ++ each bytes (drop i xs) ≡ all → new
    ++ each bytes (drop (i + 1) xs) ≡ all
one_more bytes xs i x out new all within at put so_far =
    let front : drop i xs ≡ x ∷ drop (suc i) xs = drop-cons xs i x within
    ∙ ap (λ y. y ∷ drop (suc i) xs) (sym at) in
    ap (λ ys. ys ++ each bytes (drop (i + 1) xs)) put
    ∙ append_assoc out (bytes x) (each bytes (drop (i + 1) xs))
    ∙ ap (λ n. out ++ (bytes x ++ each bytes (drop n xs))) (add-one i)
    ∙ ap (λ ys. out ++ each bytes ys) (sym front) ∙ so_far
