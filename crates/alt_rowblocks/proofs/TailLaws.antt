-- The tail of a file, piece by piece.
use Rattle.std.proofs.Common.{◌≡◌, ℕ, List, [], ◌++◌, length, ap, ◌∙◌, append_assoc}
use Rattle.std.specs.List.{flat_map}
use Rattle.std.specs.Int.{w64, to_be_bytes}
use Rattle.alt_rowblocks.specs.Format.{Mark, mark_bytes, tail_bytes}

-- the tail put down in four pieces
pub four_put : (marks : List Mark) (rows at : ℕ) (zero one two three four : List ℕ) → zero ≡ []
    → one ≡ zero ++ to_be_bytes w64 (length marks) → two ≡ one ++ flat_map mark_bytes marks
    → three ≡ two ++ to_be_bytes w64 rows → four ≡ three ++ to_be_bytes w64 at
    → four ≡ tail_bytes marks rows at
unfolding tail_bytes
four_put marks rows at zero one two three four none p q r s =
    let first : one ≡ to_be_bytes w64 (length marks) = p
    ∙ ap (λ (l : List ℕ). l ++ to_be_bytes w64 (length marks)) none in
    s ∙ ap (λ (l : List ℕ). l ++ to_be_bytes w64 at) (r
    ∙ ap (λ (l : List ℕ). l ++ to_be_bytes w64 rows) (q
    ∙ ap (λ (l : List ℕ). l ++ flat_map mark_bytes marks) first))
    ∙ append_assoc (to_be_bytes w64 (length marks) ++ flat_map mark_bytes marks)
    (to_be_bytes w64 rows) (to_be_bytes w64 at)
