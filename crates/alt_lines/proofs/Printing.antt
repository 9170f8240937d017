-- What is printed so far, and the lines by their kinds.
use Rattle.std.proofs.Common.{◌≡◌, ◌<◌, ◌≤◌, ◌+◌, add-one, ℕ, List, [], ◌∷◌, ◌++◌, take, length, get_or, sym, ap, ◌∙◌, append_assoc, append-nil, arith}
use Rattle.std.proofs.Math.Seq.{take-suc}
use Rattle.std.proofs.lemmas.Bool.Decides.{nat_tests}
use Rattle.alt_lines.specs.declared.pieces.Piece.{Piece}
use Rattle.alt_lines.specs.TrialTexts.{Draws, line_of_kind, put_item_line, update_item_line, query_index_line}
use Rattle.alt_lines.specs.Printed.{line_piece_text, line_pieces_text}

-- one more piece
pub printed-append : (pieces : List Piece) (piece : Piece)
    → line_pieces_text (pieces ++ piece ∷ []) ≡ line_pieces_text pieces ++ line_piece_text piece
printed-append [] piece = append-nil (line_piece_text piece)
printed-append (first ∷ pieces) piece =
    ap (λ (l : List ℕ). line_piece_text first ++ l) (printed-append pieces piece)
    ∙ sym (append_assoc (line_piece_text first) (line_pieces_text pieces) (line_piece_text piece))

-- one more of the pieces of a list
pub printed-take : (pieces : List Piece) (k : ℕ) (piece : Piece) → k < length pieces
    → get_or pieces k piece ≡ piece
    → line_pieces_text (take (k + 1) pieces) ≡ line_pieces_text (take k pieces) ++ line_piece_text piece
printed-take pieces k piece below is =
    ap (λ (n : ℕ). line_pieces_text (take n pieces)) (add-one k)
    ∙ ap line_pieces_text (take-suc pieces k piece below
    ∙ ap (λ (p : Piece). take k pieces ++ p ∷ []) is)
    ∙ printed-append (take k pieces) piece

-- the kinds one by one
pub line_of_put : (kind : ℕ) (d : Draws) → kind ≤ 3 → line_of_kind kind d ≡ put_item_line d
unfolding line_of_kind
line_of_put kind d few = grind (arith, nat_tests)

-- an update
pub line_of_update : (kind : ℕ) (d : Draws) → 4 < kind → kind ≤ 6
    → line_of_kind kind d ≡ update_item_line d
unfolding line_of_kind
line_of_update kind d low high = grind (arith, nat_tests)

-- a query of the index
pub line_of_index : (kind : ℕ) (d : Draws) → 8 < kind → line_of_kind kind d ≡ query_index_line d
unfolding line_of_kind
line_of_index kind d low = grind (arith, nat_tests)
