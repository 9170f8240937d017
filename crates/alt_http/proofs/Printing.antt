-- What is printed so far.
use Rattle.std.proofs.Common.{◌≡◌, ◌<◌, ◌+◌, add-one, ℕ, List, [], ◌∷◌, ◌++◌, take, length, get_or, true, Result, Ok, Err, OnOk, is_ok, sym, ap, ◌∙◌, append_assoc, append-nil}
use Rattle.std.proofs.Math.Seq.{take-suc}
use Rattle.alt_http.specs.declared.replying.Piece.{Piece}
use Rattle.alt_http.specs.Pieces.{piece_text, pieces_text}

-- one more piece
pub printed-append : (pieces : List Piece) (piece : Piece)
    → pieces_text (pieces ++ piece ∷ []) ≡ pieces_text pieces ++ piece_text piece
printed-append [] piece = append-nil (piece_text piece)
printed-append (first ∷ pieces) piece =
    ap (λ (l : List ℕ). piece_text first ++ l) (printed-append pieces piece)
    ∙ sym (append_assoc (piece_text first) (pieces_text pieces) (piece_text piece))

-- one more of the pieces of a list
pub printed-take : (pieces : List Piece) (k : ℕ) (piece : Piece) → k < length pieces
    → get_or pieces k piece ≡ piece
    → pieces_text (take (k + 1) pieces) ≡ pieces_text (take k pieces) ++ piece_text piece
printed-take pieces k piece below is =
    ap (λ (n : ℕ). pieces_text (take n pieces)) (add-one k)
    ∙ ap pieces_text (take-suc pieces k piece below
    ∙ ap (λ (p : Piece). take k pieces ++ p ∷ []) is)
    ∙ printed-append (take k pieces) piece

-- what a call ensures where it succeeded
pub was_ok : {T E : Type 0} (r : Result T E) (P : Type 0) → OnOk r P → is_ok r ≡ true → P
was_ok (Ok x) P holds ok = holds
was_ok (Err e) P holds ok = cc
