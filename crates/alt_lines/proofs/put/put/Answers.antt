use Rattle.std.proofs.Common.{◌≡◌, ◌++◌, ℕ, List, take, [], get_or, true, Result, Ok, Err, OnOk, is_ok, ap, sym, ◌∙◌, append_assoc}
use Rattle.std.proofs.lemmas.List.{get_or_default}
use Rattle.alt_lines.specs.declared.pieces.Piece.TheVariants.{Text}
use Rattle.alt_lines.specs.Printed.{line_piece_text, line_pieces_text}
use Rattle.alt_lines.proofs.Printing.{printed-take}
use Rattle.alt_lines.proofs.put.put.Goals as goal

-- what a call ensures where it succeeded
was_ok : {T E : Type 0} (r : Result T E) (P : Type 0) → OnOk r P → is_ok r ≡ true → P
was_ok (Ok x) P holds ok = holds
was_ok (Err e) P holds ok = cc

pub loop-piece-preserved : goal.loop-piece-preserved
loop-piece-preserved c =
    let out = c.args.out.now.items in
    let pieces = c.args.pieces.now in
    let k = c.loop-piece.piece-index in
    let piece = get_or pieces k (Text record { ref_ptr = (0, 0); now = [] }) in
    let added : c.put_piece.new.out.items ≡ c.loop-piece.out.items ++ line_piece_text piece =
    was_ok c.put_piece.result _ c.put_piece.ensures.ok c.if-is_err.ensures.negation in
    record {
      so_far = added ∙ ap (λ (l : List ℕ). l ++ line_piece_text piece) c.loop-piece.invariant.so_far
          ∙ append_assoc out (line_pieces_text (take k pieces)) (line_piece_text piece)
          ∙ ap (λ (l : List ℕ). out ++ l)
          (sym (printed-take pieces k piece c.loop-piece-test.true
          (get_or_default pieces k piece (Text record { ref_ptr = (0, 0); now = [] })
          c.loop-piece-test.true)));
    }
