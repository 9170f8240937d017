use Rattle.std.proofs.Common.{◌≡◌, ◌++◌, [], ℕ, List, take, get_or, ap, sym, ◌∙◌, append_assoc}
use Rattle.std.proofs.lemmas.List.{get_or_default}
use Rattle.alt_http.specs.Pieces.{piece_text, pieces_text}
use Rattle.alt_http.specs.declared.replying.Piece.{Piece}
use Rattle.alt_http.specs.declared.replying.Piece.TheVariants.{Text}
use Rattle.alt_http.proofs.Printing.{printed-take, was_ok}
use Rattle.alt_http.proofs.replying.put_all.Goals as goal

pub loop-piece-preserved : goal.loop-piece-preserved
loop-piece-preserved c =
    let out = c.args.out.now.items in
    let pieces = c.args.pieces.now in
    let k = c.loop-piece.piece-index in
    let none : Piece = Text record { ref_ptr = (0, 0); now = [] } in
    let piece = get_or pieces k none in
    let added : c.put_piece.new.out.items ≡ c.loop-piece.out.items ++ piece_text piece =
    was_ok c.put_piece.result _ c.put_piece.ensures.ok c.if-is_err.ensures.negation in
    record {
      so_far = added ∙ ap (λ (l : List ℕ). l ++ piece_text piece) c.loop-piece.invariant.so_far
          ∙ append_assoc out (pieces_text (take k pieces)) (piece_text piece)
          ∙ ap (λ (l : List ℕ). out ++ l) (sym
          (printed-take pieces k piece c.loop-piece-test.true
          (get_or_default pieces k piece none c.loop-piece-test.true)));
    }
