use Rattle.std.proofs.Common.{◌≡◌, ◌++◌, take}
use Rattle.alt_http.specs.Pieces.{pieces_text}
use Rattle.alt_http.proofs.replying.put_all.Given as goal

abbrev pub invariant-loop-piece : goal.invariant-loop-piece
invariant-loop-piece l = record {
  so_far : l.out.items ≡ l.fn.out.items ++ pieces_text (take l.piece-index l.pieces);
}
