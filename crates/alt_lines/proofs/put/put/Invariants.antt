use Rattle.std.proofs.Common.{◌≡◌, ◌++◌, take}
use Rattle.alt_lines.specs.Printed.{line_pieces_text}
use Rattle.alt_lines.proofs.put.put.Given as goal

abbrev pub invariant-loop-piece : goal.invariant-loop-piece
invariant-loop-piece l = record {
  so_far : l.out.items ≡ l.fn.out.items ++ line_pieces_text (take l.piece-index l.pieces);
}
