use Rattle.std.proofs.Common.{◌≡◌, ◌++◌, drop}
use Rattle.alt_updeval.specs.Shown.{joined_pieces}
use Rattle.alt_updeval.proofs.made.joined.Given as goal

abbrev pub invariant-loop-piece : goal.invariant-loop-piece
invariant-loop-piece l = l.list ++ joined_pieces (drop l.piece-index l.pieces)
    ≡ joined_pieces l.pieces
