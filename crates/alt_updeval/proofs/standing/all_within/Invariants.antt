-- The lists so far are no deeper, so that the rest decides.
use Rattle.std.proofs.Common.{◌≡◌, nat_le, drop}
use Rattle.alt_value.specs.Size.{depth}
use Rattle.alt_value.specs.Tree.{L_tree, trees_of}
use Rattle.alt_updeval.specs.Shown.{joined_pieces}
use Rattle.alt_updeval.proofs.standing.all_within.Given as goal

abbrev pub invariant-loop-piece : goal.invariant-loop-piece
invariant-loop-piece l = nat_le (depth (L_tree (trees_of (joined_pieces l.pieces)))) l.most
    ≡ nat_le (depth (L_tree (trees_of (joined_pieces (drop l.piece-index l.pieces))))) l.most
