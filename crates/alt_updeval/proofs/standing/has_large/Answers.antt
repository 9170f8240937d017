use Rattle.alt_updeval.proofs.Large.{large_at}
use Rattle.alt_updeval.proofs.standing.has_large.Goals as goal

pub returns-then-is_large_list : goal.returns-then-is_large_list
returns-then-is_large_list c u =
    large_at c.args.pieces.now c.loop-piece.piece-index c.piece-item.result c.loop-piece-test.true
    c.piece-item.is (c.is_large_list.ensures c.if-is_large_list.true)
