use Rattle.std.proofs.Common.{sym, ◌∙◌}
use Rattle.alt_updeval.proofs.Large.{within_on, within_not}
use Rattle.alt_updeval.proofs.standing.all_within.Goals as goal

pub returns-then-not-elements_within : goal.returns-then-not-elements_within
returns-then-not-elements_within c =
    sym (c.loop-piece.invariant
    ∙ within_not c.args.pieces.now c.loop-piece.piece-index c.piece-item.result c.args.most
    c.loop-piece-test.true c.piece-item.is
    (sym c.elements_within.ensures ∙ c.if-not-elements_within.true))

pub loop-piece-preserved : goal.loop-piece-preserved
loop-piece-preserved c =
    c.loop-piece.invariant
    ∙ within_on c.args.pieces.now c.loop-piece.piece-index c.piece-item.result c.args.most
    c.loop-piece-test.true c.piece-item.is
    (sym c.elements_within.ensures ∙ c.if-not-elements_within.false)
