use Rattle.alt_updeval.proofs.Large.{nest_for}
use Rattle.alt_updeval.proofs.standing.stand_in.Goals as goal

pub returns-in_ok-nest-in-Some : goal.returns-in_ok-nest-in-Some
returns-in_ok-nest-in-Some c =
    nest_for c.in-Some.levels _ _ c.in_ok-nest-in-Some.ensures c.in-Some.ensures.0
    c.in-Some.ensures.1 (c.has_room.ensures c.if-has_room.false)
