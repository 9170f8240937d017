use Rattle.std.proofs.Common.{refl, ap}
use Rattle.alt_value.specs.Stands.{tree_of}
use Rattle.alt_updeval.proofs.Pieces.{one_pushed}
use Rattle.alt_updeval.proofs.term.one_piece.Goals as goal

pub returns-in_ok-push-in-L : goal.returns-in_ok-push-in-L
returns-in_ok-push-in-L c =
    one_pushed (tree_of c.args.value.now) c.in-L.field-0 c.new-pieces.result.items
    c.push.new.self.items _ (ap tree_of c.in-L.is)
    c.in_ok-push-in-L.ensures.items c.new-pieces.ensures.items refl
