-- The writes that were read ahead are those that the body asks for.
use Rattle.std.proofs.Common.{sym, subst, List, Result, Vec, Global}
use Rattle.alt_machine.specs.declared.PlacedMember.{PlacedMember}
use Rattle.alt_ops_batch.proofs.Ahead.{asked_ahead}
use Rattle.alt_request.specs.Steps.{Comes}
use Rattle.alt_shape.specs.Refusals.{Answer}
use Rattle.alt_request.specs.TablesStands.{catalog_of}
use Rattle.alt_ops_batch.proofs.write.batch_write_item_ahead.Goals as goal

pub write_asked-requires-clause-asked : goal.write_asked-requires-clause-asked
write_asked-requires-clause-asked g c =
    let (ms, ahead) = c.requires.read in (
      ms,
      subst (λ (r : Result (List PlacedMember) Answer).
          Comes (λ (v : Vec PlacedMember Global). v.items) r c.writes_ahead-asked.result)
          (sym (asked_ahead (catalog_of c.args.tables.now) ms c.args.asked.items ahead))
          c.writes_ahead-asked.ensures.asked,
    )

pub returns-clause-carried : goal.returns-clause-carried
returns-clause-carried g c = λ ms ahead. c.write_asked.ensures.carried ms
    (subst (λ (r : Result (List PlacedMember) Answer).
    Comes (λ (v : Vec PlacedMember Global). v.items) r c.writes_ahead-asked.result)
    (sym (asked_ahead (catalog_of c.args.tables.now) ms c.args.asked.items ahead))
    c.writes_ahead-asked.ensures.asked)

pub returns-clause-moves : goal.returns-clause-moves
returns-clause-moves g c = λ ms ahead. c.write_asked.ensures.moves ms
    (subst (λ (r : Result (List PlacedMember) Answer).
    Comes (λ (v : Vec PlacedMember Global). v.items) r c.writes_ahead-asked.result)
    (sym (asked_ahead (catalog_of c.args.tables.now) ms c.args.asked.items ahead))
    c.writes_ahead-asked.ensures.asked)
