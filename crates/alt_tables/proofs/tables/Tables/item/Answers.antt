-- What was found at the place of the key.
use Rattle.std.proofs.Common.{ap, ◌∙◌}
use Rattle.std.specs.FinMap as map
use Rattle.alt_machine.specs.Keys.{place_of}
use Rattle.alt_tables.proofs.Standing.{known, one_place}
use Rattle.alt_tables.proofs.tables.Tables.item.Goals as goal

pub returns-in-Ok-find-clause-item : goal.returns-in-Ok-find-clause-item
returns-in-Ok-find-clause-item g c s t place stands at here =
    let described = known (g.D.Disk.state c.args.disk.now) c.args.self.now s c.args.table.now t
    stands at in
    c.in-Ok-find.ensures.item s stands t at
    ∙ ap (map.get t.items) (c.in-Ok-find.ensures.place
    ∙ one_place (place_of t.description c.args.key.now) c.in-Ok.place place
    (c.in-Ok.ensures.place t.description described) here)
