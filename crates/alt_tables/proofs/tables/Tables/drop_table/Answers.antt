-- The table is taken out by one write.
use Rattle.std.proofs.Common.{[], ◌∷◌, refl, sym, ap, ◌∙◌, arith}
use Rattle.alt_disk.proofs.Runs.{quiet_start}
use Rattle.alt_machine.proofs.Lacks.{has_number, lacks_number}
use Rattle.alt_machine.specs.Ops.DeleteTable.{without_table}
use Rattle.alt_machine.specs.Outcomes.{a_number}
use Rattle.alt_machine.specs.State.{Texts}
use Rattle.alt_machine.specs.Wanted.{number_lack}
use Rattle.alt_schema.specs.declared.schema.TableSchema.{TableSchema}
use Rattle.std.specs.FinMap as map
use Rattle.alt_rowchanges.specs.OpeningTrimmed.{without_table_number}
use Rattle.alt_rowchanges.specs.Fronts.{without_front}
use Rattle.alt_tables.specs.Stands.{Stands, bounds_of}
use Rattle.alt_tables.proofs.Holding.{leaves_quiet}
use Rattle.alt_tables.proofs.Making.{broke, spent, spent_file}
use Rattle.alt_tables.proofs.TableMaking.{drop_stands, drop_turned, one_made}
use Rattle.alt_tables.proofs.tables.Tables.drop_table.Goals as goal

pub returns-then-number-ge-NUMBERS_END-clause-disk :
    goal.returns-then-number-ge-NUMBERS_END-clause-disk
returns-then-number-ge-NUMBERS_END-clause-disk g c s stands =
    leaves_quiet (g.D.Disk.state c.args.disk.now) (g.D.Disk.state c.args.disk.now)
    c.args.self.now.engine s (without_table s c.args.name.now ∷ []) stands.rows stands.valid
    (quiet_start (g.D.Disk.state c.args.disk.now))

pub returns-then-number-ge-NUMBERS_END-clause-writes :
    goal.returns-then-number-ge-NUMBERS_END-clause-writes
returns-then-number-ge-NUMBERS_END-clause-writes g c s stands =
    spent (Stands (g.D.Disk.state c.args.disk.now) c.args.self.now) a_number s
    (without_table s c.args.name.now) c.next_number-number.result
    (ap number_lack (sym (c.next_number-number.ensures.next ∙ stands.number))
    ∙ lacks_number c.next_number-number.result
    (omega (arith, c.if-number-ge-NUMBERS_END.true))) stands

pub returns-in-Some-clause-writes : goal.returns-in-Some-clause-writes
returns-in-Some-clause-writes g c s stands =
    spent_file (Stands (g.D.Disk.state c.args.disk.now) c.args.self.now) a_number s
    (without_table s c.args.name.now) c.in-Some.number (has_number s.next_number (omega (
      arith,
      stands.number,
      c.next_number-number.ensures.next,
      c.if-number-ge-NUMBERS_END.false,
    )))
    c.in-Some.ensures.last stands

pub returns-in-Some-clause-disk : goal.returns-in-Some-clause-disk
returns-in-Some-clause-disk g c s stands =
    leaves_quiet (g.D.Disk.state c.args.disk.now) (g.D.Disk.state c.args.disk.now)
    c.args.self.now.engine s (without_table s c.args.name.now ∷ []) stands.rows stands.valid
    (quiet_start (g.D.Disk.state c.args.disk.now))

pub returns-in_err-batch-clause-disk : goal.returns-in_err-batch-clause-disk
returns-in_err-batch-clause-disk g c s stands =
    leaves_quiet (g.D.Disk.state c.args.disk.now) (g.D.Disk.state c.args.disk.now)
    c.args.self.now.engine s (without_table s c.args.name.now ∷ []) stands.rows stands.valid
    (quiet_start (g.D.Disk.state c.args.disk.now))

pub make-requires-clause-file : goal.make-requires-clause-file
make-requires-clause-file g c = c.in_default.ensures.none refl

pub make-requires-clause-ready : goal.make-requires-clause-ready
make-requires-clause-ready g c trusted =
    let (s, stands) = c.requires.ready trusted in (s, stands.rows)

pub returns-in-Ok-clause-writes : goal.returns-in-Ok-clause-writes
returns-in-Ok-clause-writes g c s stands =
    let turned = drop_turned (g.D.Disk.state c.args.disk.now) c.args.self.now s stands
    c.args.name.now c.in-Some-get.schema.now c.in_ok-batch.batch (sym c.in-Some-get.ensures.table)
    c.in_ok-batch.ensures.changes
    (omega (arith, c.next_number-number.ensures.next, c.if-number-ge-NUMBERS_END.false)) in
    one_made (Stands (g.D.Disk.state c.make.new.disk) _) a_number s
    (without_table s c.args.name.now)
    (drop_stands (g.D.Disk.state c.args.disk.now) c.args.self.now s stands
    c.args.name.now c.in-Some-get.schema.now (g.D.Disk.state c.make.new.disk) _
    (sym c.in-Some-get.ensures.table)
    (c.in-Ok.ensures.ok s (without_table s c.args.name.now) stands.rows turned) turned.valid
    (c.remove.ensures.rest
    ∙ ap (λ (m : Texts TableSchema). map.remove m c.args.name.now) c.make.ensures.kept.0)
    c.in_ok-live.ensures c.make.ensures.kept.2
    (c.forget.ensures ∙ ap (λ known. without_table_number c.args.name.now known.items) c.make.ensures.kept.3)
    (c.forget_front.ensures
    ∙ ap (λ known. without_front c.args.name.now known.items) c.make.ensures.kept.4)
    c.make.ensures.kept.5 c.make.ensures.kept.7 c.make.ensures.kept.6 c.in-Ok.ensures.next c.in_ok-batch.batch c.in_ok-batch.ensures.changes
    c.in-Ok.ensures.distinct
    (c.in-Ok.ensures.rows stands.rows.trusted stands.rows.layout stands.rows.is))
    (has_number s.next_number (omega (arith, stands.number, c.next_number-number.ensures.next, c.if-number-ge-NUMBERS_END.false)))

pub returns-in-Ok-clause-disk : goal.returns-in-Ok-clause-disk
returns-in-Ok-clause-disk g c s stands =
    c.make.ensures.disk s (without_table s c.args.name.now) stands.rows stands.valid
    (drop_turned (g.D.Disk.state c.args.disk.now) c.args.self.now s stands
    c.args.name.now c.in-Some-get.schema.now c.in_ok-batch.batch (sym c.in-Some-get.ensures.table)
    c.in_ok-batch.ensures.changes
    (omega (arith, c.next_number-number.ensures.next, c.if-number-ge-NUMBERS_END.false)))

pub returns-in_err-live-clause-disk : goal.returns-in_err-live-clause-disk
returns-in_err-live-clause-disk g c s stands =
    leaves_quiet (g.D.Disk.state c.args.disk.now) (g.D.Disk.state c.args.disk.now)
    c.args.self.now.engine s (without_table s c.args.name.now ∷ []) stands.rows stands.valid
    (quiet_start (g.D.Disk.state c.args.disk.now))

pub returns-clause-writes : goal.returns-clause-writes
returns-clause-writes g c s stands =
    broke (bounds_of c.args.self.now).file
    (Stands (g.D.Disk.state c.make.new.disk) c.make.new.self) a_number s
    (without_table s c.args.name.now) c.in-Err.fault c.in-Err.ensures.fault

pub returns-clause-disk : goal.returns-clause-disk
returns-clause-disk g c s stands =
    c.make.ensures.disk s (without_table s c.args.name.now) stands.rows stands.valid
    (drop_turned (g.D.Disk.state c.args.disk.now) c.args.self.now s stands
    c.args.name.now c.in-Some-get.schema.now c.in_ok-batch.batch (sym c.in-Some-get.ensures.table)
    c.in_ok-batch.ensures.changes
    (omega (arith, c.next_number-number.ensures.next, c.if-number-ge-NUMBERS_END.false)))
