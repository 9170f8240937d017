-- A number or a family is lacked, or one write adds the table, whose description is known before it.
use Rattle.std.proofs.Common.{◌+◌, refl, [], ◌∷◌, sym, ap, ◌∙◌, subst, arith, ℕ}
use Rattle.alt_disk.proofs.Runs.{quiet_start}
use Rattle.alt_machine.specs.Ops.CreateTable.{with_table}
use Rattle.alt_machine.specs.Outcomes.{a_table}
use Rattle.alt_machine.proofs.Families.{families_differ}
use Rattle.alt_machine.proofs.Lacks.{has_table, lacks_table_family, lacks_table_number}
use Rattle.alt_machine.specs.Wanted.{table_lack}
use Rattle.alt_tables.specs.Faults.{BreakOff}
use Rattle.alt_tables.specs.Stands.{Stands, bounds_of}
use Rattle.alt_rowchanges.specs.declared.faults.TableFault.TheVariants.{Spent}
use Rattle.alt_tables.proofs.Holding.{leaves_quiet}
use Rattle.alt_tables.proofs.Making.{broke, spent, spent_file, want_told}
use Rattle.alt_tables.proofs.TableMaking.{not_lacking, one_made, table_lacked, table_stands, table_turned}
use Rattle.alt_tables.proofs.tables.Tables.create.Goals as goal

pub returns-then-number-ge-NUMBERS_END-clause-disk :
    goal.returns-then-number-ge-NUMBERS_END-clause-disk
returns-then-number-ge-NUMBERS_END-clause-disk g c s stands =
    leaves_quiet (g.D.Disk.state c.args.disk.now)
    (g.D.Disk.state c.args.disk.now) c.args.self.now.engine s
    (with_table s c.args.schema ∷ []) stands.rows stands.valid
    (quiet_start (g.D.Disk.state c.args.disk.now))

pub returns-then-number-ge-NUMBERS_END-clause-writes :
    goal.returns-then-number-ge-NUMBERS_END-clause-writes
returns-then-number-ge-NUMBERS_END-clause-writes g c s stands =
    spent (Stands (g.D.Disk.state c.args.disk.now) c.args.self.now) a_table s
    (with_table s c.args.schema) c.next_number-number.result
    (sym (λ i. table_lack (stands.number i) (stands.family i))
    ∙ ap (λ n. table_lack n c.args.self.now.family) (sym c.next_number-number.ensures.next)
    ∙ lacks_table_number c.next_number-number.result c.args.self.now.family
    (omega (arith, c.if-number-ge-NUMBERS_END.true))) stands

pub returns-then-self-clause-writes : goal.returns-then-self-clause-writes
returns-then-self-clause-writes g c s stands =
    subst (λ (n : ℕ). BreakOff (bounds_of c.args.self.now).file
    (Stands (g.D.Disk.state c.args.disk.now) c.args.self.now) a_table s
    (with_table s c.args.schema ∷ []) (Spent n))
    (sym c.from.ensures)
    (spent (Stands (g.D.Disk.state c.args.disk.now) c.args.self.now) a_table s
    (with_table s c.args.schema) c.args.self.now.family
    (table_lacked (g.D.Disk.state c.args.disk.now) c.args.self.now s stands c.args.schema
    c.requires.few c.requires.made c.requires.new
    c.requires.number c.requires.family c.requires.absent c.args.self.now.family
    (lacks_table_family c.args.self.now.engine.hand.next c.args.self.now.family
    (omega (arith, c.next_number-number.ensures.next, c.if-number-ge-NUMBERS_END.false))
    (omega arith)))
    stands)

pub returns-then-self-clause-disk : goal.returns-then-self-clause-disk
returns-then-self-clause-disk g c s stands =
    leaves_quiet (g.D.Disk.state c.args.disk.now)
    (g.D.Disk.state c.args.disk.now) c.args.self.now.engine s
    (with_table s c.args.schema ∷ []) stands.rows stands.valid
    (quiet_start (g.D.Disk.state c.args.disk.now))

pub returns-in-Some-clause-writes : goal.returns-in-Some-clause-writes
returns-in-Some-clause-writes g c s stands =
    spent_file (Stands (g.D.Disk.state c.args.disk.now) c.args.self.now) a_table s
    (with_table s c.args.schema) c.in-Some.number
    (sym (λ i. table_lack (stands.number i) (stands.family i))
    ∙ has_table c.args.self.now.engine.hand.next c.args.self.now.family
    (omega (arith, c.next_number-number.ensures.next, c.if-number-ge-NUMBERS_END.false))
    (omega (arith, c.if-self.false)))
    c.in-Some.ensures.last stands

pub returns-in-Some-clause-disk : goal.returns-in-Some-clause-disk
returns-in-Some-clause-disk g c s stands =
    leaves_quiet (g.D.Disk.state c.args.disk.now)
    (g.D.Disk.state c.args.disk.now) c.args.self.now.engine s
    (with_table s c.args.schema ∷ []) stands.rows stands.valid
    (quiet_start (g.D.Disk.state c.args.disk.now))

pub returns-in_err-batch-clause-writes : goal.returns-in_err-batch-clause-writes
returns-in_err-batch-clause-writes g c s stands =
    want_told (bounds_of c.args.self.now).file
    (Stands (g.D.Disk.state c.args.disk.now) c.args.self.now) a_table s
    (with_table s c.args.schema ∷ [])
    c.from_residual.result c.from_residual.ensures.1

pub returns-in_err-batch-clause-disk : goal.returns-in_err-batch-clause-disk
returns-in_err-batch-clause-disk g c s stands =
    leaves_quiet (g.D.Disk.state c.args.disk.now)
    (g.D.Disk.state c.args.disk.now) c.args.self.now.engine s
    (with_table s c.args.schema ∷ []) stands.rows stands.valid
    (quiet_start (g.D.Disk.state c.args.disk.now))

pub returns-in_err-live-clause-writes : goal.returns-in_err-live-clause-writes
returns-in_err-live-clause-writes g c s stands =
    want_told (bounds_of c.args.self.now).file
    (Stands (g.D.Disk.state c.args.disk.now) c.args.self.now) a_table s
    (with_table s c.args.schema ∷ [])
    c.from_residual-in_err-live.result c.from_residual-in_err-live.ensures.1

pub returns-in_err-live-clause-disk : goal.returns-in_err-live-clause-disk
returns-in_err-live-clause-disk g c s stands =
    leaves_quiet (g.D.Disk.state c.args.disk.now)
    (g.D.Disk.state c.args.disk.now) c.args.self.now.engine s
    (with_table s c.args.schema ∷ []) stands.rows stands.valid
    (quiet_start (g.D.Disk.state c.args.disk.now))

pub add-requires-clause-families : goal.add-requires-clause-families
add-requires-clause-families g c = families_differ c.args.schema c.requires.new

pub returns-in_err-add-clause-writes : goal.returns-in_err-add-clause-writes
returns-in_err-add-clause-writes g c s stands =
    want_told (bounds_of c.args.self.now).file (Stands (g.D.Disk.state c.args.disk.now) _) a_table s
    (with_table s c.args.schema ∷ [])
    c.from_residual-in_err-add.result c.from_residual-in_err-add.ensures.1

pub returns-in_err-add-clause-disk : goal.returns-in_err-add-clause-disk
returns-in_err-add-clause-disk g c s stands =
    leaves_quiet (g.D.Disk.state c.args.disk.now)
    (g.D.Disk.state c.args.disk.now) c.args.self.now.engine s
    (with_table s c.args.schema ∷ []) stands.rows stands.valid
    (quiet_start (g.D.Disk.state c.args.disk.now))

pub make-requires-clause-file : goal.make-requires-clause-file
make-requires-clause-file g c = c.in_default.ensures.none refl

pub make-requires-clause-ready : goal.make-requires-clause-ready
make-requires-clause-ready g c trusted =
    let (s, stands) = c.requires.ready trusted in (s, stands.rows)

pub returns-in-Ok-clause-writes : goal.returns-in-Ok-clause-writes
returns-in-Ok-clause-writes g c s stands =
    let turned = table_turned (g.D.Disk.state c.args.disk.now) c.args.self.now s stands
    c.args.schema c.requires.few c.requires.made c.requires.new
    c.requires.number c.requires.family c.requires.absent
    (c.args.self.now.family + c.family_count.result)
    c.in_ok-batch.batch (ap (λ n. c.args.self.now.family + n) c.family_count.ensures.count)
    c.in_ok-batch.ensures.changes c.held.ensures.held
    (omega (arith, c.next_number-number.ensures.next, c.if-number-ge-NUMBERS_END.false))
    (omega (arith, c.if-self.false)) in
    one_made (Stands (g.D.Disk.state c.make.new.disk) _) a_table s (with_table s c.args.schema)
    (table_stands (g.D.Disk.state c.args.disk.now) c.args.self.now s stands
    c.args.schema c.requires.few c.requires.made c.requires.new
    c.requires.number c.requires.family c.requires.absent
    (g.D.Disk.state c.make.new.disk) _
    (c.in-Ok.ensures.ok s (with_table s c.args.schema) stands.rows turned)
    turned.valid (c.make.ensures.kept.0 ∙ c.in_ok-add.ensures.ok) c.in_ok-live.ensures
    (ap (λ n. c.args.self.now.family + n) c.family_count.ensures.count) c.make.ensures.kept.3
    c.make.ensures.kept.4 c.make.ensures.kept.5 c.make.ensures.kept.7 c.make.ensures.kept.6 c.in-Ok.ensures.next (c.args.self.now.family + c.family_count.result)
    c.in_ok-batch.batch c.in_ok-batch.ensures.changes c.in-Ok.ensures.distinct
    (c.in-Ok.ensures.rows stands.rows.trusted stands.rows.layout stands.rows.is))
    (sym (λ i. table_lack (stands.number i) (stands.family i))
    ∙ has_table c.args.self.now.engine.hand.next
    c.args.self.now.family
    (omega (arith, c.next_number-number.ensures.next, c.if-number-ge-NUMBERS_END.false))
    (omega arith))

pub returns-in-Ok-clause-disk : goal.returns-in-Ok-clause-disk
returns-in-Ok-clause-disk g c s stands =
    c.make.ensures.disk s (with_table s c.args.schema) stands.rows stands.valid
    (table_turned (g.D.Disk.state c.args.disk.now) c.args.self.now s stands
    c.args.schema c.requires.few c.requires.made c.requires.new
    c.requires.number c.requires.family c.requires.absent
    (c.args.self.now.family + c.family_count.result)
    c.in_ok-batch.batch (ap (λ n. c.args.self.now.family + n) c.family_count.ensures.count)
    c.in_ok-batch.ensures.changes c.held.ensures.held
    (omega (arith, c.next_number-number.ensures.next, c.if-number-ge-NUMBERS_END.false))
    (omega (arith, c.if-self.false)))

pub returns-clause-writes : goal.returns-clause-writes
returns-clause-writes g c s stands =
    broke (bounds_of c.args.self.now).file
    (Stands (g.D.Disk.state c.make.new.disk) _) a_table s (with_table s c.args.schema)
    c.in-Err.fault c.in-Err.ensures.fault

pub returns-clause-disk : goal.returns-clause-disk
returns-clause-disk g c s stands =
    c.make.ensures.disk s (with_table s c.args.schema) stands.rows stands.valid
    (table_turned (g.D.Disk.state c.args.disk.now) c.args.self.now s stands
    c.args.schema c.requires.few c.requires.made c.requires.new
    c.requires.number c.requires.family c.requires.absent
    (c.args.self.now.family + c.family_count.result)
    c.in_ok-batch.batch (ap (λ n. c.args.self.now.family + n) c.family_count.ensures.count)
    c.in_ok-batch.ensures.changes c.held.ensures.held
    (omega (arith, c.next_number-number.ensures.next, c.if-number-ge-NUMBERS_END.false))
    (omega (arith, c.if-self.false)))

pub returns-in-Ok-clause-lacking : goal.returns-in-Ok-clause-lacking
returns-in-Ok-clause-lacking g c lacks = absurd (not_lacking c.args.self.now.engine.hand.next
    c.args.self.now.family
    (omega (arith, c.next_number-number.ensures.next, c.if-number-ge-NUMBERS_END.false))
    (omega (arith, c.if-self.false)) lacks)

pub returns-clause-lacking : goal.returns-clause-lacking
returns-clause-lacking g c lacks = absurd (not_lacking c.args.self.now.engine.hand.next
    c.args.self.now.family
    (omega (arith, c.next_number-number.ensures.next, c.if-number-ge-NUMBERS_END.false))
    (omega (arith, c.if-self.false)) lacks)
