-- The table has that time to live by one write.
use Rattle.std.proofs.Common.{◌≡◌, [], ◌∷◌, refl, sym, ap, subst, ◌∙◌, ℕ, List, Option, option_map, arith}
use Rattle.std.specs.Option.{option_map_or}
use Rattle.std.specs.FinMap as map
use Rattle.alt_disk.proofs.Runs.{quiet_start}
use Rattle.alt_machine.proofs.Lacks.{has_number}
use Rattle.alt_machine.specs.Ops.UpdateTimeToLive.{with_time}
use Rattle.alt_machine.specs.Outcomes.{a_number}
use Rattle.alt_machine.specs.State.{Texts}
use Rattle.alt_schemabytes.specs.Held.{IsHeldText, Where}
use Rattle.alt_schema.specs.declared.schema.TableSchema.{TableSchema}
use Rattle.alt_due.specs.declared.due.Due.{Due}
use Rattle.alt_rowchanges.specs.RowChanges.{time_changes}
use Rattle.alt_tables.specs.Stands.{Stands, bounds_of}
use Rattle.alt_tables.specs.private.Foretold.{TimeToLiveIsTold}
use Rattle.alt_tables.proofs.Holding.{leaves_quiet}
use Rattle.alt_tables.proofs.Making.{broke, spent_file}
use Rattle.alt_tables.proofs.TableMaking.{one_made}
use Rattle.alt_tables.proofs.Timed.{given_time, time_stands, time_turned}
use Rattle.alt_tables.proofs.tables.Tables.set_ttl.Goals as goal

pub returns-then-number-ge-NUMBERS_END-clause-disk : goal.returns-then-number-ge-NUMBERS_END-clause-disk
returns-then-number-ge-NUMBERS_END-clause-disk g c s t stands at =
    leaves_quiet (g.D.Disk.state c.args.disk.now) (g.D.Disk.state c.args.disk.now)
    c.args.self.now.engine s
    (with_time s c.args.table.now t (option_map (λ n. n.now) c.args.name) ∷ []) stands.rows
    stands.valid (quiet_start (g.D.Disk.state c.args.disk.now))

pub returns-in-Some-clause-writes : goal.returns-in-Some-clause-writes
returns-in-Some-clause-writes g c s t stands at =
    spent_file (Stands (g.D.Disk.state c.args.disk.now) c.args.self.now) a_number s
    (with_time s c.args.table.now t (option_map (λ n. n.now) c.args.name)) c.in-Some.number
    (has_number s.next_number (omega (
      arith,
      stands.number,
      c.next_number-number.ensures.next,
      c.if-number-ge-NUMBERS_END.false,
    )))
    c.in-Some.ensures.last stands

pub returns-in-Some-clause-disk : goal.returns-in-Some-clause-disk
returns-in-Some-clause-disk g c s t stands at =
    leaves_quiet (g.D.Disk.state c.args.disk.now) (g.D.Disk.state c.args.disk.now)
    c.args.self.now.engine s
    (with_time s c.args.table.now t (option_map (λ n. n.now) c.args.name) ∷ []) stands.rows
    stands.valid (quiet_start (g.D.Disk.state c.args.disk.now))

pub returns-in_err-ttl-clause-disk : goal.returns-in_err-ttl-clause-disk
returns-in_err-ttl-clause-disk g c s t stands at =
    leaves_quiet (g.D.Disk.state c.args.disk.now) (g.D.Disk.state c.args.disk.now)
    c.args.self.now.engine s
    (with_time s c.args.table.now t (option_map (λ n. n.now) c.args.name) ∷ []) stands.rows
    stands.valid (quiet_start (g.D.Disk.state c.args.disk.now))

pub returns-in_err-batch-clause-disk : goal.returns-in_err-batch-clause-disk
returns-in_err-batch-clause-disk g c s t stands at =
    leaves_quiet (g.D.Disk.state c.args.disk.now) (g.D.Disk.state c.args.disk.now)
    c.args.self.now.engine s
    (with_time s c.args.table.now t (option_map (λ n. n.now) c.args.name) ∷ []) stands.rows
    stands.valid (quiet_start (g.D.Disk.state c.args.disk.now))

pub make-requires-clause-file : goal.make-requires-clause-file
make-requires-clause-file g c = c.in_default.ensures.none refl

pub make-requires-clause-ready : goal.make-requires-clause-ready
make-requires-clause-ready g c trusted =
    let (s, stands) = c.requires.ready trusted in (s, stands.rows)

pub returns-in-Ok-clause-writes : goal.returns-in-Ok-clause-writes
returns-in-Ok-clause-writes g c s t stands at =
    let ttl : Option (List ℕ) = option_map (λ n. n.now) c.args.name in
    let is : c.in_ok-batch.batch ≡ time_changes c.in-Some-get.schema.now ttl =
    c.in_ok-batch.ensures.changes ∙ ap (time_changes c.in-Some-get.schema.now)
    (c.as_ref.ensures.value ∙ c.in_ok-ttl.ensures.copied) in
    let turned = time_turned (g.D.Disk.state c.args.disk.now) c.args.self.now s stands
    c.args.table.now t at ttl c.in-Some-get.schema.now (sym c.in-Some-get.ensures.table) c.in_ok-batch.batch
    is (omega (arith, c.next_number-number.ensures.next, c.if-number-ge-NUMBERS_END.false))
    (subst (Where IsHeldText) c.in_ok-ttl.ensures.copied c.in_ok-ttl.ensures.held) in
    one_made (Stands (g.D.Disk.state c.make.new.disk) _) a_number s
    (with_time s c.args.table.now t ttl)
    (time_stands (g.D.Disk.state c.args.disk.now) c.args.self.now s stands c.args.table.now t at ttl
    c.in-Some-get.schema.now (sym c.in-Some-get.ensures.table) c.in_ok-batch.batch is
    (g.D.Disk.state c.make.new.disk) _
    (c.in-Ok.ensures.ok s (with_time s c.args.table.now t ttl) stands.rows turned) turned.valid
    (given_time c.args.self.now.catalog _ c.args.table.now c.in-Some-get.schema.now c.in_ok-ttl.ttl ttl
    (c.set_ttl.ensures.timed
    ∙ ap (λ (m : Texts TableSchema). option_map_or
    (λ d. map.insert m c.args.table.now (record d { ttl = c.in_ok-ttl.ttl }))
    (map.get m c.args.table.now) m) c.make.ensures.kept.0)
    c.in_ok-ttl.ensures.copied (sym c.in-Some-get.ensures.table))
    c.make.ensures.kept.1 c.make.ensures.kept.2 c.make.ensures.kept.3 c.make.ensures.kept.4
    (subst (λ (o : Option (List ℕ)). TimeToLiveIsTold o c.args.self.now.due c.forget_for.new.due)
    c.in_ok-ttl.ensures.copied
    (subst (λ (e : Due). TimeToLiveIsTold c.in_ok-ttl.ttl e c.forget_for.new.due) c.make.ensures.kept.5
    c.forget_for.ensures))
    c.make.ensures.kept.7 c.make.ensures.kept.6 c.in-Ok.ensures.next c.in-Ok.ensures.distinct
    (c.in-Ok.ensures.rows stands.rows.trusted stands.rows.layout stands.rows.is))
    (has_number s.next_number (omega (arith, stands.number, c.next_number-number.ensures.next, c.if-number-ge-NUMBERS_END.false)))

pub returns-in-Ok-clause-disk : goal.returns-in-Ok-clause-disk
returns-in-Ok-clause-disk g c s t stands at =
    let ttl : Option (List ℕ) = option_map (λ n. n.now) c.args.name in
    let is : c.in_ok-batch.batch ≡ time_changes c.in-Some-get.schema.now ttl =
    c.in_ok-batch.ensures.changes ∙ ap (time_changes c.in-Some-get.schema.now)
    (c.as_ref.ensures.value ∙ c.in_ok-ttl.ensures.copied) in
    let turned = time_turned (g.D.Disk.state c.args.disk.now) c.args.self.now s stands
    c.args.table.now t at ttl c.in-Some-get.schema.now (sym c.in-Some-get.ensures.table) c.in_ok-batch.batch
    is (omega (arith, c.next_number-number.ensures.next, c.if-number-ge-NUMBERS_END.false))
    (subst (Where IsHeldText) c.in_ok-ttl.ensures.copied c.in_ok-ttl.ensures.held) in
    c.make.ensures.disk s (with_time s c.args.table.now t ttl) stands.rows stands.valid turned

pub returns-in-Err-clause-writes : goal.returns-in-Err-clause-writes
returns-in-Err-clause-writes g c s t stands at =
    broke (bounds_of c.args.self.now).file
    (Stands (g.D.Disk.state c.make.new.disk) c.make.new.self) a_number s
    (with_time s c.args.table.now t (option_map (λ n. n.now) c.args.name)) c.in-Err.fault
    c.in-Err.ensures.fault

pub returns-in-Err-clause-disk : goal.returns-in-Err-clause-disk
returns-in-Err-clause-disk g c s t stands at =
    let ttl : Option (List ℕ) = option_map (λ n. n.now) c.args.name in
    let is : c.in_ok-batch.batch ≡ time_changes c.in-Some-get.schema.now ttl =
    c.in_ok-batch.ensures.changes ∙ ap (time_changes c.in-Some-get.schema.now)
    (c.as_ref.ensures.value ∙ c.in_ok-ttl.ensures.copied) in
    let turned = time_turned (g.D.Disk.state c.args.disk.now) c.args.self.now s stands
    c.args.table.now t at ttl c.in-Some-get.schema.now (sym c.in-Some-get.ensures.table) c.in_ok-batch.batch
    is (omega (arith, c.next_number-number.ensures.next, c.if-number-ge-NUMBERS_END.false))
    (subst (Where IsHeldText) c.in_ok-ttl.ensures.copied c.in_ok-ttl.ensures.held) in
    c.make.ensures.disk s (with_time s c.args.table.now t ttl) stands.rows stands.valid turned
