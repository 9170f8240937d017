-- The items that are left are read, and the step is made of them.
use Rattle.std.proofs.Common.{◌≡◌, ◌+◌, ◌++◌, [], ◌∷◌, true, None, sym, ap, subst, ◌∙◌, take, arith}
use Rattle.std.specs.FinMap as map
use Rattle.alt_disk.specs.Disk.{DiskState}
use Rattle.alt_disk.proofs.Runs.{quiet_start}
use Rattle.alt_machine.specs.Building.{building_in, with_built}
use Rattle.alt_machine.specs.Outcomes.{a_number}
use Rattle.alt_machine.specs.State.{Texts}
use Rattle.alt_machine.specs.Walks.{items_between}
use Rattle.alt_machine.proofs.Lacks.{has_number}
use Rattle.alt_schema.specs.declared.schema.TableSchema.{TableSchema}
use Rattle.alt_tables.specs.Faults.{Writes}
use Rattle.alt_tables.specs.Stands.{Reads, Stands}
use Rattle.alt_rowchanges.specs.Steps.{built_to, first_behind}
use Rattle.alt_tables.proofs.BuildReads.{read_left}
use Rattle.alt_tables.proofs.Holding.{leaves_quiet}
use Rattle.alt_tables.proofs.Left.{leaves_after, leaves_reads}
use Rattle.alt_tables.proofs.Looking.{ready_only}
use Rattle.alt_tables.proofs.Making.{spent_file}
use Rattle.alt_tables.proofs.Pages.{same_table}
use Rattle.alt_tables.proofs.Standing.{file_stays}
use Rattle.alt_tables.proofs.tables.Tables.build_rows.Goals as goal

pub returns-then-number-ge-NUMBERS_END-clause-disk :
    goal.returns-then-number-ge-NUMBERS_END-clause-disk
returns-then-number-ge-NUMBERS_END-clause-disk g c s t i stands at building =
    leaves_quiet (g.D.Disk.state c.args.disk.now) (g.D.Disk.state c.args.disk.now)
    c.args.self.now.engine s (with_built s c.args.most c.args.table.now t i ∷ []) stands.rows
    stands.valid (quiet_start (g.D.Disk.state c.args.disk.now))

pub returns-in-Some-clause-writes : goal.returns-in-Some-clause-writes
returns-in-Some-clause-writes g c s t i stands at building =
    spent_file (Stands (g.D.Disk.state c.args.disk.now) c.args.self.now) a_number s
    (with_built s c.args.most c.args.table.now t i) c.in-Some.number
    (has_number s.next_number (omega (
      arith,
      stands.number,
      c.next_number-number.ensures.next,
      c.if-number-ge-NUMBERS_END.false,
    )))
    c.in-Some.ensures.last stands

pub returns-in-Some-clause-disk : goal.returns-in-Some-clause-disk
returns-in-Some-clause-disk g c s t i stands at building =
    leaves_quiet (g.D.Disk.state c.args.disk.now) (g.D.Disk.state c.args.disk.now)
    c.args.self.now.engine s (with_built s c.args.most c.args.table.now t i ∷ []) stands.rows
    stands.valid (quiet_start (g.D.Disk.state c.args.disk.now))

pub returns-in_err-range-clause-disk : goal.returns-in_err-range-clause-disk
returns-in_err-range-clause-disk g c s t i stands at building =
    leaves_quiet (g.D.Disk.state c.args.disk.now) (g.D.Disk.state c.args.disk.now)
    c.args.self.now.engine s (with_built s c.args.most c.args.table.now t i ∷ []) stands.rows
    stands.valid (quiet_start (g.D.Disk.state c.args.disk.now))

pub build_read-requires-clause-ready : goal.build_read-requires-clause-ready
build_read-requires-clause-ready g c = ready_only c.rows.ensures.only c.requires.ready

pub build_read-requires-clause-building : goal.build_read-requires-clause-building
build_read-requires-clause-building g c d at = c.requires.building d
    (sym (ap (λ (m : Texts TableSchema). map.get m c.args.table.now) c.rows.ensures.only.catalog.catalog)
    ∙ at)

pub build_read-requires-clause-read : goal.build_read-requires-clause-read
build_read-requires-clause-read g c s t i stands at building =
    let before = (c.rows.ensures.only.stays s).1 stands in
    let same : c.in-Some-get.schema.now ≡ t.description =
    same_table (g.D.Disk.state c.args.disk.now) c.args.self.now s c.args.table.now t
    c.in-Some-get.schema.now before at (sym c.in-Some-get.ensures.table) in
    c.as_slice.ensures.value
    ∙ c.in-Ok.ensures.rows s t before at
    ∙ ap (λ xs. xs ++ take (c.args.most + 1) (items_between t None c.in_ok-range.range.from
    c.in_ok-range.range.to true)) c.new-items.ensures.items
    ∙ read_left t i building c.in_ok-range.range.from
    (c.in_ok-range.ensures.from i (ap building_in same ∙ building)
    ∙ ap (λ (d : TableSchema). first_behind (built_to d i.built)) same)
    c.in_ok-range.range.to c.in_ok-range.ensures.to (c.args.most + 1)

pub returns-in-Ok-clause-writes : goal.returns-in-Ok-clause-writes
returns-in-Ok-clause-writes g c s t i stands at building =
    subst (λ n. Writes n (Stands (g.D.Disk.state c.build_read.new.disk) c.build_read.new.self) a_number
    s (with_built s c.args.most c.args.table.now t i ∷ []) c.build_read.result)
    (file_stays c.args.self.now c.rows.new.self c.rows.ensures.only.catalog.limits)
    (c.build_read.ensures.writes s t i ((c.rows.ensures.only.stays s).0 stands) at building)

pub returns-in-Ok-clause-disk : goal.returns-in-Ok-clause-disk
returns-in-Ok-clause-disk g c s t i stands at building =
    leaves_after (g.D.Disk.state c.args.disk.now) (g.D.Disk.state c.rows.new.disk)
    (g.D.Disk.state c.build_read.new.disk) c.args.self.now s
    (with_built s c.args.most c.args.table.now t i ∷ []) c.rows.ensures.only.disk stands
    (c.build_read.ensures.disk s t i ((c.rows.ensures.only.stays s).0 stands) at building)

pub returns-in-Ok-clause-no_memory : goal.returns-in-Ok-clause-no_memory
returns-in-Ok-clause-no_memory g c none =
    subst (λ (d : DiskState). Reads (g.D.Disk.state c.args.disk.now) d)
    (sym (c.build_read.ensures.no_memory none)) c.rows.ensures.only.disk

pub returns-clause-disk : goal.returns-clause-disk
returns-clause-disk g c s t i stands at building =
    leaves_reads (g.D.Disk.state c.args.disk.now) (g.D.Disk.state c.rows.new.disk)
    c.args.self.now s (with_built s c.args.most c.args.table.now t i ∷ []) c.rows.ensures.only.disk stands
