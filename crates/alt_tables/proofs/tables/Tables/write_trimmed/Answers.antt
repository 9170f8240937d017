-- One write is made, and what is known of the front of the stream is what it leaves.
use Rattle.std.proofs.Common.{◌≡◌, ◌<◌, ◌^◌, ◌+◌, ◌++◌, refl, sym, ap, ◌∙◌, [], ◌∷◌, Some, IsSome, subst, arith, rules}
use Rattle.std.specs.Prelude.{if◌then◌else◌}
use Rattle.std.proofs.lemmas.Slice.Eq.{bytes_eq-Decides}
use Rattle.alt_changes.specs.TrimRows.{trim_changes}
use Rattle.alt_codec.specs.declared.writer.Writer.TheVariants.{User}
use Rattle.alt_disk.proofs.Runs.{quiet_start}
use Rattle.alt_rowchanges.specs.OpeningEngineInHand.{StandsForLayout as EngineStands, bounds_of_engine as engine_bounds, next_write_of_engine}
use Rattle.alt_rowchanges.specs.OpeningEngineDeclaredEngine.{Engine}
use Rattle.alt_machine.specs.Outcomes.{a_number}
use Rattle.alt_machine.specs.Writes.{after_item}
use Rattle.alt_machine.proofs.Lacks.{has_number}
use Rattle.alt_rowchanges.specs.OpeningOpened.{EngineHoldsState}
use Rattle.alt_rowchanges.specs.OpeningTrimmed.{IsRenumbered, number_at}
use Rattle.alt_rowchanges.specs.RowChanges.{write_changes}
use Rattle.alt_tables.specs.Stands.{Stands, bounds_of, fronts_of, trimmed_of}
use Rattle.alt_rowchanges.specs.Trims.{IsNoted, TrimIsWithin}
use Rattle.alt_tables.specs.private.Written.{IsWrittenAs}
use Rattle.alt_tables.proofs.Holding.{leaves_quiet}
use Rattle.alt_tables.proofs.Making.{broke, item_stands, item_turned, want_told}
use Rattle.alt_tables.proofs.TableMaking.{one_made}
use Rattle.alt_rowchanges.proofs.CanTrim.{can_trim}
use Rattle.alt_tables.proofs.tables.Tables.write_trimmed.Goals as goal

same_Some : {A : Type 0} (x y : A) → Some x ≡ Some y → x ≡ y
same_Some x y e = cc

pub returns-in_err-batch-clause-writes : goal.returns-in_err-batch-clause-writes
returns-in_err-batch-clause-writes g c s t stands at =
    want_told (bounds_of c.args.self.now).file
    (Stands (g.D.Disk.state c.args.disk.now) c.args.self.now) a_number s
    (after_item s c.args.moment c.args.table.now t c.args.found.place c.args.new ∷ [])
    c.from_residual.result c.from_residual.ensures.1

pub returns-in_err-batch-clause-disk : goal.returns-in_err-batch-clause-disk
returns-in_err-batch-clause-disk g c s t stands at =
    leaves_quiet (g.D.Disk.state c.args.disk.now)
    (g.D.Disk.state c.args.disk.now) c.args.self.now.engine s
    (after_item s c.args.moment c.args.table.now t c.args.found.place c.args.new ∷ [])
    stands.rows stands.valid (quiet_start (g.D.Disk.state c.args.disk.now))

pub returns-in_err-put_trim-clause-writes : goal.returns-in_err-put_trim-clause-writes
returns-in_err-put_trim-clause-writes g c s t stands at =
    want_told (bounds_of c.args.self.now).file
    (Stands (g.D.Disk.state c.args.disk.now) c.args.self.now) a_number s
    (after_item s c.args.moment c.args.table.now t c.args.found.place c.args.new ∷ [])
    c.from_residual-in_err-put_trim.result c.from_residual-in_err-put_trim.ensures.1

pub returns-in_err-put_trim-clause-disk : goal.returns-in_err-put_trim-clause-disk
returns-in_err-put_trim-clause-disk g c s t stands at =
    leaves_quiet (g.D.Disk.state c.args.disk.now)
    (g.D.Disk.state c.args.disk.now) c.args.self.now.engine s
    (after_item s c.args.moment c.args.table.now t c.args.found.place c.args.new ∷ [])
    stands.rows stands.valid (quiet_start (g.D.Disk.state c.args.disk.now))

pub returns-in_err-know-clause-writes : goal.returns-in_err-know-clause-writes
returns-in_err-know-clause-writes g c s t stands at =
    want_told (bounds_of c.args.self.now).file
    (Stands (g.D.Disk.state c.args.disk.now) c.know.new.self) a_number s
    (after_item s c.args.moment c.args.table.now t c.args.found.place c.args.new ∷ [])
    c.from_residual-in_err-know.result c.from_residual-in_err-know.ensures.1

pub returns-in_err-know-clause-disk : goal.returns-in_err-know-clause-disk
returns-in_err-know-clause-disk g c s t stands at =
    leaves_quiet (g.D.Disk.state c.args.disk.now)
    (g.D.Disk.state c.args.disk.now) c.args.self.now.engine s
    (after_item s c.args.moment c.args.table.now t c.args.found.place c.args.new ∷ [])
    stands.rows stands.valid (quiet_start (g.D.Disk.state c.args.disk.now))

-- what goes isn't changed yet
pub put_trim-requires : goal.put_trim-requires
put_trim-requires g c = record {
  rows = λ family stream. can_trim c.in-Some.schema.now c.in-Some.ensures.families
      c.next_number-number.result c.args.moment User c.args.found.place c.args.found.item c.args.new
      c.in_ok-batch.batch c.in_ok-batch.ensures.changes c.trimmed-before.result c.args.trim
      (subst (λ n. TrimIsWithin n c.next_number-number.result c.args.trim)
      (sym c.trimmed-before.ensures.trimmed)
      (subst (λ n. TrimIsWithin (number_at c.args.table.now (trimmed_of c.args.self.now)) n c.args.trim)
      (sym c.next_number-number.ensures.next)
      (c.requires.within c.in-Some.schema.now (sym c.in-Some.ensures.table)
      (subst IsSome (sym stream) refl))))
      (omega (arith, c.next_number-number.ensures.next, c.requires.room)) family stream;
}

pub make-requires-clause-file : goal.make-requires-clause-file
make-requires-clause-file g c = subst (λ (e : Engine). (engine_bounds e).file < 2 ^ 32)
    (sym c.know.ensures.kept.0) c.requires.file

pub make-requires-clause-ready : goal.make-requires-clause-ready
make-requires-clause-ready g c trusted =
    let (s, stands) = c.requires.ready trusted in (
      s,
      subst (λ (e : Engine). EngineHoldsState (g.D.Disk.state c.args.disk.now) e s)
          (sym c.know.ensures.kept.0) stands.rows,
    )

pub returns-in-Ok-clause-writes : goal.returns-in-Ok-clause-writes
returns-in-Ok-clause-writes g c s t stands at =
    let turned = item_turned (g.D.Disk.state c.args.disk.now) c.args.self.now s t stands c.args.moment
    User c.args.table.now c.args.found.place c.args.found.item c.args.new at
    (c.requires.found s stands t at) c.args.trim
    (c.requires.trim s t stands.rows.layout stands at stands.rows.is) c.in-Some.schema.now
    c.next_number-number.result c.put_trim.new.batch (sym c.in-Some.ensures.table)
    c.next_number-number.ensures.next
    (c.in_ok-put_trim.ensures.changes
    ∙ (λ i. c.in_ok-batch.ensures.changes i ++ trim_changes c.in-Some.schema.now
    (c.trimmed-before.ensures.trimmed i) c.args.trim.number c.args.trim.leftovers.items))
    c.requires.differ
    c.requires.room (c.requires.new s stands c.in-Some.schema.now (sym c.in-Some.ensures.table))
    c.in_ok-batch.ensures.held (search rules) in
    one_made (Stands (g.D.Disk.state c.make.new.disk) c.make.new.self) a_number s
    (after_item s c.args.moment c.args.table.now t c.args.found.place c.args.new)
    (item_stands (g.D.Disk.state c.args.disk.now) c.args.self.now s t stands c.args.moment
    User c.args.table.now c.args.found.place c.args.found.item c.args.new at
    (c.requires.found s stands t at) c.args.trim
    (c.requires.trim s t stands.rows.layout stands at stands.rows.is) c.in-Some.schema.now
    c.next_number-number.result c.put_trim.new.batch (sym c.in-Some.ensures.table)
    c.next_number-number.ensures.next
    (c.in_ok-put_trim.ensures.changes
    ∙ (λ i. c.in_ok-batch.ensures.changes i ++ trim_changes c.in-Some.schema.now
    (c.trimmed-before.ensures.trimmed i) c.args.trim.number c.args.trim.leftovers.items))
    c.requires.differ
    (g.D.Disk.state c.make.new.disk) c.make.new.self (c.in-Ok.ensures.ok s
    (after_item s c.args.moment c.args.table.now t c.args.found.place c.args.new)
    (subst (λ (e : Engine). EngineHoldsState (g.D.Disk.state c.args.disk.now) e s)
    (sym c.know.ensures.kept.0) stands.rows) turned) turned.valid
    (c.in-Ok.ensures.rows stands.rows.trusted stands.rows.layout
    (subst (λ (e : Engine). EngineStands (g.D.Disk.state c.args.disk.now) e stands.rows.layout)
    (sym c.know.ensures.kept.0) stands.rows.is))
    c.in-Ok.ensures.distinct
    (c.make.ensures.kept.0 ∙ c.know.ensures.kept.1) (c.make.ensures.kept.1 ∙ c.know.ensures.kept.2)
    (c.make.ensures.kept.2 ∙ c.know.ensures.kept.3)
    (subst (λ (v : _). IsRenumbered c.args.table.now c.args.trim.number
    (trimmed_of c.args.self.now) v.items) (sym c.make.ensures.kept.3) c.in_ok-know.ensures.trimmed)
    (subst (λ (v : _). IsNoted c.in-Some.schema.now c.args.table.now c.args.moment c.args.trim
    (fronts_of c.args.self.now) v.items) (sym c.make.ensures.kept.4)
    (c.in_ok-know.ensures.fronts c.in-Some.schema.now (sym c.in-Some.ensures.table)))
    c.requires.foretold (c.make.ensures.kept.5 ∙ c.know.ensures.kept.4)
    c.requires.fits (c.make.ensures.kept.7 ∙ c.know.ensures.kept.6)
    (c.make.ensures.kept.6 ∙ c.know.ensures.kept.5)
    (c.in-Ok.ensures.next ∙ ap (λ (e : Engine). next_write_of_engine e + 1) c.know.ensures.kept.0))
    (has_number s.next_number (omega (arith, stands.number, c.requires.room)))

pub returns-in-Ok-clause-disk : goal.returns-in-Ok-clause-disk
returns-in-Ok-clause-disk g c s t stands at =
    c.make.ensures.disk s
    (after_item s c.args.moment c.args.table.now t c.args.found.place c.args.new)
    (subst (λ (e : Engine). EngineHoldsState (g.D.Disk.state c.args.disk.now) e s)
    (sym c.know.ensures.kept.0) stands.rows) stands.valid
    (item_turned (g.D.Disk.state c.args.disk.now) c.args.self.now s t stands c.args.moment
    User c.args.table.now c.args.found.place c.args.found.item c.args.new at
    (c.requires.found s stands t at) c.args.trim
    (c.requires.trim s t stands.rows.layout stands at stands.rows.is) c.in-Some.schema.now
    c.next_number-number.result c.put_trim.new.batch (sym c.in-Some.ensures.table)
    c.next_number-number.ensures.next
    (c.in_ok-put_trim.ensures.changes
    ∙ (λ i. c.in_ok-batch.ensures.changes i ++ trim_changes c.in-Some.schema.now
    (c.trimmed-before.ensures.trimmed i) c.args.trim.number c.args.trim.leftovers.items))
    c.requires.differ
    c.requires.room (c.requires.new s stands c.in-Some.schema.now (sym c.in-Some.ensures.table))
    c.in_ok-batch.ensures.held (search rules))

pub returns-clause-writes : goal.returns-clause-writes
returns-clause-writes g c s t stands at =
    broke (bounds_of c.args.self.now).file
    (Stands (g.D.Disk.state c.make.new.disk) c.make.new.self) a_number s
    (after_item s c.args.moment c.args.table.now t c.args.found.place c.args.new) c.in-Err.fault
    c.in-Err.ensures.fault

pub returns-clause-disk : goal.returns-clause-disk
returns-clause-disk g c s t stands at =
    c.make.ensures.disk s
    (after_item s c.args.moment c.args.table.now t c.args.found.place c.args.new)
    (subst (λ (e : Engine). EngineHoldsState (g.D.Disk.state c.args.disk.now) e s)
    (sym c.know.ensures.kept.0) stands.rows) stands.valid
    (item_turned (g.D.Disk.state c.args.disk.now) c.args.self.now s t stands c.args.moment
    User c.args.table.now c.args.found.place c.args.found.item c.args.new at
    (c.requires.found s stands t at) c.args.trim
    (c.requires.trim s t stands.rows.layout stands at stands.rows.is) c.in-Some.schema.now
    c.next_number-number.result c.put_trim.new.batch (sym c.in-Some.ensures.table)
    c.next_number-number.ensures.next
    (c.in_ok-put_trim.ensures.changes
    ∙ (λ i. c.in_ok-batch.ensures.changes i ++ trim_changes c.in-Some.schema.now
    (c.trimmed-before.ensures.trimmed i) c.args.trim.number c.args.trim.leftovers.items))
    c.requires.differ
    c.requires.room (c.requires.new s stands c.in-Some.schema.now (sym c.in-Some.ensures.table))
    c.in_ok-batch.ensures.held (search rules))

-- the row changes that are made
pub returns-in-Ok-clause-rows : goal.returns-in-Ok-clause-rows
returns-in-Ok-clause-rows g c trusted d l there rows =
    let same : c.in-Some.schema.now ≡ d =
    same_Some c.in-Some.schema.now d (c.in-Some.ensures.table ∙ there) in
    subst (IsWrittenAs (g.D.Disk.state c.make.new.disk) c.make.new.self l)
    (c.in_ok-put_trim.ensures.changes
    ∙ (λ i. c.in_ok-batch.ensures.changes i ++ trim_changes c.in-Some.schema.now
    (c.trimmed-before.ensures.trimmed i) c.args.trim.number c.args.trim.leftovers.items)
    ∙ (λ i. write_changes (same i) (c.next_number-number.ensures.next i) c.args.moment
    User c.args.found.place c.args.found.item c.args.new
    (number_at c.args.table.now (trimmed_of c.args.self.now)) c.args.trim.number
    c.args.trim.leftovers.items))
    (record {
      distinct = c.in-Ok.ensures.distinct;
      rows = c.in-Ok.ensures.rows trusted l
          (subst (λ (e : Engine). EngineStands (g.D.Disk.state c.args.disk.now) e l)
          (sym c.know.ensures.kept.0) rows);
    })

-- what was trimmed is known
pub returns-in-Ok-clause-trimmed : goal.returns-in-Ok-clause-trimmed
returns-in-Ok-clause-trimmed g c =
    ap (λ (v : _). number_at c.args.table.now v.items) c.make.ensures.kept.3
    ∙ c.in_ok-know.ensures.trimmed c.args.table.now
    ∙ ap (λ b. if b then c.args.trim.number
    else number_at c.args.table.now (trimmed_of c.args.self.now))
    ((bytes_eq-Decides c.args.table.now c.args.table.now).1 refl)
