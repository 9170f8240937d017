-- The lesser of both keys is the first wrong one.
use Rattle.std.proofs.Common.{sym, ap, subst, ◌∙◌, IsTrue}
use Rattle.std.proofs.lemmas.Option.{same_Some}
use Rattle.alt_schema.specs.declared.schema.IndexSchema.{IndexSchema}
use Rattle.alt_opening.proofs.IndexSteps.{index_read, index_wrong}
use Rattle.alt_opening.proofs.Scanning.{reads_on, walk_then}
use Rattle.alt_opening.proofs.DeviceFaults.{device_index}
use Rattle.alt_opening.proofs.index_scan.read_index.Goals as goal

pub returns-in-None-clause-read : goal.returns-in-None-clause-read
returns-in-None-clause-read g c tells l i reads at made read =
    index_read l c.args.schema.now i c.in-Ok.missing c.in-Ok-first_foreign.foreign
    (c.in-Ok.ensures.least tells l i reads at read)
    (c.in-Ok-first_foreign.ensures.first
    (subst IsTrue (sym c.in-Ok.ensures.walked.goes.tells) tells) l i
    (reads_on (g.D.Disk.state c.args.disk.now) (g.D.Disk.state c.least_missing.new.disk)
    c.args.engine.now c.least_missing.new.engine l c.in-Ok.ensures.walked tells reads)
    at made read) (sym c.lesser.ensures ∙ c.in-None.is)

pub returns-in-Some-clause-wrong : goal.returns-in-Some-clause-wrong
returns-in-Some-clause-wrong g c tells l i reads at made read =
    index_wrong l c.args.schema.now i c.in-Ok.missing c.in-Ok-first_foreign.foreign
    (c.in-Ok.ensures.least tells l i reads at read)
    (c.in-Ok-first_foreign.ensures.first
    (subst IsTrue (sym c.in-Ok.ensures.walked.goes.tells) tells) l i
    (reads_on (g.D.Disk.state c.args.disk.now) (g.D.Disk.state c.least_missing.new.disk)
    c.args.engine.now c.least_missing.new.engine l c.in-Ok.ensures.walked tells reads)
    at made read) c.in-Some.key (sym c.lesser.ensures ∙ c.in-Some.is)
    c.index_at.result.now.family
    (ap (λ (x : IndexSchema). x.family) (same_Some _ _ (c.index_at.ensures.index ∙ at)))

pub returns-in-Err-first_foreign-clause-walked : goal.returns-in-Err-first_foreign-clause-walked
returns-in-Err-first_foreign-clause-walked g c =
    walk_then (g.D.Disk.state c.args.disk.now) (g.D.Disk.state c.least_missing.new.disk)
    (g.D.Disk.state c.first_foreign.new.disk) c.args.engine.now c.least_missing.new.engine
    c.first_foreign.new.engine c.least_missing.ensures.walked c.first_foreign.ensures.walked

pub returns-in-Some-clause-walked : goal.returns-in-Some-clause-walked
returns-in-Some-clause-walked g c =
    walk_then (g.D.Disk.state c.args.disk.now) (g.D.Disk.state c.least_missing.new.disk)
    (g.D.Disk.state c.first_foreign.new.disk) c.args.engine.now c.least_missing.new.engine
    c.first_foreign.new.engine c.least_missing.ensures.walked c.first_foreign.ensures.walked

pub returns-in-None-clause-walked : goal.returns-in-None-clause-walked
returns-in-None-clause-walked g c =
    walk_then (g.D.Disk.state c.args.disk.now) (g.D.Disk.state c.least_missing.new.disk)
    (g.D.Disk.state c.first_foreign.new.disk) c.args.engine.now c.least_missing.new.engine
    c.first_foreign.new.engine c.least_missing.ensures.walked c.first_foreign.ensures.walked

pub returns-in-Err-clause-wrong : goal.returns-in-Err-clause-wrong
returns-in-Err-clause-wrong g c tells l i reads at made read =
    device_index l c.args.schema.now i c.in-Err.fault (c.in-Err.ensures.fault tells l reads)

pub returns-in-Err-first_foreign-clause-wrong : goal.returns-in-Err-first_foreign-clause-wrong
returns-in-Err-first_foreign-clause-wrong g c tells l i reads at made read =
    device_index l c.args.schema.now i c.in-Err-first_foreign.fault
    (c.in-Err-first_foreign.ensures.fault (subst IsTrue (sym c.in-Ok.ensures.walked.goes.tells)
    tells) l (reads_on (g.D.Disk.state c.args.disk.now) (g.D.Disk.state c.least_missing.new.disk)
    c.args.engine.now c.least_missing.new.engine l c.in-Ok.ensures.walked tells reads))
