-- A write of the state is one write of the engine.
use Rattle.std.proofs.Common.{refl, ap, Err, arith}
use Rattle.alt_tables.proofs.Holding.{found_fault, write_holds, write_images, memory_wanted, same_Err}
use Rattle.alt_tables.proofs.tables.Tables.make.Goals as goal

pub apply-requires : goal.apply-requires
apply-requires g c trusted =
    let holds = (c.requires.ready trusted).1 in (holds.layout, holds.is)

pub returns-in-Ok-clause-ok : goal.returns-in-Ok-clause-ok
returns-in-Ok-clause-ok g c s r holds turns =
    write_holds (g.D.Disk.state c.args.disk.now) (g.D.Disk.state c.apply.new.disk)
    c.args.self.now.engine s r c.args.batch.now holds turns c.as_slice-changes.ensures.distinct
    c.apply.new.self c.in-Ok.ensures.goes
    (c.in-Ok.ensures.ok holds.trusted holds.layout holds.is)

pub returns-in-Ok-clause-disk : goal.returns-in-Ok-clause-disk
returns-in-Ok-clause-disk g c s r holds valid turns =
    write_images (g.D.Disk.state c.args.disk.now) (g.D.Disk.state c.apply.new.disk)
    c.args.self.now.engine s r c.args.batch.now holds turns c.as_slice-changes.ensures.distinct
    valid (c.in-Ok.ensures.any_moment holds.trusted holds.layout holds.is)

pub returns-in-Err-clause-no_memory : goal.returns-in-Err-clause-no_memory
returns-in-Err-clause-no_memory g c none =
    c.in-Err.ensures.no_memory (ap (λ f. Err f) (memory_wanted c.in-Err.fault c.from.result
    c.from.ensures (same_Err _ _ _ refl none)))

pub returns-in-Err-clause-disk : goal.returns-in-Err-clause-disk
returns-in-Err-clause-disk g c s r holds valid turns =
    write_images (g.D.Disk.state c.args.disk.now) (g.D.Disk.state c.apply.new.disk)
    c.args.self.now.engine s r c.args.batch.now holds turns c.as_slice-changes.ensures.distinct
    valid (c.in-Err.ensures.any_moment holds.trusted holds.layout holds.is)

pub returns-in-Err-clause-fault : goal.returns-in-Err-clause-fault
returns-in-Err-clause-fault g c =
    found_fault c.args.self.now.engine.hand 1 c.in-Err.fault c.from.result c.from.ensures
    (omega (arith, c.requires.room)) c.requires.file c.in-Err.ensures.cause_spent
