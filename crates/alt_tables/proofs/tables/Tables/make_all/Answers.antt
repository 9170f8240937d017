-- Writes of the state are one entry of the engine.
use Rattle.std.proofs.Common.{refl, sym, ap, subst, length, Err, arith}
use Rattle.alt_rowchanges.specs.OpeningEngineInHand.{StandsForLayout as EngineStands}
use Rattle.alt_tables.proofs.Batches.{with_batches-writes}
use Rattle.alt_tables.proofs.Holding.{all_hold, all_images, found_fault, memory_wanted, same_Err}
use Rattle.alt_tables.proofs.tables.Tables.make_all.Goals as goal

pub apply_all-requires-clause-stands : goal.apply_all-requires-clause-stands
apply_all-requires-clause-stands g c trusted =
    let holds = (c.requires.ready trusted).1 in (holds.layout, holds.is)

pub returns-in-Ok-clause-ok : goal.returns-in-Ok-clause-ok
returns-in-Ok-clause-ok g c s r holds turns =
    all_hold (g.D.Disk.state c.args.disk.now) (g.D.Disk.state c.apply_all.new.disk)
    c.args.self.now.engine s r c.args.batches.now holds turns c.requires.distinct
    c.apply_all.new.self c.in-Ok.ensures.goes
    (c.in-Ok.ensures.ok holds.trusted holds.layout holds.is)

pub returns-in-Ok-clause-rows : goal.returns-in-Ok-clause-rows
returns-in-Ok-clause-rows g c trusted l rows =
    subst (EngineStands (g.D.Disk.state c.apply_all.new.disk) c.apply_all.new.self)
    (sym (with_batches-writes l c.args.batches.now)) (c.in-Ok.ensures.ok trusted l rows)

pub returns-in-Ok-clause-disk : goal.returns-in-Ok-clause-disk
returns-in-Ok-clause-disk g c s r holds valid turns =
    all_images (g.D.Disk.state c.args.disk.now) (g.D.Disk.state c.apply_all.new.disk)
    c.args.self.now.engine s r c.args.batches.now holds turns c.requires.distinct
    valid (c.in-Ok.ensures.any_moment holds.trusted holds.layout holds.is)

pub returns-in-Err-clause-no_memory : goal.returns-in-Err-clause-no_memory
returns-in-Err-clause-no_memory g c none =
    c.in-Err.ensures.no_memory (ap (λ f. Err f) (memory_wanted c.in-Err.fault c.from.result
    c.from.ensures (same_Err _ _ _ refl none)))

pub returns-in-Err-clause-disk : goal.returns-in-Err-clause-disk
returns-in-Err-clause-disk g c s r holds valid turns =
    all_images (g.D.Disk.state c.args.disk.now) (g.D.Disk.state c.apply_all.new.disk)
    c.args.self.now.engine s r c.args.batches.now holds turns c.requires.distinct
    valid (c.in-Err.ensures.any_moment holds.trusted holds.layout holds.is)

pub returns-in-Err-clause-fault : goal.returns-in-Err-clause-fault
returns-in-Err-clause-fault g c =
    found_fault c.args.self.now.engine.hand (length c.args.batches.now) c.in-Err.fault c.from.result
    c.from.ensures (omega (arith, c.requires.room)) c.requires.file c.in-Err.ensures.cause_spent
