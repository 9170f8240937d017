-- Step by step.
use Rattle.std.proofs.Common.{rules, ◌∙◌}
use Rattle.alt_base.proofs.Prefixes.{prefix_trans}
use Rattle.alt_disk.specs.Disk.{DiskState}
use Rattle.alt_disk.proofs.Calls.{goes_on}
use Rattle.alt_disk.proofs.Runs.{quiet_then}
use Rattle.alt_disk.proofs.Staying.{tells_on}
use Rattle.alt_families.proofs.rows.gather.Goals as goal

pub rows-preserved : goal.rows-preserved
rows-preserved g c =
    let s : DiskState = g.D.Disk.state c.args.disk.now in
    let a : DiskState = g.D.Disk.state c.rows.disk in
    let b : DiskState = g.D.Disk.state c.take_one.new.disk in
    let so_far = c.rows.invariant in record {
      rows = λ told p bound shows passes ahead.
          let still = so_far.rows told p bound shows passes ahead in
          let q = rw c.in-Ok-Some.field-0-is at c.in-Ok-Some.ensures.gives (tells_on s a so_far.goes told)
          p bound still.more still.ahead.1 still.ahead.0 in
          record { more = q.0; ahead = q.2; is = q.1 ∙ still.is };
      begun = prefix_trans c.args.out.now.items c.rows.out.items c.take_one.new.out.items so_far.begun
          c.take_one.ensures.begun;
      holds = λ told rows held. c.take_one.ensures.holds (tells_on s a so_far.goes told) rows
          (so_far.holds told rows held);
      quiet = λ told. quiet_then s a b (so_far.quiet told)
          (c.take_one.ensures.quiet (tells_on s a so_far.goes told));
      goes = goes_on s a b so_far.goes c.take_one.ensures.goes;
      well = c.in-Ok-Some.ensures.well (search rules) ∙ so_far.well;
    }

pub returns-in-Ok-None-clause-rows : goal.returns-in-Ok-None-clause-rows
returns-in-Ok-None-clause-rows g c told p bound shows passes ahead =
    let still = c.rows.invariant.rows told p bound shows passes ahead in
    let tells = tells_on (g.D.Disk.state c.args.disk.now) (g.D.Disk.state c.rows.disk)
    c.rows.invariant.goes told in (
      (rw c.in-Ok-None.field-0-is at c.in-Ok-None.ensures.gives tells p bound still.more
          still.ahead.1 still.ahead.0) ∙ still.is,
      c.in-Ok-None.ensures.reads tells p bound still.more still.ahead.0,
    )

pub returns-in-Ok-None-clause-begun : goal.returns-in-Ok-None-clause-begun
returns-in-Ok-None-clause-begun g c =
    prefix_trans c.args.out.now.items c.rows.out.items c.take_one.new.out.items
    c.rows.invariant.begun c.take_one.ensures.begun

pub returns-in-Err-clause-begun : goal.returns-in-Err-clause-begun
returns-in-Err-clause-begun g c =
    prefix_trans c.args.out.now.items c.rows.out.items c.take_one.new.out.items
    c.rows.invariant.begun c.take_one.ensures.begun

pub returns-in-Err-clause-undamaged : goal.returns-in-Err-clause-undamaged
returns-in-Err-clause-undamaged g c told rows held =
    c.in-Err.ensures.undamaged (tells_on (g.D.Disk.state c.args.disk.now)
    (g.D.Disk.state c.rows.disk) c.rows.invariant.goes told) rows
    (c.rows.invariant.holds told rows held)
