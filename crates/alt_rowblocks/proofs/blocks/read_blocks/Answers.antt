-- One block more, or none that could be the next.
use Rattle.std.proofs.Common.{◌∙◌, refl, ap, subst, arith, take, drop, length, List, ℕ, IsTrue}
use Rattle.alt_base.proofs.Options.{ok_is_no_error}
use Rattle.alt_disk.specs.Disk.{DiskState, contents}
use Rattle.alt_disk.specs.declared.disk.DiskFault.TheVariants.{Failed}
use Rattle.alt_disk.proofs.Calls.{goes_refl, goes_on}
use Rattle.alt_disk.proofs.Runs.{quiet_start, quiet_then}
use Rattle.alt_disk.proofs.Staying.{tells_on}
use Rattle.alt_rowblocks.specs.Format.{Entry}
use Rattle.alt_rowblocks.specs.Blocks.{BeginsWithNextBlock, IsReadBlock}
use Rattle.alt_rowblocks.proofs.BlockRuns.{no_blocks_yet, one_block_more, no_more_blocks}
use Rattle.alt_rowblocks.proofs.StreamLaws.{same_bytes, length_up_to}
use Rattle.alt_rowblocks.proofs.blocks.read_blocks.Goals as goal

pub each-init : goal.each-init
each-init g c = record {
  within = c.requires;
  few = omega arith;
  well = refl;
  goes = goes_refl (g.D.Disk.state c.args.disk.now);
  quiet = λ told. quiet_start (g.D.Disk.state c.args.disk.now);
  read = λ told room. no_blocks_yet
      (drop 8 (take c.args.end (contents (g.D.Disk.state c.args.disk.now) c.args.f)))
      c.new-marks.result.items c.new-summary.result c.new-filters.result.items
      c.new-marks.ensures.items c.new-summary.ensures c.new-filters.ensures.items;
}

pub each-preserved : goal.each-preserved
each-preserved g c =
    let a : DiskState = g.D.Disk.state c.args.disk.now in
    let b : DiskState = g.D.Disk.state c.each.disk in
    let d : DiskState = g.D.Disk.state c.next_block.new.disk in
    let f = c.args.f in
    let at = c.each.at in
    let end = c.args.end in
    let next = c.in-Some.next in
    let inv = c.each.invariant in
    let place = rw c.in-Some.is at c.in_ok-read.ensures.place in
    let told_b = λ (told : IsTrue a.tells). tells_on a b inv.goes told in
    record {
      within = place.1;
      few = omega (arith, place.0, inv.few);
      well = c.in_ok-read.ensures.well (ok_is_no_error c.in_ok-read.field-0 Failed) ∙ inv.well;
      goes = goes_on a b d inv.goes c.next_block.ensures.goes;
      quiet = λ told. quiet_then a b d (inv.quiet told) (c.next_block.ensures.quiet (told_b told));
      read = λ told room.
          let bytes = contents a f in
          let same = same_bytes a b f (inv.quiet told) in
          let found = rw c.in-Some.is at
          (c.in_ok-read.ensures.some (told_b told) (omega (arith, room, ap length same))) in
          let p = subst (λ (l : List ℕ). (x : List Entry)
          × BeginsWithNextBlock c.each.after (drop at (take end l)) (drop next (take end l)) x
          × IsReadBlock c.in-Some.read.first c.in-Some.read.last c.in-Some.read.rows c.in-Some.read.summary
          c.in-Some.read.filter x)
          same found in
          let long = length_up_to bytes at end room in
          let left = length_up_to bytes next end room in
          one_block_more (drop 8 (take end bytes)) (drop at (take end bytes))
          (drop next (take end bytes))
          at next c.each.after c.each.marks.items c.push.new.self.items c.each.rows
          c.in-Some.read.rows c.each.summary c.in-Some.read.summary c.join.new.self
          c.each.filters.items c.push-in-Some.new.self.items c.in-Some.read.filter
          c.in-Some.read.first c.in-Some.read.last p.0 (inv.read told room)
          (omega (arith, long, c.each-test.true)) p.1 p.2
          (omega (arith, long, left, place.0, place.1)) c.in_ok-push-in-Some.ensures.items
          c.join.ensures c.in_ok-push-in-Some-2.ensures.items;
    }

pub returns-in-None-clause-none : goal.returns-in-None-clause-none
returns-in-None-clause-none g c = λ told room.
    let a : DiskState = g.D.Disk.state c.args.disk.now in
    let b : DiskState = g.D.Disk.state c.each.disk in
    let f = c.args.f in
    let at = c.each.at in
    let end = c.args.end in
    let inv = c.each.invariant in
    let bytes = contents a f in
    let same = same_bytes a b f (inv.quiet told) in
    let none = rw c.in-None.is at
    (c.in_ok-read.ensures.none (tells_on a b inv.goes told)
    (omega (arith, room, ap length same))) in
    no_more_blocks (drop 8 (take end bytes))
    (drop at (take end bytes)) at c.each.after c.each.marks.items c.each.rows
    (inv.read told room) (omega (arith, length_up_to bytes at end room, c.each-test.true))
    (subst (λ (l : List ℕ). (x : List Entry) (behind : List ℕ)
    → BeginsWithNextBlock c.each.after (drop at (take end l)) behind x → ⊥) same none)
