-- One file more.
use Rattle.std.proofs.Common.{ℕ, List, IsTrue, get_or, refl, sym, subst, ◌∙◌, arith}
use Rattle.alt_base.specs.Counts.{Rose}
use Rattle.alt_disk.specs.Disk.{DiskState}
use Rattle.alt_disk.proofs.Calls.{goes_on, goes_refl}
use Rattle.alt_disk.proofs.Runs.{trusted_on, tells_of}
use Rattle.alt_hand.proofs.SyncLaws.{narrows_start, narrows_sync, synced_none, synced_more, synced_all}
use Rattle.alt_hand.proofs.sync.sync_files.Goals as goal

pub loop-f-init : goal.loop-f-init
loop-f-init g c =
    let a : DiskState = g.D.Disk.state c.args.disk.now in
    record {
      goes = goes_refl a;
      well = refl;
      files = λ told f. refl;
      narrows = λ trusted. narrows_start a;
      done = λ trusted. synced_none a c.args.list.now;
    }

pub loop-f-preserved : goal.loop-f-preserved
loop-f-preserved g c =
    let a : DiskState = g.D.Disk.state c.args.disk.now in
    let b : DiskState = g.D.Disk.state c.loop-f.disk in
    let d : DiskState = g.D.Disk.state c.sync.new.self in
    let list : List ℕ = c.args.list.now in
    let inv = c.loop-f.invariant in
    let call = c.in-Ok.ensures.call.call in
    record {
      goes = goes_on a b d inv.goes call.goes;
      well = call.well refl ∙ inv.well;
      files = λ told f. c.sync.ensures.same (subst (λ v. IsTrue v) (sym inv.goes.tells) told) f
          ∙ inv.files told f;
      narrows = λ trusted. narrows_sync a b d (get_or list c.loop-f.f-index 0) _
          (inv.narrows trusted) call (c.in-Ok.ensures.synced (trusted_on a b inv.goes trusted));
      done = λ trusted. let still = trusted_on a b inv.goes trusted in
          synced_more b d list c.loop-f.f-index (get_or list c.loop-f.f-index 0)
          c.loop-f-test.true refl (inv.done trusted) (c.sync.ensures.same (tells_of b still))
          (c.in-Ok.ensures.synced still);
    }

pub returns-in-Err : goal.returns-in-Err
returns-in-Err g c =
    let a : DiskState = g.D.Disk.state c.args.disk.now in
    let b : DiskState = g.D.Disk.state c.loop-f.disk in
    let d : DiskState = g.D.Disk.state c.sync.new.self in
    let inv = c.loop-f.invariant in
    let call = c.in-Err.ensures.call.call in
    record {
      synced = tt;
      files = λ told f. c.sync.ensures.same (subst (λ v. IsTrue v) (sym inv.goes.tells) told) f
          ∙ inv.files told f;
      any_moment = λ trusted. narrows_sync a b d (get_or c.args.list.now c.loop-f.f-index 0) _
          (inv.narrows trusted) call (c.in-Err.ensures.synced (trusted_on a b inv.goes trusted));
      goes = goes_on a b d inv.goes call.goes;
      cause = subst (λ (n : ℕ). Rose n d.faults) inv.well (call.cause refl);
      well = tt;
    }

pub returns : goal.returns
returns g c =
    let inv = c.loop-f.invariant in
    record {
      synced = λ trusted. synced_all (g.D.Disk.state c.loop-f.disk) c.args.list.now
          c.loop-f.f-index (omega (arith, c.loop-f-test.false)) (inv.done trusted);
      files = inv.files;
      any_moment = inv.narrows;
      goes = inv.goes;
      cause = tt;
      well = inv.well;
    }
