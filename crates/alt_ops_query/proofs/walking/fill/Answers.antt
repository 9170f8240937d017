-- A step more was walked, or the last one.
use Rattle.std.proofs.Common.{◌≡◌, false, IfSome, subst, ℕ}
use Rattle.alt_disk.specs.Disk.{DiskState, IsTrusted}
use Rattle.alt_disk.proofs.Runs.{tells_of}
use Rattle.alt_machine.specs.Sources.{index_at}
use Rattle.alt_ops_query.specs.private.Filled.{Steps}
use Rattle.alt_ops_query.proofs.WalkLaws.{walk_ended, walk_on, walk_paid, walk_starts}
use Rattle.alt_paging.specs.Offered.{has_ended}
use Rattle.alt_request.proofs.TablesLooking.{only_nothing, only_then, ready_only}
use Rattle.alt_request.specs.TablesStands.{Reads}
use Rattle.alt_ops_query.proofs.walking.fill.Goals as goal

pub step-requires-clause-ready : goal.step-requires-clause-ready
step-requires-clause-ready g c = ready_only c.steps.invariant.only c.requires.ready

-- files that a call which only reads left are the same
same_files : (a b : DiskState) → Reads a b → IsTrusted a → (f : ℕ) → b.file f ≡ a.file f
same_files a b reads trusted = (reads.quiet (tells_of a trusted)).file

pub steps-init : goal.steps-init
steps-init g c = record {
  walked = λ s t ask stands at h. walk_starts (g.D.Disk.state c.args.disk.now) c.args.pager.now
      ask t (index_at t.description c.args.index) c.args.forward c.args.range h;
  only = only_nothing (g.D.Disk.state c.args.disk.now) c.args.tables.now;
  going = c.requires.going;
}

pub returns-in-Ok-None-clause-filled : goal.returns-in-Ok-None-clause-filled
returns-in-Ok-None-clause-filled g c s t ask stands at h =
    let a = g.D.Disk.state c.args.disk.now in
    let b = g.D.Disk.state c.steps.disk in
    let last = g.D.Disk.state c.step.new.disk in
    let i = index_at t.description c.args.index in
    let so = c.steps.invariant.walked s t ask stands at h in
    walk_ended a b last c.steps.pager c.step.new.pager ask t i c.args.forward c.args.range
    c.steps.range so
    (same_files a b c.steps.invariant.only.disk stands.rows.trusted)
    (subst (λ o. Steps b last t i c.args.forward ask so.seen c.step.new.pager c.steps.range o)
    c.in-Ok-None.field-0-is
    (c.in-Ok-None.ensures.steps s t ask so.seen ((c.steps.invariant.only.stays s).0 stands) at
    so.examined))

pub returns-in-Ok-None-clause-reads : goal.returns-in-Ok-None-clause-reads
returns-in-Ok-None-clause-reads g c s t ask maps stands at h =
    let a = g.D.Disk.state c.args.disk.now in
    let b = g.D.Disk.state c.steps.disk in
    let last = g.D.Disk.state c.step.new.disk in
    let i = index_at t.description c.args.index in
    let so = c.steps.invariant.walked s t ask stands at h in
    walk_paid a b last c.steps.pager c.step.new.pager ask t i c.args.forward c.args.range
    c.steps.range so
    (same_files a b c.steps.invariant.only.disk stands.rows.trusted)
    (subst (λ o. Steps b last t i c.args.forward ask so.seen c.step.new.pager c.steps.range o)
    c.in-Ok-None.field-0-is
    (c.in-Ok-None.ensures.steps s t ask so.seen ((c.steps.invariant.only.stays s).0 stands) at
    so.examined)) maps

pub steps-preserved : goal.steps-preserved
steps-preserved g c = record {
  walked = λ s t ask stands at h.
      let a = g.D.Disk.state c.args.disk.now in
      let b = g.D.Disk.state c.steps.disk in
      let last = g.D.Disk.state c.step.new.disk in
      let i = index_at t.description c.args.index in
      let so = c.steps.invariant.walked s t ask stands at h in
      walk_on a b last c.steps.pager c.step.new.pager ask t i c.args.forward c.args.range
      c.steps.range so (same_files a b c.steps.invariant.only.disk stands.rows.trusted)
      c.in-Ok-Some.rest
      (subst (λ o. Steps b last t i c.args.forward ask so.seen c.step.new.pager c.steps.range o)
      c.in-Ok-Some.field-0-is
      (c.in-Ok-Some.ensures.steps s t ask so.seen ((c.steps.invariant.only.stays s).0 stands) at
      so.examined));
  only = only_then c.steps.invariant.only c.step.ensures.only;
  going = subst (λ o. IfSome o (λ r. has_ended c.step.new.pager ≡ false))
      c.in-Ok-Some.field-0-is c.in-Ok-Some.ensures.going;
}

pub returns-in-Err-clause-fault : goal.returns-in-Err-clause-fault
returns-in-Err-clause-fault g c s t ask stands at h =
    let so = c.steps.invariant.walked s t ask stands at h in
    c.in-Err.ensures.fault s t ask so.seen ((c.steps.invariant.only.stays s).0 stands) at so.examined

pub returns-in-Ok-None-clause-only : goal.returns-in-Ok-None-clause-only
returns-in-Ok-None-clause-only g c = only_then c.steps.invariant.only c.step.ensures.only

pub returns-in-Err-clause-only : goal.returns-in-Err-clause-only
returns-in-Err-clause-only g c = only_then c.steps.invariant.only c.step.ensures.only
