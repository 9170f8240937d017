-- The frame and the memory, and then the calls of the disk.
use Rattle.std.proofs.Common.{◌≡◌, ℕ, List, Some, ap, subst, sym, ◌∙◌}
use Rattle.alt_disk.specs.Disk.{DiskState}
use Rattle.alt_disk.specs.Runs.{Run}
use Rattle.alt_gatelog.specs.InHand.{IsFramed, SameLog}
use Rattle.alt_gatelog.specs.Log.{BeforeOrAfter, log_after}
use Rattle.alt_gatelog.specs.declared.form.Form.{Form}
use Rattle.alt_gatelog.specs.declared.gatelog.GateLog.{GateLog}
use Rattle.alt_gatelog.proofs.Elsewhere.{reads_same, rest-same, stands_same_log}
use Rattle.alt_gatelog.proofs.gatelog.GateLog.append.Goals as goal

-- the slice of a frame is one
framed_by : (block out entry : List ℕ) → out ≡ block → IsFramed block entry → IsFramed out entry
framed_by block out entry same framed = subst (λ (b : List ℕ). IsFramed b entry) (sym same) framed

-- the moments of an append to the same log
run_same : (a b : DiskState) (old new : GateLog) (entries : List (List ℕ)) (entry : List ℕ)
    → SameLog old new → Run a b new.file (BeforeOrAfter new.form entries entry)
    → Run a b old.file (BeforeOrAfter old.form entries entry)
run_same a b old new entries entry same run =
    subst (λ (f : ℕ). Run a b f (BeforeOrAfter old.form entries entry)) same.file
    (subst (λ (form : Form). Run a b new.file (BeforeOrAfter form entries entry)) same.form run)

pub add-requires-clause-reads : goal.add-requires-clause-reads
add-requires-clause-reads g c trusted =
    let given = c.requires trusted in (
      given.0,
      reads_same (g.D.Disk.state c.args.disk.now) c.args.self.now c.reserve.new.self given.0
          c.reserve.ensures.same given.1,
    )

pub returns-in_err-add-clause-any_moment : goal.returns-in_err-add-clause-any_moment
returns-in_err-add-clause-any_moment g c trusted entries stands =
    let a : DiskState = g.D.Disk.state c.args.disk.now in
    run_same a (g.D.Disk.state c.add.new.disk) c.args.self.now c.reserve.new.self entries
    c.args.bytes.now c.reserve.ensures.same (c.add.ensures.any_moment trusted entries c.args.bytes.now
    (framed_by c.in_ok-block.block.items c.as_slice.result.now c.args.bytes.now
    c.as_slice.ensures.value c.in_ok-block.ensures)
    (stands_same_log a c.args.self.now c.reserve.new.self entries c.reserve.ensures.same stands))

pub returns-clause-any_moment : goal.returns-clause-any_moment
returns-clause-any_moment g c trusted entries stands =
    let a : DiskState = g.D.Disk.state c.args.disk.now in
    run_same a (g.D.Disk.state c.add.new.disk) c.args.self.now c.reserve.new.self entries
    c.args.bytes.now c.reserve.ensures.same (c.add.ensures.any_moment trusted entries c.args.bytes.now
    (framed_by c.in_ok-block.block.items c.as_slice.result.now c.args.bytes.now
    c.as_slice.ensures.value c.in_ok-block.ensures)
    (stands_same_log a c.args.self.now c.reserve.new.self entries c.reserve.ensures.same stands))

pub returns-clause-ok : goal.returns-clause-ok
returns-clause-ok g c trusted entries reads =
    c.in_ok-add.ensures.ok trusted entries c.args.bytes.now
    (framed_by c.in_ok-block.block.items c.as_slice.result.now c.args.bytes.now
    c.as_slice.ensures.value c.in_ok-block.ensures)
    (reads_same (g.D.Disk.state c.args.disk.now) c.args.self.now c.reserve.new.self entries
    c.reserve.ensures.same reads)

pub returns-clause-bytes : goal.returns-clause-bytes
returns-clause-bytes g c trusted entries reads =
    let same = c.reserve.ensures.same in
    ap (g.D.Disk.state c.add.new.disk).file (sym same.file)
    ∙ c.in_ok-add.ensures.bytes trusted entries c.args.bytes.now
    (framed_by c.in_ok-block.block.items c.as_slice.result.now c.args.bytes.now
    c.as_slice.ensures.value c.in_ok-block.ensures)
    (reads_same (g.D.Disk.state c.args.disk.now) c.args.self.now c.reserve.new.self entries same reads)
    ∙ (λ i. Some (log_after (same.form i) entries c.args.bytes.now
    (rest-same (g.D.Disk.state c.args.disk.now) c.args.self.now c.reserve.new.self entries same
    reads i)))
