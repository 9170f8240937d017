-- Batches are an entry of the last segment, and their rows are in memory before.
use Rattle.std.proofs.Common.{◌+◌, ℕ, List, length, min, refl, ap, subst, sym, ◌∙◌}
use Rattle.alt_memtable.specs.Rows.{most_bytes}
use Rattle.alt_disk.specs.Disk.{DiskState}
use Rattle.alt_disk.proofs.Runs.{trusted_back, trusted_on}
use Rattle.alt_gatelog.specs.InHand.{IsFramed, form_of}
use Rattle.alt_hand.specs.Drafting.{with_memory_rows}
use Rattle.alt_hand.specs.InHand.{HandStandsForLayout}
use Rattle.alt_hand.specs.Merging.{files_at}
use Rattle.alt_hand.specs.declared.hand.Hand.{Hand}
use Rattle.alt_hand.proofs.ApplyLaws.{applied, applied_carries, at_rest, behind_on, behind_two, entry_is, kept, log_stands, stands_prepared, write_moments}
use Rattle.alt_hand.proofs.CarryLaws.{carries_on, carries_prepared}
use Rattle.alt_drafts.proofs.FullLaws.{still_below}
use Rattle.alt_hand.proofs.hand.Hand.write.Goals as goal

pub returns-in_err-group-clause-any_moment : goal.returns-in_err-group-clause-any_moment
returns-in_err-group-clause-any_moment g c trusted l stands =
    at_rest (g.D.Disk.state c.args.disk.now) c.args.self.now l c.args.batches.now stands

pub returns-in_err-entry-clause-any_moment : goal.returns-in_err-entry-clause-any_moment
returns-in_err-entry-clause-any_moment g c trusted l stands =
    at_rest (g.D.Disk.state c.args.disk.now) c.args.self.now l c.args.batches.now stands

pub returns-in_err-renewal-clause-any_moment : goal.returns-in_err-renewal-clause-any_moment
returns-in_err-renewal-clause-any_moment g c trusted l stands =
    at_rest (g.D.Disk.state c.args.disk.now) c.args.self.now l c.args.batches.now stands

pub returns-in_err-put_batches-clause-any_moment :
    goal.returns-in_err-put_batches-clause-any_moment
returns-in_err-put_batches-clause-any_moment g c trusted l stands =
    at_rest (g.D.Disk.state c.args.disk.now) c.args.self.now l c.args.batches.now stands

pub renew-requires-clause-stands : goal.renew-requires-clause-stands
renew-requires-clause-stands g c trusted =
    let given = c.requires.stands trusted in
    let f = c.prepare.new.self in (
      f.families,
      f.full,
      given.0,
      stands_prepared (g.D.Disk.state c.args.disk.now) c.args.self.now f
          given.0 c.prepare.ensures.same given.1,
    )

pub add-requires-clause-reads : goal.add-requires-clause-reads
add-requires-clause-reads g c at_end =
    let a : DiskState = g.D.Disk.state c.args.disk.now in
    let f = c.prepare.new.self in
    let trusted = trusted_back a (g.D.Disk.state c.renew.new.disk) c.renew.ensures.goes at_end in
    let given = c.requires.stands trusted in
    let last : HandStandsForLayout (g.D.Disk.state c.renew.new.disk) (with_memory_rows c.renew.new.self f.families f.full)
    given.0 = c.in_ok-renew.ensures.ok trusted f.families f.full given.0
    (stands_prepared a c.args.self.now f given.0 c.prepare.ensures.same given.1) in
    (last.reads.log.entries, last.reads.log.reads)

pub returns-in_err-renew-clause-any_moment : goal.returns-in_err-renew-clause-any_moment
returns-in_err-renew-clause-any_moment g c trusted l stands =
    let a : DiskState = g.D.Disk.state c.args.disk.now in
    let f = c.prepare.new.self in
    kept a (g.D.Disk.state c.renew.new.disk) l c.args.batches.now
    (c.renew.ensures.any_moment trusted f.families f.full l
    (stands_prepared a c.args.self.now f l c.prepare.ensures.same stands))

pub returns-in-Err-clause-any_moment : goal.returns-in-Err-clause-any_moment
returns-in-Err-clause-any_moment g c trusted l stands =
    let a : DiskState = g.D.Disk.state c.args.disk.now in
    let b : DiskState = g.D.Disk.state c.renew.new.disk in
    let d : DiskState = g.D.Disk.state c.add.new.disk in
    let f = c.prepare.new.self in
    let k = c.renew.new.self in
    let group = c.in_ok-group.group.items in
    let told = trusted_on a b c.renew.ensures.goes trusted in
    let first = stands_prepared a c.args.self.now f l c.prepare.ensures.same stands in
    let last : HandStandsForLayout b (with_memory_rows k f.families f.full) l =
    c.in_ok-renew.ensures.ok trusted f.families f.full l first in
    let entry = entry_is (form_of k.log) group c.args.self.now.next l.next_number c.args.batches.now
    (behind_two (form_of f.log) (with_memory_rows f c.put_batches.new.families c.full_after-self.result) k
    c.in_ok-renew.ensures.segment) stands.reads.next c.in_ok-group.ensures.bytes
    c.in_ok-group.ensures.held in
    let framed : IsFramed c.as_slice-2.result.now group =
    subst (λ (x : List ℕ). IsFramed x group) (sym c.as_slice-2.ensures.value)
    (subst (IsFramed c.in_ok-entry.entry.items) c.as_slice.ensures.value c.in_ok-entry.ensures) in
    let run = c.add.ensures.any_moment told last.reads.log.entries group framed
    (log_stands b (with_memory_rows k f.families f.full) l last) in
    let keeps = c.renew.ensures.any_moment trusted f.families f.full l first in
    write_moments a b d f k l c.args.batches.now c.put_batches.new.families c.full_after-self.result
    first last keeps c.renew.ensures.others group entry run

pub returns-clause-any_moment : goal.returns-clause-any_moment
returns-clause-any_moment g c trusted l stands =
    let a : DiskState = g.D.Disk.state c.args.disk.now in
    let b : DiskState = g.D.Disk.state c.renew.new.disk in
    let d : DiskState = g.D.Disk.state c.add.new.disk in
    let f = c.prepare.new.self in
    let k = c.renew.new.self in
    let group = c.in_ok-group.group.items in
    let told = trusted_on a b c.renew.ensures.goes trusted in
    let first = stands_prepared a c.args.self.now f l c.prepare.ensures.same stands in
    let last : HandStandsForLayout b (with_memory_rows k f.families f.full) l =
    c.in_ok-renew.ensures.ok trusted f.families f.full l first in
    let entry = entry_is (form_of k.log) group c.args.self.now.next l.next_number c.args.batches.now
    (behind_two (form_of f.log) (with_memory_rows f c.put_batches.new.families c.full_after-self.result) k
    c.in_ok-renew.ensures.segment) stands.reads.next c.in_ok-group.ensures.bytes
    c.in_ok-group.ensures.held in
    let framed : IsFramed c.as_slice-2.result.now group =
    subst (λ (x : List ℕ). IsFramed x group) (sym c.as_slice-2.ensures.value)
    (subst (IsFramed c.in_ok-entry.entry.items) c.as_slice.ensures.value c.in_ok-entry.ensures) in
    let run = c.add.ensures.any_moment told last.reads.log.entries group framed
    (log_stands b (with_memory_rows k f.families f.full) l last) in
    let keeps = c.renew.ensures.any_moment trusted f.families f.full l first in
    write_moments a b d f k l c.args.batches.now c.put_batches.new.families c.full_after-self.result
    first last keeps c.renew.ensures.others group entry run

pub returns-clause-ok : goal.returns-clause-ok
returns-clause-ok g c trusted l stands =
    let a : DiskState = g.D.Disk.state c.args.disk.now in
    let b : DiskState = g.D.Disk.state c.renew.new.disk in
    let d : DiskState = g.D.Disk.state c.add.new.disk in
    let f = c.prepare.new.self in
    let k = c.renew.new.self in
    let group = c.in_ok-group.group.items in
    let told = trusted_on a b c.renew.ensures.goes trusted in
    let first = stands_prepared a c.args.self.now f l c.prepare.ensures.same stands in
    let last : HandStandsForLayout b (with_memory_rows k f.families f.full) l =
    c.in_ok-renew.ensures.ok trusted f.families f.full l first in
    let entry = entry_is (form_of k.log) group c.args.self.now.next l.next_number c.args.batches.now
    (behind_two (form_of f.log) (with_memory_rows f c.put_batches.new.families c.full_after-self.result) k
    c.in_ok-renew.ensures.segment) stands.reads.next c.in_ok-group.ensures.bytes
    c.in_ok-group.ensures.held in
    let framed : IsFramed c.as_slice-2.result.now group =
    subst (λ (x : List ℕ). IsFramed x group) (sym c.as_slice-2.ensures.value)
    (subst (IsFramed c.in_ok-entry.entry.items) c.as_slice.ensures.value c.in_ok-entry.ensures) in
    let run = c.add.ensures.any_moment told last.reads.log.entries group framed
    (log_stands b (with_memory_rows k f.families f.full) l last) in
    let keeps = c.renew.ensures.any_moment trusted f.families f.full l first in
    applied a b d f k l c.args.batches.now c.put_batches.new.families c.full_after-self.result first
    last keeps c.renew.ensures.others group entry run c.add.new.self c.with_more-self.result
    (k.next + length c.args.batches.now) c.add.ensures.file c.add.ensures.form
    (c.in-Ok.ensures.ok told last.reads.log.entries group framed last.reads.log.reads)
    (c.with_more-self.ensures ∙ ap (λ n. min (k.length + n) most_bytes) (c.len.ensures
    ∙ sym c.as_slice.ensures.len ∙ ap (λ (x : List ℕ). length x) c.as_slice.ensures.value)) refl
    c.in_ok-put_batches.ensures.written
    (still_below f.families c.put_batches.new.families f.limits.flush f.full c.args.batches.now
    c.full_after-self.result first.reads.calm c.in_ok-put_batches.ensures.others
    c.full_after-self.ensures.before c.full_after-self.ensures.changed)

pub returns-clause-carries : goal.returns-clause-carries
returns-clause-carries g c trusted l stands family =
    let a : DiskState = g.D.Disk.state c.args.disk.now in
    let b : DiskState = g.D.Disk.state c.renew.new.disk in
    let d : DiskState = g.D.Disk.state c.add.new.disk in
    let f = c.prepare.new.self in
    let k = c.renew.new.self in
    let group = c.in_ok-group.group.items in
    let told = trusted_on a b c.renew.ensures.goes trusted in
    let first = stands_prepared a c.args.self.now f l c.prepare.ensures.same stands in
    let last : HandStandsForLayout b (with_memory_rows k f.families f.full) l =
    c.in_ok-renew.ensures.ok trusted f.families f.full l first in
    let entry = entry_is (form_of k.log) group c.args.self.now.next l.next_number c.args.batches.now
    (behind_two (form_of f.log) (with_memory_rows f c.put_batches.new.families c.full_after-self.result) k
    c.in_ok-renew.ensures.segment) stands.reads.next c.in_ok-group.ensures.bytes
    c.in_ok-group.ensures.held in
    let framed : IsFramed c.as_slice-2.result.now group =
    subst (λ (x : List ℕ). IsFramed x group) (sym c.as_slice-2.ensures.value)
    (subst (IsFramed c.in_ok-entry.entry.items) c.as_slice.ensures.value c.in_ok-entry.ensures) in
    let run = c.add.ensures.any_moment told last.reads.log.entries group framed
    (log_stands b (with_memory_rows k f.families f.full) l last) in
    let keeps = c.renew.ensures.any_moment trusted f.families f.full l first in
    carries_on a a d c.args.self.now f (record k {
      log = c.add.new.self;
      length = c.with_more-self.result;
      next = k.next + length c.args.batches.now;
    }) family (carries_prepared a c.args.self.now f family c.prepare.ensures.same)
    (applied_carries a b d f k l c.args.batches.now c.put_batches.new.families
    c.full_after-self.result first last keeps c.renew.ensures.others group entry run c.add.new.self
    c.with_more-self.result (k.next + length c.args.batches.now) c.add.ensures.file c.add.ensures.form
    (c.in-Ok.ensures.ok told last.reads.log.entries group framed last.reads.log.reads)
    (c.with_more-self.ensures ∙ ap (λ n. min (k.length + n) most_bytes) (c.len.ensures
    ∙ sym c.as_slice.ensures.len ∙ ap (λ (x : List ℕ). length x) c.as_slice.ensures.value)) refl
    c.in_ok-put_batches.ensures.written
    (still_below f.families c.put_batches.new.families f.limits.flush f.full c.args.batches.now
    c.full_after-self.result first.reads.calm c.in_ok-put_batches.ensures.others
    c.full_after-self.ensures.before c.full_after-self.ensures.changed) family
    (c.in_ok-renew.ensures.carries trusted f.families f.full l first family))

pub returns-clause-segment : goal.returns-clause-segment
returns-clause-segment g c =
    let f = c.prepare.new.self in
    let k = c.renew.new.self in
    behind_on c.args.self.now f k (record k {
      log = c.add.new.self;
      length = c.with_more-self.result;
      next = k.next + length c.args.batches.now;
    }) c.prepare.ensures.same (with_memory_rows f c.put_batches.new.families c.full_after-self.result)
    refl refl refl refl refl refl refl c.add.ensures.file c.add.ensures.form
    c.in_ok-renew.ensures.segment

pub returns-clause-files : goal.returns-clause-files
returns-clause-files g c family =
    ap (λ (h : Hand). files_at h family) c.renew.ensures.others
    ∙ c.in_ok-put_batches.ensures.written.files family
    ∙ ap (λ (h : Hand). files_at h family) c.prepare.ensures.same.others
