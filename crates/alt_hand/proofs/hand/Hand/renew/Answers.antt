-- The segment that was prepared, or none.
use Rattle.std.proofs.Common.{refl, sym, ap, subst, arith}
use Rattle.std.proofs.lemmas.Result.{on_ok_weaker}
use Rattle.alt_disk.specs.Disk.{DiskState}
use Rattle.alt_flush.specs.Drafts.{From, renumbered, with_segment}
use Rattle.alt_flush.proofs.RemoveLaws.{none_removed}
use Rattle.alt_gatelog.specs.InHand.{IsFramed}
use Rattle.alt_gatelog.specs.declared.form.Form.{Form}
use Rattle.alt_manifest.specs.Versions.{version_bytes}
use Rattle.alt_manifest.specs.declared.version.Version.{Version}
use Rattle.alt_hand.specs.Adding.{IsBehind, IsSegmentMore}
use Rattle.alt_hand.specs.Drafting.{IsPrepared, with_memory_rows}
use Rattle.alt_hand.specs.InHand.{files_made}
use Rattle.alt_hand.specs.Merging.{version_in}
use Rattle.alt_hand.proofs.CarryLaws.{carries_none}
use Rattle.alt_hand.proofs.RenewLaws.{keeping}
use Rattle.alt_hand.proofs.hand.Hand.renew.Goals as goal

pub add_segment-requires-clause-draft : goal.add_segment-requires-clause-draft
add_segment-requires-clause-draft g c =
    (subst (IsPrepared c.args.self.now) c.in-Some.is c.requires.prepared).3

pub add_segment-requires-clause-framed : goal.add_segment-requires-clause-framed
add_segment-requires-clause-framed g c =
    let e = c.args.self.now in
    let prepared = subst (IsPrepared e) c.in-Some.is c.requires.prepared in
    subst (λ b. IsFramed b (version_bytes (with_segment
    (renumbered (version_in e) e.next_file e.next)))) (sym c.as_slice.ensures.value)
    (subst (λ (v : Version). IsFramed c.in-Some.field-0.block.items (version_bytes v))
    prepared.3 prepared.4)

pub add_segment-requires-clause-room : goal.add_segment-requires-clause-room
add_segment-requires-clause-room g c =
    (subst (IsPrepared c.args.self.now) c.in-Some.is c.requires.prepared).2

pub add_segment-requires-clause-file : goal.add_segment-requires-clause-file
add_segment-requires-clause-file g c =
    (subst (IsPrepared c.args.self.now) c.in-Some.is c.requires.prepared).1

pub returns-in-Some-clause-segment : goal.returns-in-Some-clause-segment
returns-in-Some-clause-segment g c = on_ok_weaker c.add_segment.result
    (λ (more : IsSegmentMore c.args.self.now c.add_segment.new.self).
    subst (λ (x : Form). IsBehind x c.args.self.now c.add_segment.new.self)
    (sym (subst (IsPrepared c.args.self.now) c.in-Some.is c.requires.prepared).0) more)
    c.add_segment.ensures.segment

pub returns-in-Some-clause-most : goal.returns-in-Some-clause-most
returns-in-Some-clause-most g c =
    let made = ap files_made (subst (IsPrepared c.args.self.now) c.in-Some.is c.requires.prepared).0 in
    omega (arith, made, c.add_segment.ensures.most)

pub returns-in-Some-clause-given : goal.returns-in-Some-clause-given
returns-in-Some-clause-given g c =
    c.add_segment.ensures.given (subst (IsPrepared c.args.self.now) c.in-Some.is c.requires.prepared).0

pub returns-in-None-clause-room : goal.returns-in-None-clause-room
returns-in-None-clause-room g c =
    (subst (IsPrepared c.args.self.now) c.in-None.is c.requires.prepared).1

pub returns-in-None-clause-segment : goal.returns-in-None-clause-segment
returns-in-None-clause-segment g c =
    let two = (subst (IsPrepared c.args.self.now) c.in-None.is c.requires.prepared).0 in
    subst (λ (x : Form). IsBehind x c.args.self.now c.args.self.now) (sym two) (refl, refl, refl, two)

pub returns-in-None-clause-carries : goal.returns-in-None-clause-carries
returns-in-None-clause-carries g c trusted families full l stands family =
    carries_none (g.D.Disk.state c.args.disk.now) (with_memory_rows c.args.self.now families full) family

pub returns-in-None-clause-any_moment : goal.returns-in-None-clause-any_moment
returns-in-None-clause-any_moment g c trusted families full l stands =
    let a : DiskState = g.D.Disk.state c.args.disk.now in
    let e = with_memory_rows c.args.self.now families full in
    keeping a a e l stands (none_removed a (From e.next_file))
