-- Step by step.
use Rattle.std.proofs.Common.{drop, subst, ◌∙◌, refl}
use Rattle.alt_compact.specs.Jobs.{StepSays}
use Rattle.alt_compact.specs.declared.job.Stepped.{Stepped}
use Rattle.alt_disk.specs.Disk.{DiskState, IsTrusted}
use Rattle.alt_disk.proofs.Calls.{goes_on, goes_refl}
use Rattle.alt_disk.proofs.Runs.{spans_on, trusted_back, trusted_on}
use Rattle.alt_layout.specs.Moments.{Has}
use Rattle.alt_hand.specs.Merging.{files_at}
use Rattle.alt_hand.proofs.CarryDrafts.{all_still, still_then}
use Rattle.alt_merging.specs.Mergings.{MergingStands}
use Rattle.alt_merging.proofs.StepLaws.{has_still}
use Rattle.alt_merging.proofs.merging.Merging.exhaust.Goals as goal

pub steps-init : goal.steps-init
steps-init g c =
    let a : DiskState = g.D.Disk.state c.args.disk.now in
    record {
      ok = λ trusted m stands. stands;
      merging = λ trusted. let given = c.requires trusted in (given.1, given.3);
      family = refl;
      taken = refl;
      file = refl;
      only = λ trusted f apart. refl;
      still = λ trusted other. all_still a (files_at c.args.hand.now other);
      spans = λ trusted m stands. has_still a c.args.hand.now m stands;
      goes = goes_refl a;
      well = refl;
    }

pub step-requires : goal.step-requires
step-requires g c told =
    let trusted = trusted_back (g.D.Disk.state c.args.disk.now) (g.D.Disk.state c.steps.disk)
    c.steps.invariant.goes told in
    let given = c.requires trusted in
    let now = c.steps.invariant.merging trusted in
    (given.0, now.0, c.steps.invariant.ok trusted given.0 given.2, now.1)

pub returns-in-Ok-Done-clause-ok : goal.returns-in-Ok-Done-clause-ok
returns-in-Ok-Done-clause-ok g c trusted l stands =
    let a : DiskState = g.D.Disk.state c.args.disk.now in
    let b : DiskState = g.D.Disk.state c.steps.disk in
    let told = trusted_on a b c.steps.invariant.goes trusted in
    let now = c.steps.invariant.merging trusted in
    c.step.ensures.ok told l (c.steps.invariant.ok trusted l stands) now.0 now.1

pub returns-in-Ok-Done-clause-still : goal.returns-in-Ok-Done-clause-still
returns-in-Ok-Done-clause-still g c trusted other =
    let a : DiskState = g.D.Disk.state c.args.disk.now in
    let b : DiskState = g.D.Disk.state c.steps.disk in
    let told = trusted_on a b c.steps.invariant.goes trusted in
    let now = c.steps.invariant.merging trusted in
    let given = c.requires trusted in
    still_then a b (g.D.Disk.state c.step.new.disk) (files_at c.args.hand.now other)
    (c.steps.invariant.still trusted other)
    (c.step.ensures.still told given.0 (c.steps.invariant.ok trusted given.0 given.2) now.0 now.1 other)

pub returns-in-Ok-Done-clause-any_moment : goal.returns-in-Ok-Done-clause-any_moment
returns-in-Ok-Done-clause-any_moment g c trusted l stands =
    let a : DiskState = g.D.Disk.state c.args.disk.now in
    let b : DiskState = g.D.Disk.state c.steps.disk in
    let told = trusted_on a b c.steps.invariant.goes trusted in
    let now = c.steps.invariant.merging trusted in
    spans_on a b (g.D.Disk.state c.step.new.disk) (λ x. Unit {0}) (Has l)
    (c.steps.invariant.spans trusted l stands)
    (c.step.ensures.any_moment told l (c.steps.invariant.ok trusted l stands) now.0 now.1)

pub returns-in-Err-clause-ok : goal.returns-in-Err-clause-ok
returns-in-Err-clause-ok g c trusted l stands =
    let a : DiskState = g.D.Disk.state c.args.disk.now in
    let b : DiskState = g.D.Disk.state c.steps.disk in
    let told = trusted_on a b c.steps.invariant.goes trusted in
    let now = c.steps.invariant.merging trusted in
    c.step.ensures.ok told l (c.steps.invariant.ok trusted l stands) now.0 now.1

pub returns-in-Err-clause-still : goal.returns-in-Err-clause-still
returns-in-Err-clause-still g c trusted other =
    let a : DiskState = g.D.Disk.state c.args.disk.now in
    let b : DiskState = g.D.Disk.state c.steps.disk in
    let told = trusted_on a b c.steps.invariant.goes trusted in
    let now = c.steps.invariant.merging trusted in
    let given = c.requires trusted in
    still_then a b (g.D.Disk.state c.step.new.disk) (files_at c.args.hand.now other)
    (c.steps.invariant.still trusted other)
    (c.step.ensures.still told given.0 (c.steps.invariant.ok trusted given.0 given.2) now.0 now.1 other)

pub returns-in-Err-clause-any_moment : goal.returns-in-Err-clause-any_moment
returns-in-Err-clause-any_moment g c trusted l stands =
    let a : DiskState = g.D.Disk.state c.args.disk.now in
    let b : DiskState = g.D.Disk.state c.steps.disk in
    let told = trusted_on a b c.steps.invariant.goes trusted in
    let now = c.steps.invariant.merging trusted in
    spans_on a b (g.D.Disk.state c.step.new.disk) (λ x. Unit {0}) (Has l)
    (c.steps.invariant.spans trusted l stands)
    (c.step.ensures.any_moment told l (c.steps.invariant.ok trusted l stands) now.0 now.1)

pub returns-in-Ok-Done-clause-all : goal.returns-in-Ok-Done-clause-all
returns-in-Ok-Done-clause-all g c trusted =
    let a : DiskState = g.D.Disk.state c.args.disk.now in
    let b : DiskState = g.D.Disk.state c.steps.disk in
    let told = trusted_on a b c.steps.invariant.goes trusted in
    let now = c.steps.invariant.merging trusted in
    let given = c.requires trusted in
    let at = c.in-Ok-Done.ensures.taken told given.0 (c.steps.invariant.ok trusted given.0 given.2) now.0
    now.1 in
    subst (MergingStands (g.D.Disk.state c.step.new.disk) c.args.hand.now c.step.new.self)
    (subst (λ (s : Stepped). StepSays s (drop 256 now.0)) c.in-Ok-Done.field-0-is at.1) at.0

pub returns-in-Err-clause-sound : goal.returns-in-Err-clause-sound
returns-in-Err-clause-sound g c trusted =
    let a : DiskState = g.D.Disk.state c.args.disk.now in
    let b : DiskState = g.D.Disk.state c.steps.disk in
    let told = trusted_on a b c.steps.invariant.goes trusted in
    let now = c.steps.invariant.merging trusted in
    c.in-Err.ensures.sound told now.0 now.1

pub steps-preserved : goal.steps-preserved
steps-preserved g c =
    let a : DiskState = g.D.Disk.state c.args.disk.now in
    let b : DiskState = g.D.Disk.state c.steps.disk in
    let d : DiskState = g.D.Disk.state c.step.new.disk in
    let before = c.steps.invariant in
    let told = λ (trusted : IsTrusted a). trusted_on a b before.goes trusted in
    record {
      ok = λ trusted m stands. let now = before.merging trusted in
          c.step.ensures.ok (told trusted) m (before.ok trusted m stands) now.0 now.1;
      merging = λ trusted. let now = before.merging trusted in let given = c.requires trusted in
          let at = c.in-Ok-More.ensures.taken (told trusted) given.0 (before.ok trusted given.0 given.2)
          now.0 now.1 in (drop 256 now.0, at.0);
      family = c.step.ensures.family ∙ before.family;
      taken = c.step.ensures.files ∙ before.taken;
      file = c.step.ensures.file ∙ before.file;
      only = λ trusted f apart. let now = before.merging trusted in
          c.step.ensures.only (told trusted) now.0 now.1 f (λ e. apart (e ∙ before.file))
          ∙ before.only trusted f apart;
      still = λ trusted other. let now = before.merging trusted in let given = c.requires trusted in
          still_then a b d (files_at c.args.hand.now other) (before.still trusted other)
          (c.step.ensures.still (told trusted) given.0 (before.ok trusted given.0 given.2) now.0 now.1
          other);
      spans = λ trusted m stands. let now = before.merging trusted in
          spans_on a b d (λ x. Unit {0}) (Has m) (before.spans trusted m stands)
          (c.step.ensures.any_moment (told trusted) m (before.ok trusted m stands) now.0 now.1);
      goes = goes_on a b d before.goes c.step.ensures.goes;
      well = c.in-Ok-More.ensures.well ∙ before.well;
    }

pub returns-in-Ok-Done-clause-only : goal.returns-in-Ok-Done-clause-only
returns-in-Ok-Done-clause-only g c trusted f apart =
    let told = trusted_on (g.D.Disk.state c.args.disk.now) (g.D.Disk.state c.steps.disk)
    c.steps.invariant.goes trusted in
    let now = c.steps.invariant.merging trusted in
    c.step.ensures.only told now.0 now.1 f (λ e. apart (e ∙ c.steps.invariant.file))
    ∙ c.steps.invariant.only trusted f apart

pub returns-in-Err-clause-only : goal.returns-in-Err-clause-only
returns-in-Err-clause-only g c trusted f apart =
    let told = trusted_on (g.D.Disk.state c.args.disk.now) (g.D.Disk.state c.steps.disk)
    c.steps.invariant.goes trusted in
    let now = c.steps.invariant.merging trusted in
    c.step.ensures.only told now.0 now.1 f (λ e. apart (e ∙ c.steps.invariant.file))
    ∙ c.steps.invariant.only trusted f apart
