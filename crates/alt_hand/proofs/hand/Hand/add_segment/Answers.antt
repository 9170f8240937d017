-- A segment more, and then the version that names it, whatever rows are in memory.
use Rattle.std.proofs.Common.{ap, subst, sym, ◌∙◌, arith}
use Rattle.alt_disk.specs.Disk.{DiskState}
use Rattle.alt_disk.proofs.Runs.{run_spans, trusted_back, trusted_on}
use Rattle.alt_flush.specs.Drafts.{From}
use Rattle.alt_gatelog.specs.InHand.{IsFramed}
use Rattle.alt_manifest.specs.Versions.{version_bytes}
use Rattle.alt_manifest.specs.declared.version.Version.{Version}
use Rattle.alt_hand.specs.Drafting.{with_memory_rows}
use Rattle.alt_hand.specs.InHand.{files_made}
use Rattle.alt_hand.proofs.RenewLaws.{keeping, ready_by, renew_carries, renew_images, renewed}
use Rattle.alt_hand.proofs.hand.Hand.add_segment.Goals as goal

pub make-requires : goal.make-requires
make-requires g c trusted =
    let given = c.requires.stands trusted in
    given.3.reads.fresh c.args.self.now.next_file (omega arith)

pub add-requires-clause-reads : goal.add-requires-clause-reads
add-requires-clause-reads g c at_end =
    let a : DiskState = g.D.Disk.state c.args.disk.now in
    let d : DiskState = g.D.Disk.state c.make.new.disk in
    let trusted = trusted_back a d c.in_ok-log.ensures.goes at_end in
    let given = c.requires.stands trusted in
    (ready_by a d (with_memory_rows c.args.self.now given.0 given.1) given.2 given.3 c.args.draft
    c.requires.draft c.in_ok-log.log (omega (arith, c.requires.file))
    (c.in_ok-log.ensures.any_moment trusted) c.in_ok-log.ensures.file
    (c.in_ok-log.ensures.made trusted)).manifest.reads

pub add-requires-clause-version : goal.add-requires-clause-version
add-requires-clause-version g c at_end =
    let a : DiskState = g.D.Disk.state c.args.disk.now in
    let d : DiskState = g.D.Disk.state c.make.new.disk in
    let trusted = trusted_back a d c.in_ok-log.ensures.goes at_end in
    let given = c.requires.stands trusted in
    (ready_by a d (with_memory_rows c.args.self.now given.0 given.1) given.2 given.3 c.args.draft
    c.requires.draft c.in_ok-log.log (omega (arith, c.requires.file))
    (c.in_ok-log.ensures.any_moment trusted) c.in_ok-log.ensures.file
    (c.in_ok-log.ensures.made trusted)).makes.drafted.is

pub add-requires-clause-framed : goal.add-requires-clause-framed
add-requires-clause-framed g c =
    subst (λ (v : Version). IsFramed c.args.block.now (version_bytes v)) (sym c.requires.draft)
    c.requires.framed

pub returns-in_err-log-clause-any_moment : goal.returns-in_err-log-clause-any_moment
returns-in_err-log-clause-any_moment g c trusted families full l stands =
    let a : DiskState = g.D.Disk.state c.args.disk.now in
    let b : DiskState = g.D.Disk.state c.make.new.disk in
    let e = with_memory_rows c.args.self.now families full in
    keeping a b e l stands (run_spans a b e.next_file (λ t left. Unit {0}) (From e.next_file)
    (λ t image. Unit {0}) (c.in_err-log.ensures.any_moment trusted) (omega arith)
    (λ t image here others. tt))

pub returns-in-Ok-clause-ok : goal.returns-in-Ok-clause-ok
returns-in-Ok-clause-ok g c trusted families full l stands =
    let a : DiskState = g.D.Disk.state c.args.disk.now in
    let d : DiskState = g.D.Disk.state c.make.new.disk in
    let z : DiskState = g.D.Disk.state c.add.new.disk in
    let e = with_memory_rows c.args.self.now families full in
    let run = c.in_ok-log.ensures.any_moment trusted in
    let made = c.in_ok-log.ensures.made trusted in
    let told = trusted_on a d c.in_ok-log.ensures.goes trusted in
    let ready = ready_by a d e l stands c.args.draft c.requires.draft c.in_ok-log.log
    (omega (arith, c.requires.file)) run c.in_ok-log.ensures.file made in
    renewed a d e l stands c.args.draft c.requires.draft c.in_ok-log.log
    (omega (arith, c.requires.file)) run c.in_ok-log.ensures.file made z
    (c.add.ensures.any_moment told ready.manifest) c.add.new.self c.add.ensures.file
    c.in-Ok.ensures.version (c.in-Ok.ensures.ok told)

pub returns-in-Ok-clause-segment : goal.returns-in-Ok-clause-segment
returns-in-Ok-clause-segment g c =
    let is = c.in-Ok.ensures.version ∙ c.requires.draft in
    record {
      segments = ap (λ (v : Version). v.segments) is;
      families = ap (λ (v : Version). v.families) is;
      number = ap (λ (v : Version). v.next_number) is;
      next_file = ap (λ (v : Version). v.next_file) c.in-Ok.ensures.version;
      last = ap (λ (v : Version). v.next_file) c.requires.draft;
      log = c.in_ok-log.ensures.file;
      form = c.in_ok-log.ensures.given;
    }

pub returns-in-Ok-clause-most : goal.returns-in-Ok-clause-most
returns-in-Ok-clause-most g c =
    let is = ap (λ (v : Version). v.next_file) c.requires.draft in omega (arith, is)

pub returns-in-Err-clause-most : goal.returns-in-Err-clause-most
returns-in-Err-clause-most g c =
    let is = ap (λ (v : Version). v.next_file) c.requires.draft in omega (arith, is)

pub returns-in-Ok-clause-given : goal.returns-in-Ok-clause-given
returns-in-Ok-clause-given g c one =
    let is = ap (λ (v : Version). v.next_file) c.requires.draft in
    let two = ap files_made c.in_ok-log.ensures.given in
    let was = ap files_made one in omega (arith, is, two, was)

pub returns-in-Ok-clause-least : goal.returns-in-Ok-clause-least
returns-in-Ok-clause-least g c =
    let is = ap (λ (v : Version). v.next_file) c.requires.draft in omega (arith, is)

pub returns-in-Err-clause-given : goal.returns-in-Err-clause-given
returns-in-Err-clause-given g c one =
    let is = ap (λ (v : Version). v.next_file) c.requires.draft in
    let two = ap files_made c.in_ok-log.ensures.given in
    let was = ap files_made one in omega (arith, is, two, was)

pub returns-in-Err-clause-least : goal.returns-in-Err-clause-least
returns-in-Err-clause-least g c =
    let is = ap (λ (v : Version). v.next_file) c.requires.draft in omega (arith, is)

pub returns-in-Ok-clause-carries : goal.returns-in-Ok-clause-carries
returns-in-Ok-clause-carries g c trusted families full l stands =
    let a : DiskState = g.D.Disk.state c.args.disk.now in
    let d : DiskState = g.D.Disk.state c.make.new.disk in
    let z : DiskState = g.D.Disk.state c.add.new.disk in
    let e = with_memory_rows c.args.self.now families full in
    let run = c.in_ok-log.ensures.any_moment trusted in
    let made = c.in_ok-log.ensures.made trusted in
    let told = trusted_on a d c.in_ok-log.ensures.goes trusted in
    let ready = ready_by a d e l stands c.args.draft c.requires.draft c.in_ok-log.log
    (omega (arith, c.requires.file)) run c.in_ok-log.ensures.file made in
    renew_carries a d e l stands c.args.draft c.requires.draft c.in_ok-log.log
    (omega (arith, c.requires.file)) run c.in_ok-log.ensures.file made z
    (c.add.ensures.any_moment told ready.manifest) c.add.new.self c.add.ensures.file
    c.in-Ok.ensures.version (c.in-Ok.ensures.ok told)

pub returns-in-Ok-clause-any_moment : goal.returns-in-Ok-clause-any_moment
returns-in-Ok-clause-any_moment g c trusted families full l stands =
    let a : DiskState = g.D.Disk.state c.args.disk.now in
    let d : DiskState = g.D.Disk.state c.make.new.disk in
    let e = with_memory_rows c.args.self.now families full in
    let run = c.in_ok-log.ensures.any_moment trusted in
    let made = c.in_ok-log.ensures.made trusted in
    let told = trusted_on a d c.in_ok-log.ensures.goes trusted in
    let ready = ready_by a d e l stands c.args.draft c.requires.draft c.in_ok-log.log
    (omega (arith, c.requires.file)) run c.in_ok-log.ensures.file made in
    renew_images a d e l stands c.args.draft c.requires.draft c.in_ok-log.log
    (omega (arith, c.requires.file)) run c.in_ok-log.ensures.file made
    (g.D.Disk.state c.add.new.disk) (c.add.ensures.any_moment told ready.manifest)

pub returns-in-Err-clause-any_moment : goal.returns-in-Err-clause-any_moment
returns-in-Err-clause-any_moment g c trusted families full l stands =
    let a : DiskState = g.D.Disk.state c.args.disk.now in
    let d : DiskState = g.D.Disk.state c.make.new.disk in
    let e = with_memory_rows c.args.self.now families full in
    let run = c.in_ok-log.ensures.any_moment trusted in
    let made = c.in_ok-log.ensures.made trusted in
    let told = trusted_on a d c.in_ok-log.ensures.goes trusted in
    let ready = ready_by a d e l stands c.args.draft c.requires.draft c.in_ok-log.log
    (omega (arith, c.requires.file)) run c.in_ok-log.ensures.file made in
    renew_images a d e l stands c.args.draft c.requires.draft c.in_ok-log.log
    (omega (arith, c.requires.file)) run c.in_ok-log.ensures.file made
    (g.D.Disk.state c.add.new.disk) (c.add.ensures.any_moment told ready.manifest)
