-- The version, and then the removals.
use Rattle.std.proofs.Common.{◌≡◌, ◌∙◌, ℕ, subst}
use Rattle.alt_disk.specs.Disk.{DiskState}
use Rattle.alt_disk.specs.Runs.{Spans}
use Rattle.alt_disk.proofs.Runs.{tells_of, trusted_on}
use Rattle.alt_flush.specs.Drafts.{IsLeftOver}
use Rattle.alt_manifest.specs.InHand.{OldOrNew, version_of}
use Rattle.alt_manifest.specs.declared.version.Version.{Version}
use Rattle.alt_hand.specs.declared.hand.Hand.{Hand}
use Rattle.alt_hand.specs.InHand.{HandStandsForLayout}
use Rattle.alt_hand.proofs.AddingLaws.{added_last, adding_last}
use Rattle.alt_hand.proofs.PublishLaws.{published, publishing, removed, removing, then_second}
use Rattle.alt_hand.proofs.hand.Hand.publish.Goals as goal

pub returns-in_err-append-clause-any_moment : goal.returns-in_err-append-clause-any_moment
returns-in_err-append-clause-any_moment g c trusted l m lying ready =
    publishing (g.D.Disk.state c.args.disk.now) (g.D.Disk.state c.append.new.disk) c.args.self.now
    c.args.draft l m lying ready (c.append.ensures.any_moment trusted ready.manifest)

pub returns-in-Ok-clause-ok : goal.returns-in-Ok-clause-ok
returns-in-Ok-clause-ok g c trusted m ready =
    let a : DiskState = g.D.Disk.state c.args.disk.now in
    let b : DiskState = g.D.Disk.state c.append.new.disk in
    let told = trusted_on a b c.append.ensures.goes trusted in
    let e : Hand = record c.args.self.now {
      manifest = c.append.new.self;
      next_file = c.args.draft.next_file;
      full = c.has_full-self.result;
    } in
    let stands : HandStandsForLayout b e m = published a b c.args.self.now c.args.draft m c.append.new.self
    (OldOrNew (version_of c.args.self.now.manifest) c.args.draft) ready
    (c.append.ensures.any_moment trusted ready.manifest) c.append.ensures.file
    c.in_ok-append.ensures.version (c.in_ok-append.ensures.ok trusted)
    c.has_full-self.result c.has_full-self.ensures in
    removed b (g.D.Disk.state c.remove_left_over.new.disk) e m c.args.left.now stands
    (subst (λ (v : Version). Spans b (g.D.Disk.state c.remove_left_over.new.disk)
    (IsLeftOver c.args.left.now v) (λ t image. Unit {0})) c.current.ensures
    (c.remove_left_over.ensures.spans told))
    (subst (λ (v : Version). (f : ℕ) → IsLeftOver c.args.left.now v f
    → (g.D.Disk.state c.remove_left_over.new.disk).file f ≡ Rattle.std.specs.Prelude.None)
    c.current.ensures (c.in-Ok.ensures.gone (tells_of b told)))

pub returns-in-Ok-clause-any_moment : goal.returns-in-Ok-clause-any_moment
returns-in-Ok-clause-any_moment g c trusted l m lying ready =
    let a : DiskState = g.D.Disk.state c.args.disk.now in
    let b : DiskState = g.D.Disk.state c.append.new.disk in
    let d : DiskState = g.D.Disk.state c.remove_left_over.new.disk in
    let told = trusted_on a b c.append.ensures.goes trusted in
    let e : Hand = record c.args.self.now {
      manifest = c.append.new.self;
      next_file = c.args.draft.next_file;
      full = c.has_full-self.result;
    } in
    let run = c.append.ensures.any_moment trusted ready.manifest in
    let stands : HandStandsForLayout b e m = published a b c.args.self.now c.args.draft m c.append.new.self
    (OldOrNew (version_of c.args.self.now.manifest) c.args.draft) ready run c.append.ensures.file
    c.in_ok-append.ensures.version (c.in_ok-append.ensures.ok trusted)
    c.has_full-self.result c.has_full-self.ensures in
    then_second a b d l m (publishing a b c.args.self.now c.args.draft l m lying ready run)
    (removing b d e m c.args.left.now stands
    (subst (λ (v : Version). Spans b d (IsLeftOver c.args.left.now v) (λ t image. Unit {0}))
    c.current.ensures (c.remove_left_over.ensures.spans told)))

pub returns-in-Err-clause-any_moment : goal.returns-in-Err-clause-any_moment
returns-in-Err-clause-any_moment g c trusted l m lying ready =
    let a : DiskState = g.D.Disk.state c.args.disk.now in
    let b : DiskState = g.D.Disk.state c.append.new.disk in
    let d : DiskState = g.D.Disk.state c.remove_left_over.new.disk in
    let told = trusted_on a b c.append.ensures.goes trusted in
    let e : Hand = record c.args.self.now {
      manifest = c.append.new.self;
      next_file = c.args.draft.next_file;
      full = c.has_full-self.result;
    } in
    let run = c.append.ensures.any_moment trusted ready.manifest in
    let stands : HandStandsForLayout b e m = published a b c.args.self.now c.args.draft m c.append.new.self
    (OldOrNew (version_of c.args.self.now.manifest) c.args.draft) ready run c.append.ensures.file
    c.in_ok-append.ensures.version (c.in_ok-append.ensures.ok trusted)
    c.has_full-self.result c.has_full-self.ensures in
    then_second a b d l m (publishing a b c.args.self.now c.args.draft l m lying ready run)
    (removing b d e m c.args.left.now stands
    (subst (λ (v : Version). Spans b d (IsLeftOver c.args.left.now v) (λ t image. Unit {0}))
    c.current.ensures (c.remove_left_over.ensures.spans told)))

pub returns-in-Ok-clause-gone : goal.returns-in-Ok-clause-gone
returns-in-Ok-clause-gone g c trusted =
    let b : DiskState = g.D.Disk.state c.append.new.disk in
    let told = trusted_on (g.D.Disk.state c.args.disk.now) b c.append.ensures.goes trusted in
    subst (λ (v : Version). (f : ℕ) → IsLeftOver c.args.left.now v f
    → (g.D.Disk.state c.remove_left_over.new.disk).file f ≡ Rattle.std.specs.Prelude.None)
    (c.current.ensures ∙ c.in_ok-append.ensures.version) (c.in-Ok.ensures.gone (tells_of b told))

pub returns-in-Ok-clause-others : goal.returns-in-Ok-clause-others
returns-in-Ok-clause-others g c trusted m ready f first not_left =
    let a : DiskState = g.D.Disk.state c.args.disk.now in
    let b : DiskState = g.D.Disk.state c.append.new.disk in
    let d : DiskState = g.D.Disk.state c.remove_left_over.new.disk in
    let told = trusted_on a b c.append.ensures.goes trusted in
    let spans : Spans b d (IsLeftOver c.args.left.now c.args.draft) (λ t image. Unit {0}) =
    subst (λ (v : Version). Spans b d (IsLeftOver c.args.left.now v) (λ t image. Unit {0}))
    (c.current.ensures ∙ c.in_ok-append.ensures.version) (c.remove_left_over.ensures.spans told) in
    spans.file f not_left
    ∙ (c.append.ensures.any_moment trusted ready.manifest).file f (λ e. first (e ∙ ready.first))

pub returns-in-Ok-clause-missing : goal.returns-in-Ok-clause-missing
returns-in-Ok-clause-missing g c trusted m ready f first none =
    let a : DiskState = g.D.Disk.state c.args.disk.now in
    let b : DiskState = g.D.Disk.state c.append.new.disk in
    let told = trusted_on a b c.append.ensures.goes trusted in
    c.remove_left_over.ensures.none (tells_of b told) f
    ((c.append.ensures.any_moment trusted ready.manifest).file f (λ e. first (e ∙ ready.first)) ∙ none)

pub returns-in_err-append-clause-one_version : goal.returns-in_err-append-clause-one_version
returns-in_err-append-clause-one_version g c trusted m ready =
    adding_last (g.D.Disk.state c.args.disk.now) (g.D.Disk.state c.append.new.disk) c.args.self.now
    c.args.draft m ready (c.append.ensures.any_moment trusted ready.manifest)

pub returns-in-Ok-clause-one_version : goal.returns-in-Ok-clause-one_version
returns-in-Ok-clause-one_version g c trusted m ready =
    let a : DiskState = g.D.Disk.state c.args.disk.now in
    let b : DiskState = g.D.Disk.state c.append.new.disk in
    let d : DiskState = g.D.Disk.state c.remove_left_over.new.disk in
    let told = trusted_on a b c.append.ensures.goes trusted in
    added_last a b d c.args.self.now c.append.new.self c.args.draft m c.args.left.now ready
    (c.append.ensures.any_moment trusted ready.manifest) c.append.ensures.file
    c.in_ok-append.ensures.version (c.in_ok-append.ensures.ok trusted)
    (subst (λ (v : Version). Spans b d (IsLeftOver c.args.left.now v) (λ t image. Unit {0}))
    (c.current.ensures ∙ c.in_ok-append.ensures.version) (c.remove_left_over.ensures.spans told))

pub returns-in-Err-clause-one_version : goal.returns-in-Err-clause-one_version
returns-in-Err-clause-one_version g c trusted m ready =
    let a : DiskState = g.D.Disk.state c.args.disk.now in
    let b : DiskState = g.D.Disk.state c.append.new.disk in
    let d : DiskState = g.D.Disk.state c.remove_left_over.new.disk in
    let told = trusted_on a b c.append.ensures.goes trusted in
    added_last a b d c.args.self.now c.append.new.self c.args.draft m c.args.left.now ready
    (c.append.ensures.any_moment trusted ready.manifest) c.append.ensures.file
    c.in_ok-append.ensures.version (c.in_ok-append.ensures.ok trusted)
    (subst (λ (v : Version). Spans b d (IsLeftOver c.args.left.now v) (λ t image. Unit {0}))
    (c.current.ensures ∙ c.in_ok-append.ensures.version) (c.remove_left_over.ensures.spans told))
