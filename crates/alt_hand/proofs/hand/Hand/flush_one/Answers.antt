-- A draft with the family's file, and then the version.
use Rattle.std.proofs.Common.{◌≡◌, ◌-◌, ⊎_elim, ℕ, List, [], sym, ap, subst, ◌∙◌, arith, rules}
use Rattle.std.proofs.lemmas.Result.{on_ok_weaker}
use Rattle.alt_disk.specs.Disk.{DiskState}
use Rattle.alt_disk.specs.Runs.{Spans}
use Rattle.alt_disk.proofs.Runs.{trusted_back, trusted_on}
use Rattle.alt_flush.specs.Drafts.{From, renumbered}
use Rattle.alt_flush.proofs.RemoveLaws.{none_removed}
use Rattle.alt_manifest.specs.InHand.{version_of}
use Rattle.alt_manifest.specs.Versions.{IsIn}
use Rattle.alt_manifest.specs.declared.version.Version.{Version}
use Rattle.alt_hand.specs.Merging.{version_in}
use Rattle.alt_hand.specs.Drafting.{MemoryIsFlushed, files_for}
use Rattle.std.specs.BTreeMap.{get}
use Rattle.std.specs.FinMap.{entries}
use Rattle.std.specs.Ordering.{nat_cmp}
use Rattle.alt_families.specs.Families.{Families, rows_in}
use Rattle.alt_hand.proofs.FlushesLaws.{begun, one_empty, lying, made, making, ready_same}
use Rattle.alt_hand.specs.Carrying.{CarriesDraft}
use Rattle.alt_drafts.proofs.CarryDrafts.{carries_then}
use Rattle.alt_hand.proofs.CarryLaws.{carries_published, left_named, on_ok_both}
use Rattle.std.specs.FinMap.{empty}
use Rattle.alt_hand.specs.Adding.{IsLeftOut, IsThere}
use Rattle.alt_hand.proofs.AddingLaws.{adds_draft, drops_first, makes_none, no_version, one_version}
use Rattle.alt_drafts.proofs.LeftOutLaws.{drops_then}
use Rattle.alt_hand.proofs.hand.Hand.flush_one.Goals as goal

pub returns-in_err-first-clause-any_moment : goal.returns-in_err-first-clause-any_moment
returns-in_err-first-clause-any_moment g c trusted l stands =
    let a : DiskState = g.D.Disk.state c.args.disk.now in
    let e = c.args.self.now in
    let live = c.args.live.now in
    making a a e l live stands (none_removed a (From e.next_file))

pub returns-in_err-alive-clause-any_moment : goal.returns-in_err-alive-clause-any_moment
returns-in_err-alive-clause-any_moment g c trusted l stands =
    let a : DiskState = g.D.Disk.state c.args.disk.now in
    let e = c.args.self.now in
    let live = c.args.live.now in
    making a a e l live stands (none_removed a (From e.next_file))

pub flush_rows-requires : goal.flush_rows-requires
flush_rows-requires g c = record {
  makes = λ trusted.
      let a : DiskState = g.D.Disk.state c.args.disk.now in
      let e = c.args.self.now in
      let live = c.args.live.now in
      let is : c.in_ok-first.first ≡ renumbered (version_of e.manifest) e.next_file e.next =
      c.in_ok-first.ensures ∙ ap (λ (v : Version). renumbered v e.next_file e.next) c.current.ensures in
      let given = c.requires.ready trusted in
      let begins = begun a e given.0 live given.1 c.in_ok-first.first c.in_ok-alive.alive
      c.leave_dead.new.families (search rules) is c.in_ok-alive.ensures.makes in
      (given.1.reads.parts, begins.0, begins.1);
}

pub returns-in_err-draft-clause-any_moment : goal.returns-in_err-draft-clause-any_moment
returns-in_err-draft-clause-any_moment g c trusted l stands =
    let a : DiskState = g.D.Disk.state c.args.disk.now in
    let e = c.args.self.now in
    let live = c.args.live.now in
    let is : c.in_ok-first.first ≡ renumbered (version_of e.manifest) e.next_file e.next =
    c.in_ok-first.ensures ∙ ap (λ (v : Version). renumbered v e.next_file e.next) c.current.ensures in
    let start : c.in_ok-alive.alive.next_file ≡ e.next_file =
    c.in_ok-alive.ensures.file ∙ ap (λ (v : Version). v.next_file) is in
    making a (g.D.Disk.state c.flush_rows.new.disk) e l live stands
    (subst (λ n. Spans a (g.D.Disk.state c.flush_rows.new.disk) (From n) (λ t image. Unit {0}))
    start (c.in_err-draft.ensures.spans trusted))

pub publish-requires : goal.publish-requires
publish-requires g c = record {
  ready = λ told.
      let a : DiskState = g.D.Disk.state c.args.disk.now in
      let e = c.args.self.now in
      let live = c.args.live.now in
      let b : DiskState = g.D.Disk.state c.flush_rows.new.disk in
      let trusted = trusted_back a b c.in_ok-draft.ensures.goes told in
      let is : c.in_ok-first.first ≡ renumbered (version_of e.manifest) e.next_file e.next =
      c.in_ok-first.ensures ∙ ap (λ (v : Version). renumbered v e.next_file e.next) c.current.ensures in
      let start : c.in_ok-alive.alive.next_file ≡ e.next_file =
      c.in_ok-alive.ensures.file ∙ ap (λ (v : Version). v.next_file) is in
      let given = c.requires.ready trusted in
      let begins = begun a e given.0 live given.1 c.in_ok-first.first c.in_ok-alive.alive
      c.leave_dead.new.families (search rules) is c.in_ok-alive.ensures.makes in (
        begins.0,
        ready_same a b e given.0 live given.1
            (subst (λ n. Spans a b (From n) (λ t image. Unit {0})) start
            (c.in_ok-draft.ensures.spans trusted)) c.in_ok-draft.draft c.flush_rows.new.families begins.0
            (c.in_ok-draft.ensures.makes trusted given.1.reads.parts begins.0 begins.1) begins.2
            (c.in_ok-draft.ensures.segments ∙ c.in_ok-alive.ensures.segments
            ∙ ap (λ (v : Version). v.segments) is),
      );
}

pub returns-clause-ok : goal.returns-clause-ok
returns-clause-ok g c = on_ok_weaker c.publish.result (λ all trusted l stands.
    let a : DiskState = g.D.Disk.state c.args.disk.now in
    let e = c.args.self.now in
    let live = c.args.live.now in
    let b : DiskState = g.D.Disk.state c.flush_rows.new.disk in
    let is : c.in_ok-first.first ≡ renumbered (version_of e.manifest) e.next_file e.next =
    c.in_ok-first.ensures ∙ ap (λ (v : Version). renumbered v e.next_file e.next) c.current.ensures in
    let start : c.in_ok-alive.alive.next_file ≡ e.next_file =
    c.in_ok-alive.ensures.file ∙ ap (λ (v : Version). v.next_file) is in
    let begins = begun a e l live stands c.in_ok-first.first c.in_ok-alive.alive
    c.leave_dead.new.families (search rules) is c.in_ok-alive.ensures.makes in (
      begins.0,
      all (trusted_on a b c.in_ok-draft.ensures.goes trusted) begins.0
          (ready_same a b e l live stands (subst (λ n. Spans a b (From n) (λ t image. Unit {0})) start
          (c.in_ok-draft.ensures.spans trusted)) c.in_ok-draft.draft c.flush_rows.new.families begins.0
          (c.in_ok-draft.ensures.makes trusted stands.reads.parts begins.0 begins.1) begins.2
          (c.in_ok-draft.ensures.segments ∙ c.in_ok-alive.ensures.segments
          ∙ ap (λ (v : Version). v.segments) is)),
      begins.2,
    )) c.publish.ensures.ok

pub returns-clause-any_moment : goal.returns-clause-any_moment
returns-clause-any_moment g c trusted l stands =
    let a : DiskState = g.D.Disk.state c.args.disk.now in
    let e = c.args.self.now in
    let live = c.args.live.now in
    let b : DiskState = g.D.Disk.state c.flush_rows.new.disk in
    let is : c.in_ok-first.first ≡ renumbered (version_of e.manifest) e.next_file e.next =
    c.in_ok-first.ensures ∙ ap (λ (v : Version). renumbered v e.next_file e.next) c.current.ensures in
    let start : c.in_ok-alive.alive.next_file ≡ e.next_file =
    c.in_ok-alive.ensures.file ∙ ap (λ (v : Version). v.next_file) is in
    let begins = begun a e l live stands c.in_ok-first.first c.in_ok-alive.alive
    c.leave_dead.new.families (search rules) is c.in_ok-alive.ensures.makes in
    let spans : Spans a b (From e.next_file) (λ t image. Unit {0}) =
    subst (λ n. Spans a b (From n) (λ t image. Unit {0})) start
    (c.in_ok-draft.ensures.spans trusted) in
    made a b (g.D.Disk.state c.publish.new.disk) l begins.0 live begins.2
    (making a b e l live stands spans)
    (c.publish.ensures.any_moment (trusted_on a b c.in_ok-draft.ensures.goes trusted) l begins.0
    (lying a b e l live stands spans) (ready_same a b e l live stands spans c.in_ok-draft.draft
    c.flush_rows.new.families begins.0
    (c.in_ok-draft.ensures.makes trusted stands.reads.parts begins.0 begins.1) begins.2
    (c.in_ok-draft.ensures.segments ∙ c.in_ok-alive.ensures.segments
    ∙ ap (λ (v : Version). v.segments) is)))

pub returns-clause-flushed : goal.returns-clause-flushed
returns-clause-flushed g c =
    let e = c.args.self.now in
    let live = c.args.live.now in
    let family = c.args.family in
    let alive = c.leave_dead.new.families in
    let after = c.flush_rows.new.families in
    let last = c.publish.new.self.families in
    let still : last ≡ after = c.publish.ensures.families in
    let is : c.in_ok-first.first ≡ renumbered (version_of e.manifest) e.next_file e.next =
    c.in_ok-first.ensures ∙ ap (λ (v : Version). renumbered v e.next_file e.next) c.current.ensures in
    let start : c.in_ok-alive.alive.next_file ≡ e.next_file =
    c.in_ok-alive.ensures.file ∙ ap (λ (v : Version). v.next_file) is in
    let file = c.in_ok-draft.ensures.file in
    let made = c.publish.ensures.file in
    let own = c.in_ok-alive.ensures.lives family c.requires.live in
    let same : files_for (entries (rows_in (get nat_cmp alive family)))
    ≡ files_for (entries (rows_in (get nat_cmp e.families family))) =
    ap (λ o. files_for (entries (rows_in o))) own in
    on_ok_weaker c.publish.result (λ well. record {
      it = subst (λ (fs : Families). MemoryIsFlushed (get nat_cmp e.families family)
          (get nat_cmp fs family)) (sym still)
          (subst (λ o. MemoryIsFlushed o (get nat_cmp after family)) own c.in_ok-draft.ensures.flushed);
      lives = λ other there apart. ap (λ (fs : Families). get nat_cmp fs other) still
          ∙ c.in_ok-draft.ensures.others other apart ∙ c.in_ok-alive.ensures.lives other there;
      others = λ other. one_empty last after alive live family other still c.requires.live
          c.in_ok-draft.ensures.others (c.in_ok-alive.ensures.rest other);
      file = omega (arith, made, file, start, same);
    }) c.publish.ensures.well

pub returns-clause-carries : goal.returns-clause-carries
returns-clause-carries g c = on_ok_both c.publish.result
    (λ (version : version_in c.publish.new.self ≡ c.in_ok-draft.draft) others trusted l stands other there.
    let a : DiskState = g.D.Disk.state c.args.disk.now in
    let e = c.args.self.now in
    let live = c.args.live.now in
    let b : DiskState = g.D.Disk.state c.flush_rows.new.disk in
    let z : DiskState = g.D.Disk.state c.publish.new.disk in
    let is : c.in_ok-first.first ≡ renumbered (version_of e.manifest) e.next_file e.next =
    c.in_ok-first.ensures ∙ ap (λ (v : Version). renumbered v e.next_file e.next) c.current.ensures in
    let start : c.in_ok-alive.alive.next_file ≡ e.next_file =
    c.in_ok-alive.ensures.file ∙ ap (λ (v : Version). v.next_file) is in
    let begins = begun a e l live stands c.in_ok-first.first c.in_ok-alive.alive
    c.leave_dead.new.families (search rules) is c.in_ok-alive.ensures.makes in
    let spans : Spans a b (From e.next_file) (λ t image. Unit {0}) =
    subst (λ n. Spans a b (From n) (λ t image. Unit {0})) start
    (c.in_ok-draft.ensures.spans trusted) in
    let makes = c.in_ok-draft.ensures.makes trusted stands.reads.parts begins.0 begins.1 in
    let ready = ready_same a b e l live stands spans c.in_ok-draft.draft
    c.flush_rows.new.families begins.0 makes begins.2
    (c.in_ok-draft.ensures.segments ∙ c.in_ok-alive.ensures.segments
    ∙ ap (λ (v : Version). v.segments) is) in
    let step = carries_then a a b c.in_ok-first.first c.in_ok-alive.alive c.in_ok-draft.draft
    (get nat_cmp e.families other) (get nat_cmp c.leave_dead.new.families other)
    (get nat_cmp c.flush_rows.new.families other) other (c.in_ok-alive.ensures.carries a other there)
    (c.in_ok-draft.ensures.carries trusted stands.reads.parts begins.0 begins.1 other) in
    carries_published a b z e c.publish.new.self c.in_ok-draft.draft c.flush_rows.new.families
    stands.reads.parts begins.0 c.as_slice.result.now other spans
    (subst (λ (v : Version). CarriesDraft a b v c.in_ok-draft.draft (get nat_cmp e.families other)
    (get nat_cmp c.flush_rows.new.families other) other) is step) makes
    (left_named e c.in_ok-first.first c.new-left.result.items c.as_slice.result.now is
    (λ f one. absurd (subst (λ (xs : List ℕ). IsIn xs f) c.new-left.ensures.items one))
    (λ f there. c.in_ok-alive.ensures.left f
    (subst (λ (xs : List ℕ). IsIn xs f) c.as_slice.ensures.value there)))
    (others (trusted_on a b c.in_ok-draft.ensures.goes trusted) begins.0 ready)
    c.publish.ensures.families version c.publish.ensures.file)
    c.publish.ensures.version c.publish.ensures.others

pub returns-clause-leaves_out : goal.returns-clause-leaves_out
returns-clause-leaves_out g c =
    let e = c.args.self.now in
    let live = c.args.live.now in
    let family = c.args.family in
    let alive = c.leave_dead.new.families in
    let after = c.flush_rows.new.families in
    let last = c.publish.new.self.families in
    let still : last ≡ after = c.publish.ensures.families in
    let is : c.in_ok-first.first ≡ renumbered (version_of e.manifest) e.next_file e.next =
    c.in_ok-first.ensures ∙ ap (λ (v : Version). renumbered v e.next_file e.next) c.current.ensures in
    on_ok_weaker c.publish.result (λ (version : version_in c.publish.new.self ≡ c.in_ok-draft.draft). record {
      segments = ap (λ (v : Version). v.segments) version ∙ c.in_ok-draft.ensures.segments
          ∙ c.in_ok-alive.ensures.segments ∙ ap (λ (v : Version). v.segments) is;
      named = λ other out there. subst (λ (v : Version). IsLeftOut v other (e.next - 1)) (sym version)
          (c.in_ok-draft.ensures.past other (e.next - 1)
          (λ (same : other ≡ family). out (subst (IsIn live) (sym same) c.requires.live))
          (subst (λ n. IsLeftOut c.in_ok-alive.alive other (n - 1)) (ap (λ (v : Version). v.next_number) is)
          (c.in_ok-alive.ensures.past other out
          (subst (λ (v : Version). IsThere v (get nat_cmp e.families other) other) (sym is) there))));
      emptied = λ other out. ⊎_elim (λ (lives : IsIn live other). absurd (out lives))
          (λ (none : rows_in (get nat_cmp last other) ≡ empty). none)
          (one_empty last after alive live family other still c.requires.live
          c.in_ok-draft.ensures.others (c.in_ok-alive.ensures.rest other));
    }) c.publish.ensures.version

pub returns-clause-adds : goal.returns-clause-adds
returns-clause-adds g c = on_ok_both c.publish.result
    (λ (version : version_in c.publish.new.self ≡ c.in_ok-draft.draft) gone trusted.
    let a : DiskState = g.D.Disk.state c.args.disk.now in
    let e = c.args.self.now in
    let b : DiskState = g.D.Disk.state c.flush_rows.new.disk in
    let is : c.in_ok-first.first ≡ renumbered (version_of e.manifest) e.next_file e.next =
    c.in_ok-first.ensures ∙ ap (λ (v : Version). renumbered v e.next_file e.next) c.current.ensures in
    let told = trusted_on a b c.in_ok-draft.ensures.goes trusted in
    adds_draft (g.D.Disk.state c.publish.new.disk) e c.publish.new.self c.in_ok-draft.draft
    c.as_slice.result.now
    (drops_first e c.in_ok-first.first c.in_ok-draft.draft c.leave_dead.new.left.items
    c.as_slice.result.now is (drops_then c.in_ok-first.first c.in_ok-alive.alive c.in_ok-draft.draft
    c.leave_dead.new.left.items [] c.in_ok-alive.ensures.drops c.in_ok-draft.ensures.drops
    (λ f no. absurd no)) c.as_slice.ensures.value) (gone told)
    version c.publish.ensures.file)
    c.publish.ensures.version c.publish.ensures.gone

pub returns-clause-missing : goal.returns-clause-missing
returns-clause-missing g c = on_ok_weaker c.publish.result (λ missing trusted l stands.
    let a : DiskState = g.D.Disk.state c.args.disk.now in
    let e = c.args.self.now in
    let live = c.args.live.now in
    let b : DiskState = g.D.Disk.state c.flush_rows.new.disk in
    let is : c.in_ok-first.first ≡ renumbered (version_of e.manifest) e.next_file e.next =
    c.in_ok-first.ensures ∙ ap (λ (v : Version). renumbered v e.next_file e.next) c.current.ensures in
    let start : c.in_ok-alive.alive.next_file ≡ e.next_file =
    c.in_ok-alive.ensures.file ∙ ap (λ (v : Version). v.next_file) is in
    let begins = begun a e l live stands c.in_ok-first.first c.in_ok-alive.alive
    c.leave_dead.new.families (search rules) is c.in_ok-alive.ensures.makes in
    let spans : Spans a b (From e.next_file) (λ t image. Unit {0}) =
    subst (λ n. Spans a b (From n) (λ t image. Unit {0})) start
    (c.in_ok-draft.ensures.spans trusted) in
    let told = trusted_on a b c.in_ok-draft.ensures.goes trusted in
    let ready = ready_same a b e l live stands spans c.in_ok-draft.draft
    c.flush_rows.new.families begins.0
    (c.in_ok-draft.ensures.makes trusted stands.reads.parts begins.0 begins.1) begins.2
    (c.in_ok-draft.ensures.segments ∙ c.in_ok-alive.ensures.segments
    ∙ ap (λ (v : Version). v.segments) is) in
    makes_none a b (g.D.Disk.state c.publish.new.disk) e l stands
    (λ f below. spans.file f (λ le. omega (arith, below, le))) (missing told begins.0 ready)) c.publish.ensures.missing

pub returns-in_err-first-clause-one_version : goal.returns-in_err-first-clause-one_version
returns-in_err-first-clause-one_version g c trusted l stands =
    let a : DiskState = g.D.Disk.state c.args.disk.now in
    let e = c.args.self.now in no_version a a e l stands (none_removed a (From e.next_file))

pub returns-in_err-alive-clause-one_version : goal.returns-in_err-alive-clause-one_version
returns-in_err-alive-clause-one_version g c trusted l stands =
    let a : DiskState = g.D.Disk.state c.args.disk.now in
    let e = c.args.self.now in no_version a a e l stands (none_removed a (From e.next_file))

pub returns-in_err-draft-clause-one_version : goal.returns-in_err-draft-clause-one_version
returns-in_err-draft-clause-one_version g c trusted l stands =
    let a : DiskState = g.D.Disk.state c.args.disk.now in
    let e = c.args.self.now in
    let is : c.in_ok-first.first ≡ renumbered (version_of e.manifest) e.next_file e.next =
    c.in_ok-first.ensures ∙ ap (λ (v : Version). renumbered v e.next_file e.next) c.current.ensures in
    let start : c.in_ok-alive.alive.next_file ≡ e.next_file =
    c.in_ok-alive.ensures.file ∙ ap (λ (v : Version). v.next_file) is in
    no_version a (g.D.Disk.state c.flush_rows.new.disk) e l stands
    (subst (λ n. Spans a (g.D.Disk.state c.flush_rows.new.disk) (From n) (λ t image. Unit {0}))
    start (c.in_err-draft.ensures.spans trusted))

pub returns-clause-one_version : goal.returns-clause-one_version
returns-clause-one_version g c trusted l stands =
    let a : DiskState = g.D.Disk.state c.args.disk.now in
    let e = c.args.self.now in
    let live = c.args.live.now in
    let b : DiskState = g.D.Disk.state c.flush_rows.new.disk in
    let is : c.in_ok-first.first ≡ renumbered (version_of e.manifest) e.next_file e.next =
    c.in_ok-first.ensures ∙ ap (λ (v : Version). renumbered v e.next_file e.next) c.current.ensures in
    let start : c.in_ok-alive.alive.next_file ≡ e.next_file =
    c.in_ok-alive.ensures.file ∙ ap (λ (v : Version). v.next_file) is in
    let begins = begun a e l live stands c.in_ok-first.first c.in_ok-alive.alive
    c.leave_dead.new.families (search rules) is c.in_ok-alive.ensures.makes in
    let spans : Spans a b (From e.next_file) (λ t image. Unit {0}) =
    subst (λ n. Spans a b (From n) (λ t image. Unit {0})) start
    (c.in_ok-draft.ensures.spans trusted) in
    let told = trusted_on a b c.in_ok-draft.ensures.goes trusted in
    let ready = ready_same a b e l live stands spans c.in_ok-draft.draft
    c.flush_rows.new.families begins.0
    (c.in_ok-draft.ensures.makes trusted stands.reads.parts begins.0 begins.1) begins.2
    (c.in_ok-draft.ensures.segments ∙ c.in_ok-alive.ensures.segments
    ∙ ap (λ (v : Version). v.segments) is) in
    one_version a b e l stands spans (g.D.Disk.state c.publish.new.disk) c.in_ok-draft.draft
    (c.publish.ensures.one_version told begins.0 ready)
