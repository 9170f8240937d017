-- Drafts with a file for each family and over a new segment, and then the version.
use Rattle.std.proofs.Common.{◌≡◌, ◌≤◌, ◌+◌, ◌++◌, ⊎_elim, inr, ℕ, List, refl, sym, ap, subst, ◌∙◌, arith, rules}
use Rattle.std.proofs.lemmas.Result.{IfErr-weaker, on_ok_weaker}
use Rattle.std.specs.Prelude.{IfErr}
use Rattle.alt_disk.specs.Disk.{DiskState}
use Rattle.alt_disk.specs.Runs.{Spans}
use Rattle.alt_disk.proofs.Runs.{trusted_back, trusted_on}
use Rattle.alt_flush.specs.Drafts.{From, over_new_log, renumbered}
use Rattle.alt_gatelog.specs.InHand.{file_of_gate_log as log_file, form_of}
use Rattle.alt_flush.proofs.RemoveLaws.{none_removed}
use Rattle.alt_manifest.specs.InHand.{version_of}
use Rattle.alt_manifest.specs.declared.version.Version.{Version}
use Rattle.alt_hand.specs.Drafting.{MemoryIsFlushed, DraftIsReady, IsSpentFor, files_needed}
use Rattle.std.specs.BTreeMap.{get}
use Rattle.std.specs.FinMap.{empty}
use Rattle.std.specs.Ordering.{nat_cmp}
use Rattle.alt_families.specs.Families.{Families, rows_in}
use Rattle.alt_manifest.specs.Versions.{IsIn}
use Rattle.alt_hand.specs.Carrying.{CarriesDraft}
use Rattle.alt_hand.specs.Merging.{version_in}
use Rattle.alt_drafts.proofs.CarryDrafts.{carries_new_log, carries_then}
use Rattle.alt_hand.proofs.CarryLaws.{carries_published, left_named, on_ok_both}
use Rattle.alt_hand.proofs.FlushesLaws.{all_empty, begun, lying, made, making, ready_new, run_later}
use Rattle.alt_drafts.proofs.NeedLaws.{needed_same, spent_more}
use Rattle.alt_flush.specs.Laws.{DropsOnly}
use Rattle.alt_flush.proofs.NamedLaws.{log_drops, log_names}
use Rattle.alt_flush.proofs.NewLogLaws.{named_new_log}
use Rattle.alt_layout.specs.Fresh.{versions_file}
use Rattle.alt_layout.proofs.FileLaws.{apart, named_later}
use Rattle.alt_layout.proofs.FlushLaws.{above_all}
use Rattle.alt_manifest.specs.Versions.{files_named, numbers_of, row_files}
use Rattle.alt_hand.proofs.AddingLaws.{adds_draft, drops_first, makes_none, no_version, one_version}
use Rattle.alt_drafts.proofs.LeftOutLaws.{drops_then}
use Rattle.alt_hand.proofs.hand.Hand.flush_all.Goals as goal
use Rattle.alt_manifest.proofs.Among.{in_back, in_front, in_or_not}

pub returns-in_err-first-clause-any_moment : goal.returns-in_err-first-clause-any_moment
returns-in_err-first-clause-any_moment g c trusted l stands =
    let a : DiskState = g.D.Disk.state c.args.disk.now in
    let e = c.args.self.now in
    let live = c.args.live.now in
    making a a e l live stands (none_removed a (From e.next_file))

pub returns-in_err-put_segments-clause-any_moment : goal.returns-in_err-put_segments-clause-any_moment
returns-in_err-put_segments-clause-any_moment g c trusted l stands =
    let a : DiskState = g.D.Disk.state c.args.disk.now in
    let e = c.args.self.now in
    let live = c.args.live.now in
    making a a e l live stands (none_removed a (From e.next_file))

pub returns-in_err-alive-clause-any_moment : goal.returns-in_err-alive-clause-any_moment
returns-in_err-alive-clause-any_moment g c trusted l stands =
    let a : DiskState = g.D.Disk.state c.args.disk.now in
    let e = c.args.self.now in
    let live = c.args.live.now in
    making a a e l live stands (none_removed a (From e.next_file))

pub flush_each-requires-clause-makes : goal.flush_each-requires-clause-makes
flush_each-requires-clause-makes g c trusted =
    let a : DiskState = g.D.Disk.state c.args.disk.now in
    let e = c.args.self.now in
    let live = c.args.live.now in
    let is : c.in_ok-first.first ≡ renumbered (version_of e.manifest) e.next_file e.next =
    c.in_ok-first.ensures ∙ ap (λ (v : Version). renumbered v e.next_file e.next) c.current.ensures in
    let given = c.requires.ready trusted in
    let begins = begun a e given.0 live given.1 c.in_ok-first.first c.in_ok-alive.alive
    c.leave_dead.new.families (search rules) is c.in_ok-alive.ensures.makes in
    (given.1.reads.parts, begins.0, begins.1)

pub returns-in_err-flushed-clause-any_moment : goal.returns-in_err-flushed-clause-any_moment
returns-in_err-flushed-clause-any_moment g c trusted l stands =
    let a : DiskState = g.D.Disk.state c.args.disk.now in
    let e = c.args.self.now in
    let live = c.args.live.now in
    let is : c.in_ok-first.first ≡ renumbered (version_of e.manifest) e.next_file e.next =
    c.in_ok-first.ensures ∙ ap (λ (v : Version). renumbered v e.next_file e.next) c.current.ensures in
    let start : c.in_ok-alive.alive.next_file ≡ e.next_file =
    c.in_ok-alive.ensures.file ∙ ap (λ (v : Version). v.next_file) is in
    making a (g.D.Disk.state c.flush_each.new.disk) e l live stands
    (subst (λ n. Spans a (g.D.Disk.state c.flush_each.new.disk) (From n) (λ t image. Unit {0}))
    start (c.in_err-flushed.ensures.spans trusted))

pub returns-in_err-flushed-clause-spent : goal.returns-in_err-flushed-clause-spent
returns-in_err-flushed-clause-spent g c =
    let e = c.args.self.now in
    let live = c.args.live.now in
    let is : c.in_ok-first.first ≡ renumbered (version_of e.manifest) e.next_file e.next =
    c.in_ok-first.ensures ∙ ap (λ (v : Version). renumbered v e.next_file e.next) c.current.ensures in
    let start : c.in_ok-alive.alive.next_file ≡ e.next_file =
    c.in_ok-alive.ensures.file ∙ ap (λ (v : Version). v.next_file) is in
    let same = needed_same e.families c.leave_dead.new.families live c.in_ok-alive.ensures.lives in
    let first = c.in_ok-alive.alive.next_file + files_needed c.leave_dead.new.families live in
    let base : IfErr c.from_residual-in_err-flushed.result (IsSpentFor first) = search rules in
    IfErr-weaker c.from_residual-in_err-flushed.result (IsSpentFor first)
    (IsSpentFor (e.next_file + files_needed e.families live + 1))
    (λ fault. spent_more fault first (e.next_file + files_needed e.families live + 1)
    (omega (arith, start, same))) base

pub returns-then-flushed-clause-any_moment : goal.returns-then-flushed-clause-any_moment
returns-then-flushed-clause-any_moment g c trusted l stands =
    let a : DiskState = g.D.Disk.state c.args.disk.now in
    let e = c.args.self.now in
    let live = c.args.live.now in
    let is : c.in_ok-first.first ≡ renumbered (version_of e.manifest) e.next_file e.next =
    c.in_ok-first.ensures ∙ ap (λ (v : Version). renumbered v e.next_file e.next) c.current.ensures in
    let start : c.in_ok-alive.alive.next_file ≡ e.next_file =
    c.in_ok-alive.ensures.file ∙ ap (λ (v : Version). v.next_file) is in
    let b : DiskState = g.D.Disk.state c.flush_each.new.disk in
    let first_spans : Spans a b (From e.next_file) (λ t image. Unit {0}) =
    subst (λ n. Spans a b (From n) (λ t image. Unit {0})) start
    (c.in_ok-flushed.ensures.spans trusted) in
    making a b e l live stands first_spans

pub returns-then-flushed-clause-spent : goal.returns-then-flushed-clause-spent
returns-then-flushed-clause-spent g c =
    let e = c.args.self.now in
    let live = c.args.live.now in
    let is : c.in_ok-first.first ≡ renumbered (version_of e.manifest) e.next_file e.next =
    c.in_ok-first.ensures ∙ ap (λ (v : Version). renumbered v e.next_file e.next) c.current.ensures in
    let start : c.in_ok-alive.alive.next_file ≡ e.next_file =
    c.in_ok-alive.ensures.file ∙ ap (λ (v : Version). v.next_file) is in
    let same = needed_same e.families c.leave_dead.new.families live c.in_ok-alive.ensures.lives in
    let file = c.in_ok-flushed.ensures.file in
    let at = c.if-flushed.true in
    (at, omega (arith, at, file, start, same))

pub make-requires : goal.make-requires
make-requires g c told =
    let a : DiskState = g.D.Disk.state c.args.disk.now in
    let e = c.args.self.now in
    let live = c.args.live.now in
    let b : DiskState = g.D.Disk.state c.flush_each.new.disk in
    let trusted = trusted_back a b c.in_ok-flushed.ensures.goes told in
    let is : c.in_ok-first.first ≡ renumbered (version_of e.manifest) e.next_file e.next =
    c.in_ok-first.ensures ∙ ap (λ (v : Version). renumbered v e.next_file e.next) c.current.ensures in
    let given = c.requires.ready trusted in
    let begins = begun a e given.0 live given.1 c.in_ok-first.first c.in_ok-alive.alive
    c.leave_dead.new.families (search rules) is c.in_ok-alive.ensures.makes in
    (c.in_ok-flushed.ensures.makes trusted given.1.reads.parts begins.0 begins.1).drafted.fresh
    c.in_ok-flushed.flushed.next_file (omega arith)

pub returns-in_err-log-clause-any_moment : goal.returns-in_err-log-clause-any_moment
returns-in_err-log-clause-any_moment g c trusted l stands =
    let a : DiskState = g.D.Disk.state c.args.disk.now in
    let e = c.args.self.now in
    let live = c.args.live.now in
    let is : c.in_ok-first.first ≡ renumbered (version_of e.manifest) e.next_file e.next =
    c.in_ok-first.ensures ∙ ap (λ (v : Version). renumbered v e.next_file e.next) c.current.ensures in
    let start : c.in_ok-alive.alive.next_file ≡ e.next_file =
    c.in_ok-alive.ensures.file ∙ ap (λ (v : Version). v.next_file) is in
    let b : DiskState = g.D.Disk.state c.flush_each.new.disk in
    let first_spans : Spans a b (From e.next_file) (λ t image. Unit {0}) =
    subst (λ n. Spans a b (From n) (λ t image. Unit {0})) start
    (c.in_ok-flushed.ensures.spans trusted) in
    let d : DiskState = g.D.Disk.state c.make.new.disk in
    let told = trusted_on a b c.in_ok-flushed.ensures.goes trusted in
    let low : e.next_file ≤ c.in_ok-flushed.flushed.next_file =
    (let file = c.in_ok-flushed.ensures.file in omega (arith, file, start)) in
    let run = c.in_err-log.ensures.any_moment told in
    let spans : Spans a d (From e.next_file) (λ t image. Unit {0}) =
    run_later a b d e.next_file c.in_ok-flushed.flushed.next_file (λ t left. Unit {0}) low
    first_spans run in
    making a d e l live stands spans

pub returns-in_err-draft-clause-any_moment : goal.returns-in_err-draft-clause-any_moment
returns-in_err-draft-clause-any_moment g c trusted l stands =
    let a : DiskState = g.D.Disk.state c.args.disk.now in
    let e = c.args.self.now in
    let live = c.args.live.now in
    let is : c.in_ok-first.first ≡ renumbered (version_of e.manifest) e.next_file e.next =
    c.in_ok-first.ensures ∙ ap (λ (v : Version). renumbered v e.next_file e.next) c.current.ensures in
    let start : c.in_ok-alive.alive.next_file ≡ e.next_file =
    c.in_ok-alive.ensures.file ∙ ap (λ (v : Version). v.next_file) is in
    let b : DiskState = g.D.Disk.state c.flush_each.new.disk in
    let first_spans : Spans a b (From e.next_file) (λ t image. Unit {0}) =
    subst (λ n. Spans a b (From n) (λ t image. Unit {0})) start
    (c.in_ok-flushed.ensures.spans trusted) in
    let d : DiskState = g.D.Disk.state c.make.new.disk in
    let told = trusted_on a b c.in_ok-flushed.ensures.goes trusted in
    let low : e.next_file ≤ c.in_ok-flushed.flushed.next_file =
    (let file = c.in_ok-flushed.ensures.file in omega (arith, file, start)) in
    let run = c.in_ok-log.ensures.any_moment told in
    let spans : Spans a d (From e.next_file) (λ t image. Unit {0}) =
    run_later a b d e.next_file c.in_ok-flushed.flushed.next_file (λ t left. Unit {0}) low
    first_spans run in
    making a d e l live stands spans

pub publish-requires : goal.publish-requires
publish-requires g c = record {
  ready = λ at_end.
      let a : DiskState = g.D.Disk.state c.args.disk.now in
      let b : DiskState = g.D.Disk.state c.flush_each.new.disk in
      let d : DiskState = g.D.Disk.state c.make.new.disk in
      let trusted = trusted_back a b c.in_ok-flushed.ensures.goes
      (trusted_back b d c.in_ok-log.ensures.goes at_end) in
      let e = c.args.self.now in
      let live = c.args.live.now in
      let given = c.requires.ready trusted in
      let l = given.0 in
      let stands = given.1 in
      let is : c.in_ok-first.first ≡ renumbered (version_of e.manifest) e.next_file e.next =
      c.in_ok-first.ensures ∙ ap (λ (v : Version). renumbered v e.next_file e.next) c.current.ensures in
      let start : c.in_ok-alive.alive.next_file ≡ e.next_file =
      c.in_ok-alive.ensures.file ∙ ap (λ (v : Version). v.next_file) is in
      let begins = begun a e l live stands c.in_ok-first.first c.in_ok-alive.alive
      c.leave_dead.new.families (search rules) is c.in_ok-alive.ensures.makes in
      let first_spans : Spans a b (From e.next_file) (λ t image. Unit {0}) =
      subst (λ n. Spans a b (From n) (λ t image. Unit {0})) start
      (c.in_ok-flushed.ensures.spans trusted) in
      let told = trusted_on a b c.in_ok-flushed.ensures.goes trusted in
      let low : e.next_file ≤ c.in_ok-flushed.flushed.next_file =
      (let file = c.in_ok-flushed.ensures.file in omega (arith, file, start)) in
      let run = c.in_ok-log.ensures.any_moment told in
      let spans : Spans a d (From e.next_file) (λ t image. Unit {0}) =
      run_later a b d e.next_file c.in_ok-flushed.flushed.next_file (λ t left. Unit {0}) low
      first_spans run in
      let none : (family : ℕ) → rows_in (get nat_cmp c.flush_each.new.families family) ≡ empty =
      λ family. all_empty c.leave_dead.new.families c.flush_each.new.families live family
      (λ f there. (c.in_ok-flushed.ensures.flushed f there).rows) c.in_ok-flushed.ensures.others
      (c.in_ok-alive.ensures.rest family) in (
        begins.0,
        subst (λ (u : Version). DraftIsReady d (record e {
          log = c.in_ok-log.log;
          length = 0;
          families = c.flush_each.new.families;
        }) u begins.0) (sym c.in_ok-draft.ensures)
            (ready_new a d e l live stands spans b c.in_ok-flushed.flushed c.flush_each.new.families
            stands.reads.parts begins.0 (λ t left. Unit {0}) c.in_ok-log.log
            (c.in_ok-flushed.ensures.makes trusted stands.reads.parts begins.0 begins.1) begins.2
            (search rules) none run c.in_ok-log.ensures.file (c.in_ok-log.ensures.made told)),
      );
}

pub returns-clause-ok : goal.returns-clause-ok
returns-clause-ok g c = on_ok_weaker c.publish.result (λ all trusted l stands.
    let a : DiskState = g.D.Disk.state c.args.disk.now in
    let e = c.args.self.now in
    let live = c.args.live.now in
    let is : c.in_ok-first.first ≡ renumbered (version_of e.manifest) e.next_file e.next =
    c.in_ok-first.ensures ∙ ap (λ (v : Version). renumbered v e.next_file e.next) c.current.ensures in
    let start : c.in_ok-alive.alive.next_file ≡ e.next_file =
    c.in_ok-alive.ensures.file ∙ ap (λ (v : Version). v.next_file) is in
    let begins = begun a e l live stands c.in_ok-first.first c.in_ok-alive.alive
    c.leave_dead.new.families (search rules) is c.in_ok-alive.ensures.makes in
    let b : DiskState = g.D.Disk.state c.flush_each.new.disk in
    let first_spans : Spans a b (From e.next_file) (λ t image. Unit {0}) =
    subst (λ n. Spans a b (From n) (λ t image. Unit {0})) start
    (c.in_ok-flushed.ensures.spans trusted) in
    let d : DiskState = g.D.Disk.state c.make.new.disk in
    let told = trusted_on a b c.in_ok-flushed.ensures.goes trusted in
    let low : e.next_file ≤ c.in_ok-flushed.flushed.next_file =
    (let file = c.in_ok-flushed.ensures.file in omega (arith, file, start)) in
    let run = c.in_ok-log.ensures.any_moment told in
    let spans : Spans a d (From e.next_file) (λ t image. Unit {0}) =
    run_later a b d e.next_file c.in_ok-flushed.flushed.next_file (λ t left. Unit {0}) low
    first_spans run in
    let none : (family : ℕ) → rows_in (get nat_cmp c.flush_each.new.families family) ≡ empty =
    λ family. all_empty c.leave_dead.new.families c.flush_each.new.families live family
    (λ f there. (c.in_ok-flushed.ensures.flushed f there).rows) c.in_ok-flushed.ensures.others
    (c.in_ok-alive.ensures.rest family) in (
      begins.0,
      all (trusted_on b d c.in_ok-log.ensures.goes told) begins.0
          (subst (λ (u : Version). DraftIsReady d (record e {
            log = c.in_ok-log.log;
            length = 0;
            families = c.flush_each.new.families;
          }) u begins.0) (sym c.in_ok-draft.ensures)
          (ready_new a d e l live stands spans b c.in_ok-flushed.flushed c.flush_each.new.families
          stands.reads.parts begins.0 (λ t left. Unit {0}) c.in_ok-log.log
          (c.in_ok-flushed.ensures.makes trusted stands.reads.parts begins.0 begins.1) begins.2
          (search rules) none run c.in_ok-log.ensures.file (c.in_ok-log.ensures.made told))),
      begins.2,
    )) c.publish.ensures.ok

pub returns-clause-flushed : goal.returns-clause-flushed
returns-clause-flushed g c =
    let e = c.args.self.now in
    let live = c.args.live.now in
    let alive = c.leave_dead.new.families in
    let after = c.flush_each.new.families in
    let last = c.publish.new.self.families in
    let still : last ≡ after = c.publish.ensures.families in
    let is : c.in_ok-first.first ≡ renumbered (version_of e.manifest) e.next_file e.next =
    c.in_ok-first.ensures ∙ ap (λ (v : Version). renumbered v e.next_file e.next) c.current.ensures in
    let start : c.in_ok-alive.alive.next_file ≡ e.next_file =
    c.in_ok-alive.ensures.file ∙ ap (λ (v : Version). v.next_file) is in
    let same = needed_same e.families c.leave_dead.new.families live c.in_ok-alive.ensures.lives in
    let none : (family : ℕ) → rows_in (get nat_cmp c.flush_each.new.families family) ≡ empty =
    λ family. all_empty c.leave_dead.new.families c.flush_each.new.families live family
    (λ f there. (c.in_ok-flushed.ensures.flushed f there).rows) c.in_ok-flushed.ensures.others
    (c.in_ok-alive.ensures.rest family) in
    let file = c.in_ok-flushed.ensures.file in
    let draft = ap (λ (v : Version). v.next_file) c.in_ok-draft.ensures in
    let made = c.publish.ensures.file in
    on_ok_weaker c.publish.result (λ well. record {
      lives = λ family there. subst (λ (fs : Families). MemoryIsFlushed (get nat_cmp e.families family)
          (get nat_cmp fs family)) (sym still)
          (subst (λ o. MemoryIsFlushed o (get nat_cmp after family))
          (c.in_ok-alive.ensures.lives family there) (c.in_ok-flushed.ensures.flushed family there));
      others = λ family. inr (ap (λ (fs : Families). rows_in (get nat_cmp fs family)) still
          ∙ none family);
      file = omega (arith, made, draft, file, start, same);
    }) c.publish.ensures.well

pub returns-clause-any_moment : goal.returns-clause-any_moment
returns-clause-any_moment g c trusted l stands =
    let a : DiskState = g.D.Disk.state c.args.disk.now in
    let e = c.args.self.now in
    let live = c.args.live.now in
    let is : c.in_ok-first.first ≡ renumbered (version_of e.manifest) e.next_file e.next =
    c.in_ok-first.ensures ∙ ap (λ (v : Version). renumbered v e.next_file e.next) c.current.ensures in
    let start : c.in_ok-alive.alive.next_file ≡ e.next_file =
    c.in_ok-alive.ensures.file ∙ ap (λ (v : Version). v.next_file) is in
    let begins = begun a e l live stands c.in_ok-first.first c.in_ok-alive.alive
    c.leave_dead.new.families (search rules) is c.in_ok-alive.ensures.makes in
    let b : DiskState = g.D.Disk.state c.flush_each.new.disk in
    let first_spans : Spans a b (From e.next_file) (λ t image. Unit {0}) =
    subst (λ n. Spans a b (From n) (λ t image. Unit {0})) start
    (c.in_ok-flushed.ensures.spans trusted) in
    let d : DiskState = g.D.Disk.state c.make.new.disk in
    let told = trusted_on a b c.in_ok-flushed.ensures.goes trusted in
    let low : e.next_file ≤ c.in_ok-flushed.flushed.next_file =
    (let file = c.in_ok-flushed.ensures.file in omega (arith, file, start)) in
    let run = c.in_ok-log.ensures.any_moment told in
    let spans : Spans a d (From e.next_file) (λ t image. Unit {0}) =
    run_later a b d e.next_file c.in_ok-flushed.flushed.next_file (λ t left. Unit {0}) low
    first_spans run in
    let none : (family : ℕ) → rows_in (get nat_cmp c.flush_each.new.families family) ≡ empty =
    λ family. all_empty c.leave_dead.new.families c.flush_each.new.families live family
    (λ f there. (c.in_ok-flushed.ensures.flushed f there).rows) c.in_ok-flushed.ensures.others
    (c.in_ok-alive.ensures.rest family) in
    made a d (g.D.Disk.state c.publish.new.disk) l begins.0 live begins.2
    (making a d e l live stands spans)
    (c.publish.ensures.any_moment (trusted_on b d c.in_ok-log.ensures.goes told) l begins.0
    (lying a d e l live stands spans)
    (subst (λ (u : Version). DraftIsReady d (record e {
      log = c.in_ok-log.log;
      length = 0;
      families = c.flush_each.new.families;
    }) u begins.0) (sym c.in_ok-draft.ensures)
    (ready_new a d e l live stands spans b c.in_ok-flushed.flushed c.flush_each.new.families
    stands.reads.parts begins.0 (λ t left. Unit {0}) c.in_ok-log.log
    (c.in_ok-flushed.ensures.makes trusted stands.reads.parts begins.0 begins.1) begins.2
    (search rules) none run c.in_ok-log.ensures.file (c.in_ok-log.ensures.made told))))

pub returns-clause-carries : goal.returns-clause-carries
returns-clause-carries g c = on_ok_both c.publish.result
    (λ (version : version_in c.publish.new.self ≡ c.in_ok-draft.draft) others trusted l stands family
    there.
    let a : DiskState = g.D.Disk.state c.args.disk.now in
    let e = c.args.self.now in
    let live = c.args.live.now in
    let is : c.in_ok-first.first ≡ renumbered (version_of e.manifest) e.next_file e.next =
    c.in_ok-first.ensures ∙ ap (λ (v : Version). renumbered v e.next_file e.next) c.current.ensures in
    let start : c.in_ok-alive.alive.next_file ≡ e.next_file =
    c.in_ok-alive.ensures.file ∙ ap (λ (v : Version). v.next_file) is in
    let begins = begun a e l live stands c.in_ok-first.first c.in_ok-alive.alive
    c.leave_dead.new.families (search rules) is c.in_ok-alive.ensures.makes in
    let b : DiskState = g.D.Disk.state c.flush_each.new.disk in
    let first_spans : Spans a b (From e.next_file) (λ t image. Unit {0}) =
    subst (λ n. Spans a b (From n) (λ t image. Unit {0})) start
    (c.in_ok-flushed.ensures.spans trusted) in
    let d : DiskState = g.D.Disk.state c.make.new.disk in
    let z : DiskState = g.D.Disk.state c.publish.new.disk in
    let told = trusted_on a b c.in_ok-flushed.ensures.goes trusted in
    let low : e.next_file ≤ c.in_ok-flushed.flushed.next_file =
    (let file = c.in_ok-flushed.ensures.file in omega (arith, file, start)) in
    let run = c.in_ok-log.ensures.any_moment told in
    let spans : Spans a d (From e.next_file) (λ t image. Unit {0}) =
    run_later a b d e.next_file c.in_ok-flushed.flushed.next_file (λ t left. Unit {0}) low
    first_spans run in
    let none : (family : ℕ) → rows_in (get nat_cmp c.flush_each.new.families family) ≡ empty =
    λ family. all_empty c.leave_dead.new.families c.flush_each.new.families live family
    (λ f there. (c.in_ok-flushed.ensures.flushed f there).rows) c.in_ok-flushed.ensures.others
    (c.in_ok-alive.ensures.rest family) in
    let makes = c.in_ok-flushed.ensures.makes trusted stands.reads.parts begins.0 begins.1 in
    let ready : DraftIsReady d (record e {
      log = c.in_ok-log.log;
      length = 0;
      families = c.flush_each.new.families;
    }) c.in_ok-draft.draft begins.0 = subst (λ (u : Version). DraftIsReady d (record e {
      log = c.in_ok-log.log;
      length = 0;
      families = c.flush_each.new.families;
    }) u begins.0) (sym c.in_ok-draft.ensures)
    (ready_new a d e l live stands spans b c.in_ok-flushed.flushed c.flush_each.new.families
    stands.reads.parts begins.0 (λ t left. Unit {0}) c.in_ok-log.log makes begins.2
    (search rules) none run c.in_ok-log.ensures.file (c.in_ok-log.ensures.made told)) in
    let old = get nat_cmp e.families family in
    let alive = get nat_cmp c.leave_dead.new.families family in
    let new = get nat_cmp c.flush_each.new.families family in
    let flushed = carries_then a a b c.in_ok-first.first c.in_ok-alive.alive c.in_ok-flushed.flushed
    old alive new family (c.in_ok-alive.ensures.carries a family there)
    (c.in_ok-flushed.ensures.carries trusted stands.reads.parts begins.0 begins.1 family) in
    let logged = carries_then a b d c.in_ok-first.first c.in_ok-flushed.flushed
    (over_new_log c.in_ok-flushed.flushed) old new new family flushed
    (carries_new_log b d c.in_ok-flushed.flushed c.flush_each.new.families stands.reads.parts begins.0
    makes (λ t left. Unit {0}) run family) in
    carries_published a d z e c.publish.new.self c.in_ok-draft.draft c.flush_each.new.families
    ready.parts begins.0 c.as_slice.result.now family spans
    (subst (λ (v : Version). CarriesDraft a d v c.in_ok-draft.draft old new family) is
    (subst (λ (v : Version). CarriesDraft a d c.in_ok-first.first v old new family)
    (sym c.in_ok-draft.ensures) logged)) ready.makes
    (left_named e c.in_ok-first.first c.put_segments.new.left.items c.as_slice.result.now is
    (λ f one. subst (λ (xs : List ℕ). IsIn xs f) (c.in_ok-put_segments.ensures
    ∙ ap (λ xs. xs ++ c.in_ok-first.first.segments) c.new-left.ensures.items) one)
    (λ f one. c.in_ok-alive.ensures.left f
    (subst (λ (xs : List ℕ). IsIn xs f) c.as_slice.ensures.value one)))
    (others (trusted_on b d c.in_ok-log.ensures.goes told) begins.0 ready)
    c.publish.ensures.families version c.publish.ensures.file)
    c.publish.ensures.version c.publish.ensures.others

pub returns-clause-new_log : goal.returns-clause-new_log
returns-clause-new_log g c = on_ok_weaker c.publish.result
    (λ (version : version_in c.publish.new.self ≡ c.in_ok-draft.draft) trusted l stands.
    let a : DiskState = g.D.Disk.state c.args.disk.now in
    let e = c.args.self.now in
    let live = c.args.live.now in
    let is : c.in_ok-first.first ≡ renumbered (version_of e.manifest) e.next_file e.next =
    c.in_ok-first.ensures ∙ ap (λ (v : Version). renumbered v e.next_file e.next) c.current.ensures in
    let begins = begun a e l live stands c.in_ok-first.first c.in_ok-alive.alive
    c.leave_dead.new.families (search rules) is c.in_ok-alive.ensures.makes in
    let makes = c.in_ok-flushed.ensures.makes trusted stands.reads.parts begins.0 begins.1 in
    let flushed = c.in_ok-flushed.flushed in
    let draft : version_in c.publish.new.self ≡ over_new_log flushed =
    version ∙ c.in_ok-draft.ensures in
    record {
      segment = flushed.next_file;
      segments = ap (λ (v : Version). v.segments) draft;
      last = c.publish.ensures.file ∙ ap (λ (v : Version). v.next_file) c.in_ok-draft.ensures;
      log = ap log_file c.publish.ensures.log ∙ c.in_ok-log.ensures.file;
      form = ap form_of c.publish.ensures.log ∙ c.in_ok-log.ensures.given;
      left = λ f there of.
          let old : IsIn flushed.segments f = subst (λ (xs : List ℕ). IsIn xs f)
          (sym (c.in_ok-flushed.ensures.segments ∙ c.in_ok-alive.ensures.segments
          ∙ ap (λ (v : Version). v.segments) is)) there in
          let named : IsIn (files_named flushed) f =
          in_front flushed.segments (row_files flushed.families) f old in ⊎_elim
          (λ (first : f ≡ versions_file). named_later flushed f makes.drafted.is named first)
          (λ (name : IsIn (files_named (version_in c.publish.new.self)) f). ⊎_elim
          (λ (e : f ≡ flushed.next_file). above_all (files_named flushed) flushed.next_file
          makes.drafted.is.below (subst (IsIn (files_named flushed)) e named))
          (λ (row : IsIn (row_files flushed.families) f). apart flushed.segments
          (row_files flushed.families) f f makes.drafted.is.differ old row refl)
          (named_new_log flushed f
          (subst (λ (v : Version). IsIn (files_named v) f) draft name))) of;
      only = λ family there. ⊎_elim (λ (lives : IsIn live family). lives)
          (λ (out : IsIn live family → ⊥).
          absurd ((log_names flushed makes.drafted.is.rising family).1
          (c.in_ok-flushed.ensures.apart family out ∙ c.in_ok-alive.ensures.bare family out)
          (subst (λ (v : Version). IsIn (numbers_of v.families) family) draft there)))
          (in_or_not live family);
    }) c.publish.ensures.version

pub returns-clause-adds : goal.returns-clause-adds
returns-clause-adds g c = on_ok_both c.publish.result
    (λ (version : version_in c.publish.new.self ≡ c.in_ok-draft.draft) gone trusted.
    let a : DiskState = g.D.Disk.state c.args.disk.now in
    let e = c.args.self.now in
    let is : c.in_ok-first.first ≡ renumbered (version_of e.manifest) e.next_file e.next =
    c.in_ok-first.ensures ∙ ap (λ (v : Version). renumbered v e.next_file e.next) c.current.ensures in
    let b : DiskState = g.D.Disk.state c.flush_each.new.disk in
    let d : DiskState = g.D.Disk.state c.make.new.disk in
    let told = trusted_on a b c.in_ok-flushed.ensures.goes trusted in
    let made_told = trusted_on b d c.in_ok-log.ensures.goes told in
    let left = c.leave_dead.new.left.items in
    let segments : c.in_ok-flushed.flushed.segments ≡ c.in_ok-first.first.segments =
    c.in_ok-flushed.ensures.segments ∙ c.in_ok-alive.ensures.segments in
    let drops : DropsOnly c.in_ok-alive.alive c.in_ok-draft.draft c.in_ok-flushed.flushed.segments =
    subst (λ (v : Version). DropsOnly c.in_ok-alive.alive v c.in_ok-flushed.flushed.segments)
    (sym c.in_ok-draft.ensures) (λ f there. ⊎_elim
    (λ (on : IsIn (files_named c.in_ok-flushed.flushed) f).
    log_drops c.in_ok-flushed.flushed f on) (λ (no : ⊥). absurd no)
    (c.in_ok-flushed.ensures.drops f there)) in
    adds_draft (g.D.Disk.state c.publish.new.disk) e c.publish.new.self c.in_ok-draft.draft
    c.as_slice.result.now
    (drops_first e c.in_ok-first.first c.in_ok-draft.draft left c.as_slice.result.now is
    (drops_then c.in_ok-first.first c.in_ok-alive.alive c.in_ok-draft.draft left
    c.in_ok-flushed.flushed.segments c.in_ok-alive.ensures.drops drops
    (λ f there. c.in_ok-alive.ensures.kept f
    (subst (λ (xs : List ℕ). IsIn xs f) (sym c.in_ok-put_segments.ensures)
    (in_back c.new-left.result.items c.in_ok-first.first.segments f
    (subst (λ (xs : List ℕ). IsIn xs f) segments there))))) c.as_slice.ensures.value)
    (gone made_told) version c.publish.ensures.file)
    c.publish.ensures.version c.publish.ensures.gone

pub returns-clause-missing : goal.returns-clause-missing
returns-clause-missing g c = on_ok_weaker c.publish.result (λ missing trusted l stands.
    let a : DiskState = g.D.Disk.state c.args.disk.now in
    let e = c.args.self.now in
    let live = c.args.live.now in
    let is : c.in_ok-first.first ≡ renumbered (version_of e.manifest) e.next_file e.next =
    c.in_ok-first.ensures ∙ ap (λ (v : Version). renumbered v e.next_file e.next) c.current.ensures in
    let start : c.in_ok-alive.alive.next_file ≡ e.next_file =
    c.in_ok-alive.ensures.file ∙ ap (λ (v : Version). v.next_file) is in
    let begins = begun a e l live stands c.in_ok-first.first c.in_ok-alive.alive
    c.leave_dead.new.families (search rules) is c.in_ok-alive.ensures.makes in
    let b : DiskState = g.D.Disk.state c.flush_each.new.disk in
    let first_spans : Spans a b (From e.next_file) (λ t image. Unit {0}) =
    subst (λ n. Spans a b (From n) (λ t image. Unit {0})) start
    (c.in_ok-flushed.ensures.spans trusted) in
    let d : DiskState = g.D.Disk.state c.make.new.disk in
    let told = trusted_on a b c.in_ok-flushed.ensures.goes trusted in
    let low : e.next_file ≤ c.in_ok-flushed.flushed.next_file =
    (let file = c.in_ok-flushed.ensures.file in omega (arith, file, start)) in
    let run = c.in_ok-log.ensures.any_moment told in
    let spans : Spans a d (From e.next_file) (λ t image. Unit {0}) =
    run_later a b d e.next_file c.in_ok-flushed.flushed.next_file (λ t left. Unit {0}) low
    first_spans run in
    let none : (family : ℕ) → rows_in (get nat_cmp c.flush_each.new.families family) ≡ empty =
    λ family. all_empty c.leave_dead.new.families c.flush_each.new.families live family
    (λ f there. (c.in_ok-flushed.ensures.flushed f there).rows) c.in_ok-flushed.ensures.others
    (c.in_ok-alive.ensures.rest family) in
    let made_told = trusted_on b d c.in_ok-log.ensures.goes told in
    let makes = c.in_ok-flushed.ensures.makes trusted stands.reads.parts begins.0 begins.1 in
    let ready : DraftIsReady d (record e {
      log = c.in_ok-log.log;
      length = 0;
      families = c.flush_each.new.families;
    }) c.in_ok-draft.draft begins.0 = subst (λ (u : Version). DraftIsReady d (record e {
      log = c.in_ok-log.log;
      length = 0;
      families = c.flush_each.new.families;
    }) u begins.0) (sym c.in_ok-draft.ensures)
    (ready_new a d e l live stands spans b c.in_ok-flushed.flushed c.flush_each.new.families
    stands.reads.parts begins.0 (λ t left. Unit {0}) c.in_ok-log.log makes begins.2
    (search rules) none run c.in_ok-log.ensures.file (c.in_ok-log.ensures.made told)) in
    makes_none a d (g.D.Disk.state c.publish.new.disk) e l stands
    (λ f below. spans.file f (λ le. omega (arith, below, le))) (missing made_told begins.0 ready)) c.publish.ensures.missing

pub returns-in_err-first-clause-one_version : goal.returns-in_err-first-clause-one_version
returns-in_err-first-clause-one_version g c trusted l stands =
    let a : DiskState = g.D.Disk.state c.args.disk.now in
    let e = c.args.self.now in no_version a a e l stands (none_removed a (From e.next_file))

pub returns-in_err-put_segments-clause-one_version : goal.returns-in_err-put_segments-clause-one_version
returns-in_err-put_segments-clause-one_version g c trusted l stands =
    let a : DiskState = g.D.Disk.state c.args.disk.now in
    let e = c.args.self.now in no_version a a e l stands (none_removed a (From e.next_file))

pub returns-in_err-alive-clause-one_version : goal.returns-in_err-alive-clause-one_version
returns-in_err-alive-clause-one_version g c trusted l stands =
    let a : DiskState = g.D.Disk.state c.args.disk.now in
    let e = c.args.self.now in no_version a a e l stands (none_removed a (From e.next_file))

pub returns-in_err-flushed-clause-one_version : goal.returns-in_err-flushed-clause-one_version
returns-in_err-flushed-clause-one_version g c trusted l stands =
    let a : DiskState = g.D.Disk.state c.args.disk.now in
    let e = c.args.self.now in
    let is : c.in_ok-first.first ≡ renumbered (version_of e.manifest) e.next_file e.next =
    c.in_ok-first.ensures ∙ ap (λ (v : Version). renumbered v e.next_file e.next) c.current.ensures in
    let start : c.in_ok-alive.alive.next_file ≡ e.next_file =
    c.in_ok-alive.ensures.file ∙ ap (λ (v : Version). v.next_file) is in
    let b : DiskState = g.D.Disk.state c.flush_each.new.disk in
    no_version a b e l stands (subst (λ n. Spans a b (From n) (λ t image. Unit {0})) start
    (c.in_err-flushed.ensures.spans trusted))

pub returns-then-flushed-clause-one_version : goal.returns-then-flushed-clause-one_version
returns-then-flushed-clause-one_version g c trusted l stands =
    let a : DiskState = g.D.Disk.state c.args.disk.now in
    let e = c.args.self.now in
    let is : c.in_ok-first.first ≡ renumbered (version_of e.manifest) e.next_file e.next =
    c.in_ok-first.ensures ∙ ap (λ (v : Version). renumbered v e.next_file e.next) c.current.ensures in
    let start : c.in_ok-alive.alive.next_file ≡ e.next_file =
    c.in_ok-alive.ensures.file ∙ ap (λ (v : Version). v.next_file) is in
    let b : DiskState = g.D.Disk.state c.flush_each.new.disk in
    no_version a b e l stands (subst (λ n. Spans a b (From n) (λ t image. Unit {0})) start
    (c.in_ok-flushed.ensures.spans trusted))

pub returns-in_err-log-clause-one_version : goal.returns-in_err-log-clause-one_version
returns-in_err-log-clause-one_version g c trusted l stands =
    let a : DiskState = g.D.Disk.state c.args.disk.now in
    let e = c.args.self.now in
    let is : c.in_ok-first.first ≡ renumbered (version_of e.manifest) e.next_file e.next =
    c.in_ok-first.ensures ∙ ap (λ (v : Version). renumbered v e.next_file e.next) c.current.ensures in
    let start : c.in_ok-alive.alive.next_file ≡ e.next_file =
    c.in_ok-alive.ensures.file ∙ ap (λ (v : Version). v.next_file) is in
    let b : DiskState = g.D.Disk.state c.flush_each.new.disk in
    let first_spans : Spans a b (From e.next_file) (λ t image. Unit {0}) =
    subst (λ n. Spans a b (From n) (λ t image. Unit {0})) start
    (c.in_ok-flushed.ensures.spans trusted) in
    let d : DiskState = g.D.Disk.state c.make.new.disk in
    let told = trusted_on a b c.in_ok-flushed.ensures.goes trusted in
    let low : e.next_file ≤ c.in_ok-flushed.flushed.next_file =
    (let file = c.in_ok-flushed.ensures.file in omega (arith, file, start)) in
    let run = c.in_err-log.ensures.any_moment told in
    no_version a d e l stands (run_later a b d e.next_file c.in_ok-flushed.flushed.next_file
    (λ t left. Unit {0}) low first_spans run)

pub returns-in_err-draft-clause-one_version : goal.returns-in_err-draft-clause-one_version
returns-in_err-draft-clause-one_version g c trusted l stands =
    let a : DiskState = g.D.Disk.state c.args.disk.now in
    let e = c.args.self.now in
    let is : c.in_ok-first.first ≡ renumbered (version_of e.manifest) e.next_file e.next =
    c.in_ok-first.ensures ∙ ap (λ (v : Version). renumbered v e.next_file e.next) c.current.ensures in
    let start : c.in_ok-alive.alive.next_file ≡ e.next_file =
    c.in_ok-alive.ensures.file ∙ ap (λ (v : Version). v.next_file) is in
    let b : DiskState = g.D.Disk.state c.flush_each.new.disk in
    let first_spans : Spans a b (From e.next_file) (λ t image. Unit {0}) =
    subst (λ n. Spans a b (From n) (λ t image. Unit {0})) start
    (c.in_ok-flushed.ensures.spans trusted) in
    let d : DiskState = g.D.Disk.state c.make.new.disk in
    let told = trusted_on a b c.in_ok-flushed.ensures.goes trusted in
    let low : e.next_file ≤ c.in_ok-flushed.flushed.next_file =
    (let file = c.in_ok-flushed.ensures.file in omega (arith, file, start)) in
    let run = c.in_ok-log.ensures.any_moment told in
    no_version a d e l stands (run_later a b d e.next_file c.in_ok-flushed.flushed.next_file
    (λ t left. Unit {0}) low first_spans run)

pub returns-clause-one_version : goal.returns-clause-one_version
returns-clause-one_version g c trusted l stands =
    let a : DiskState = g.D.Disk.state c.args.disk.now in
    let e = c.args.self.now in
    let live = c.args.live.now in
    let is : c.in_ok-first.first ≡ renumbered (version_of e.manifest) e.next_file e.next =
    c.in_ok-first.ensures ∙ ap (λ (v : Version). renumbered v e.next_file e.next) c.current.ensures in
    let start : c.in_ok-alive.alive.next_file ≡ e.next_file =
    c.in_ok-alive.ensures.file ∙ ap (λ (v : Version). v.next_file) is in
    let begins = begun a e l live stands c.in_ok-first.first c.in_ok-alive.alive
    c.leave_dead.new.families (search rules) is c.in_ok-alive.ensures.makes in
    let b : DiskState = g.D.Disk.state c.flush_each.new.disk in
    let first_spans : Spans a b (From e.next_file) (λ t image. Unit {0}) =
    subst (λ n. Spans a b (From n) (λ t image. Unit {0})) start
    (c.in_ok-flushed.ensures.spans trusted) in
    let d : DiskState = g.D.Disk.state c.make.new.disk in
    let told = trusted_on a b c.in_ok-flushed.ensures.goes trusted in
    let low : e.next_file ≤ c.in_ok-flushed.flushed.next_file =
    (let file = c.in_ok-flushed.ensures.file in omega (arith, file, start)) in
    let run = c.in_ok-log.ensures.any_moment told in
    let spans : Spans a d (From e.next_file) (λ t image. Unit {0}) =
    run_later a b d e.next_file c.in_ok-flushed.flushed.next_file (λ t left. Unit {0}) low
    first_spans run in
    let none : (family : ℕ) → rows_in (get nat_cmp c.flush_each.new.families family) ≡ empty =
    λ family. all_empty c.leave_dead.new.families c.flush_each.new.families live family
    (λ f there. (c.in_ok-flushed.ensures.flushed f there).rows) c.in_ok-flushed.ensures.others
    (c.in_ok-alive.ensures.rest family) in
    let made_told = trusted_on b d c.in_ok-log.ensures.goes told in
    let makes = c.in_ok-flushed.ensures.makes trusted stands.reads.parts begins.0 begins.1 in
    let ready : DraftIsReady d (record e {
      log = c.in_ok-log.log;
      length = 0;
      families = c.flush_each.new.families;
    }) c.in_ok-draft.draft begins.0 = subst (λ (u : Version). DraftIsReady d (record e {
      log = c.in_ok-log.log;
      length = 0;
      families = c.flush_each.new.families;
    }) u begins.0) (sym c.in_ok-draft.ensures)
    (ready_new a d e l live stands spans b c.in_ok-flushed.flushed c.flush_each.new.families
    stands.reads.parts begins.0 (λ t left. Unit {0}) c.in_ok-log.log makes begins.2
    (search rules) none run c.in_ok-log.ensures.file (c.in_ok-log.ensures.made told)) in
    one_version a d e l stands spans (g.D.Disk.state c.publish.new.disk) c.in_ok-draft.draft
    (c.publish.ensures.one_version made_told begins.0 ready)
