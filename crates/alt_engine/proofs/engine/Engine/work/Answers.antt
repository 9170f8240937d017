-- What becomes of the merge under way, and then the task.
use Rattle.std.proofs.Common.{◌≡◌, ◌<◌, ⊎_elim, inl, inr, sym, ap, subst, ◌∙◌, arith}
use Rattle.std.proofs.lemmas.Result.{IfOk-weaker, on_ok_weaker}
use Rattle.std.specs.Prelude.{◌⊎◌}
use Rattle.alt_disk.specs.Disk.{DiskState, IsTrusted}
use Rattle.alt_disk.proofs.Runs.{trusted_back, trusted_on}
use Rattle.alt_disk.specs.Runs.{Spans}
use Rattle.alt_manifest.specs.declared.version.Version.{Version}
use Rattle.alt_merging.specs.HandAdding.{AddsVersion, HasLast, HasOneOf, IsOverNewLog, LeavesOut}
use Rattle.alt_merging.specs.HandInHand.{length_of, next_file_of}
use Rattle.alt_merging.specs.HandMerging.{HasMany, files_at, memory_at, version_in}
use Rattle.alt_merging.specs.HandWorking.{AreAllFlushed, IsCalm, IsFlushDone, IsLong, LogIsShort}
use Rattle.alt_merging.specs.HandDeclaredHand.{Hand}
use Rattle.alt_merging.proofs.HandAddingLaws.{last_or}
use Rattle.alt_merging.proofs.HandCarryLaws.{on_ok_both}
use Rattle.alt_merging.proofs.HandWorkLaws.{no_entries, step_short}
use Rattle.alt_merging.specs.Merged.{AreMerged}
use Rattle.alt_merging.specs.Mergings.{file_of_merging}
use Rattle.alt_merging.proofs.EachLaws.{merged_on}
use Rattle.alt_merging.proofs.StepLaws.{has_works, then_works}
use Rattle.alt_engine.specs.InHand.{StandsForLayout, hand_of, merge_of}
use Rattle.alt_engine.specs.Versions.{IsAfter}
use Rattle.alt_engine.specs.Working.{AllMerged, BeginsMerge, Did, EndsMerge, FurthersMerge, IsIdle}
use Rattle.alt_engine.specs.declared.engine.Engine.{Engine}
use Rattle.alt_engine.specs.declared.work.Task.{Task}
use Rattle.alt_engine.proofs.Turning.{all_merged, begins_back, busy_all, busy_by, did_flush, ends_back, first_lives, flush_busy, flushed, free_back, free_none, free_on, goes_back, idle_all, job_back, job_below, keeps_after, makes_back, merged_back, merged_forth, no_job, none_after, none_free}
use Rattle.alt_engine.proofs.Versioning.{after_step, new_log_read, next_read, once_done, once_done_with, one_behind, removed_read, version_read, without_read}
use Rattle.alt_engine.proofs.engine.Engine.work.Goals as goal

pub returns-in_err-give_up-clause-any_moment : goal.returns-in_err-give_up-clause-any_moment
returns-in_err-give_up-clause-any_moment g c trusted l stands =
    has_works (g.D.Disk.state c.args.disk.now) (g.D.Disk.state c.give_up.new.disk) c.args.live.now l
    (c.give_up.ensures.any_moment trusted l stands)

pub step-requires-clause-ready : goal.step-requires-clause-ready
step-requires-clause-ready g c told =
    let trusted = trusted_back (g.D.Disk.state c.args.disk.now) (g.D.Disk.state c.give_up.new.disk)
    c.give_up.ensures.goes told in
    let given = c.requires.ready trusted in
    (given.0, c.in_ok-give_up.ensures.ok trusted given.0 given.1)

pub flush_all-requires-clause-ready : goal.flush_all-requires-clause-ready
flush_all-requires-clause-ready g c told =
    let trusted = trusted_back (g.D.Disk.state c.args.disk.now) (g.D.Disk.state c.give_up.new.disk)
    c.give_up.ensures.goes told in
    let given = c.requires.ready trusted in
    (given.0, c.in_ok-give_up.ensures.ok trusted given.0 given.1)

pub merge_all-requires-clause-ready : goal.merge_all-requires-clause-ready
merge_all-requires-clause-ready g c told =
    let trusted = trusted_back (g.D.Disk.state c.args.disk.now) (g.D.Disk.state c.give_up.new.disk)
    c.give_up.ensures.goes told in
    let given = c.requires.ready trusted in
    (given.0, c.in_ok-give_up.ensures.ok trusted given.0 given.1)

pub returns-in-Step-clause-ok : goal.returns-in-Step-clause-ok
returns-in-Step-clause-ok g c = on_ok_weaker c.step.result (λ ok trusted l stands.
    let a : DiskState = g.D.Disk.state c.args.disk.now in
    let b : DiskState = g.D.Disk.state c.give_up.new.disk in
    let e : Engine = c.args.self.now in
    let f : Engine = c.give_up.new.self in
    let live = c.args.live.now in
    let turned = c.in_ok-give_up.ensures.turned in
    let same : hand_of f ≡ hand_of e = c.give_up.ensures.hand in
    let told = trusted_on a b c.give_up.ensures.goes trusted in
    let at : StandsForLayout b f l = c.in_ok-give_up.ensures.ok trusted l stands in
    ok told l at) c.step.ensures.ok

pub returns-in-Step-clause-any_moment : goal.returns-in-Step-clause-any_moment
returns-in-Step-clause-any_moment g c trusted l stands =
    let a : DiskState = g.D.Disk.state c.args.disk.now in
    let b : DiskState = g.D.Disk.state c.give_up.new.disk in
    let e : Engine = c.args.self.now in
    let f : Engine = c.give_up.new.self in
    let live = c.args.live.now in
    let turned = c.in_ok-give_up.ensures.turned in
    let same : hand_of f ≡ hand_of e = c.give_up.ensures.hand in
    let told = trusted_on a b c.give_up.ensures.goes trusted in
    let at : StandsForLayout b f l = c.in_ok-give_up.ensures.ok trusted l stands in
    then_works a b (g.D.Disk.state c.step.new.disk) live l (c.give_up.ensures.any_moment trusted l stands)
    (c.step.ensures.any_moment told l at)

pub returns-in-FlushAll-clause-ok : goal.returns-in-FlushAll-clause-ok
returns-in-FlushAll-clause-ok g c = on_ok_weaker c.flush_all.result (λ ok trusted l stands.
    let a : DiskState = g.D.Disk.state c.args.disk.now in
    let b : DiskState = g.D.Disk.state c.give_up.new.disk in
    let e : Engine = c.args.self.now in
    let f : Engine = c.give_up.new.self in
    let live = c.args.live.now in
    let turned = c.in_ok-give_up.ensures.turned in
    let same : hand_of f ≡ hand_of e = c.give_up.ensures.hand in
    let told = trusted_on a b c.give_up.ensures.goes trusted in
    let at : StandsForLayout b f l = c.in_ok-give_up.ensures.ok trusted l stands in
    ok told l at) c.flush_all.ensures.ok

pub returns-in-FlushAll-clause-any_moment : goal.returns-in-FlushAll-clause-any_moment
returns-in-FlushAll-clause-any_moment g c trusted l stands =
    let a : DiskState = g.D.Disk.state c.args.disk.now in
    let b : DiskState = g.D.Disk.state c.give_up.new.disk in
    let e : Engine = c.args.self.now in
    let f : Engine = c.give_up.new.self in
    let live = c.args.live.now in
    let turned = c.in_ok-give_up.ensures.turned in
    let same : hand_of f ≡ hand_of e = c.give_up.ensures.hand in
    let told = trusted_on a b c.give_up.ensures.goes trusted in
    let at : StandsForLayout b f l = c.in_ok-give_up.ensures.ok trusted l stands in
    then_works a b (g.D.Disk.state c.flush_all.new.disk) live l (c.give_up.ensures.any_moment trusted l stands)
    (c.flush_all.ensures.any_moment told l at)

pub returns-in-MergeAll-clause-ok : goal.returns-in-MergeAll-clause-ok
returns-in-MergeAll-clause-ok g c = on_ok_weaker c.merge_all.result (λ ok trusted l stands.
    let a : DiskState = g.D.Disk.state c.args.disk.now in
    let b : DiskState = g.D.Disk.state c.give_up.new.disk in
    let e : Engine = c.args.self.now in
    let f : Engine = c.give_up.new.self in
    let live = c.args.live.now in
    let turned = c.in_ok-give_up.ensures.turned in
    let same : hand_of f ≡ hand_of e = c.give_up.ensures.hand in
    let told = trusted_on a b c.give_up.ensures.goes trusted in
    let at : StandsForLayout b f l = c.in_ok-give_up.ensures.ok trusted l stands in
    ok told l at) c.merge_all.ensures.ok

pub returns-in-MergeAll-clause-any_moment : goal.returns-in-MergeAll-clause-any_moment
returns-in-MergeAll-clause-any_moment g c trusted l stands =
    let a : DiskState = g.D.Disk.state c.args.disk.now in
    let b : DiskState = g.D.Disk.state c.give_up.new.disk in
    let e : Engine = c.args.self.now in
    let f : Engine = c.give_up.new.self in
    let live = c.args.live.now in
    let turned = c.in_ok-give_up.ensures.turned in
    let same : hand_of f ≡ hand_of e = c.give_up.ensures.hand in
    let told = trusted_on a b c.give_up.ensures.goes trusted in
    let at : StandsForLayout b f l = c.in_ok-give_up.ensures.ok trusted l stands in
    then_works a b (g.D.Disk.state c.merge_all.new.disk) live l (c.give_up.ensures.any_moment trusted l stands)
    (c.merge_all.ensures.any_moment told l at)

pub returns-in-Step-clause-idle : goal.returns-in-Step-clause-idle
returns-in-Step-clause-idle g c = IfOk-weaker c.step.result _ _ (λ w h it trusted l stands.
    let a : DiskState = g.D.Disk.state c.args.disk.now in
    let b : DiskState = g.D.Disk.state c.give_up.new.disk in
    let e : Engine = c.args.self.now in
    let f : Engine = c.give_up.new.self in
    let live = c.args.live.now in
    let turned = c.in_ok-give_up.ensures.turned in
    let same : hand_of f ≡ hand_of e = c.give_up.ensures.hand in
    let told = trusted_on a b c.give_up.ensures.goes trusted in
    let at : StandsForLayout b f l = c.in_ok-give_up.ensures.ok trusted l stands in
    let got = h it told l at in
    let calm = subst (λ (h : Hand). LogIsShort h × IsCalm live h) same got.0 in
    subst (λ (t : Task). IsIdle t a live e) (sym c.in-Step.is) (
      flushed a live e l stands calm,
      (
        free_back a b live e f turned same (free_none live f got.1.0),
        λ family there many. got.1.1 family there (subst (λ (k : Hand). HasMany k family) (sym same) many),
      ),
    ))
    c.step.ensures.idle

pub returns-in-Step-clause-busy : goal.returns-in-Step-clause-busy
returns-in-Step-clause-busy g c = busy_by c.step.result
    (λ went trusted l stands idle.
    let a : DiskState = g.D.Disk.state c.args.disk.now in
    let b : DiskState = g.D.Disk.state c.give_up.new.disk in
    let e : Engine = c.args.self.now in
    let f : Engine = c.give_up.new.self in
    let live = c.args.live.now in
    let turned = c.in_ok-give_up.ensures.turned in
    let same : hand_of f ≡ hand_of e = c.give_up.ensures.hand in
    let told = trusted_on a b c.give_up.ensures.goes trusted in
    let at : StandsForLayout b f l = c.in_ok-give_up.ensures.ok trusted l stands in
    let none = subst (λ (t : Task). IsIdle t a live e) c.in-Step.is idle in
    ⊎_elim
    (λ (begins : BeginsMerge live f c.step.new.self). none.1.1 begins.family
    (first_lives live (hand_of f) begins.family begins.first)
    (subst (λ (k : Hand). HasMany k begins.family) same begins.first.many))
    (λ (goes : FurthersMerge b (g.D.Disk.state c.step.new.disk) live f c.step.new.self).
    free_on a b live e f turned same none.1.0 goes.0 goes.1) (went told l at).1)
    (λ done trusted l stands idle.
    let a : DiskState = g.D.Disk.state c.args.disk.now in
    let b : DiskState = g.D.Disk.state c.give_up.new.disk in
    let e : Engine = c.args.self.now in
    let f : Engine = c.give_up.new.self in
    let live = c.args.live.now in
    let turned = c.in_ok-give_up.ensures.turned in
    let same : hand_of f ≡ hand_of e = c.give_up.ensures.hand in
    let told = trusted_on a b c.give_up.ensures.goes trusted in
    let at : StandsForLayout b f l = c.in_ok-give_up.ensures.ok trusted l stands in
    let none = subst (λ (t : Task). IsIdle t a live e) c.in-Step.is idle in
    ⊎_elim
    (λ (flush : IsFlushDone live (hand_of f) (hand_of c.step.new.self)).
    flush_busy a live e l stands (hand_of c.step.new.self)
    (subst (λ (k : Hand). IsFlushDone live k (hand_of c.step.new.self)) same flush) none.0)
    (λ (ends : (LogIsShort (hand_of f) × IsCalm live (hand_of f))
    × EndsMerge b (g.D.Disk.state c.step.new.disk) live f c.step.new.self).
    free_on a b live e f turned same none.1.0 ends.1.0 ends.1.1) (done told l at))
    c.step.ensures.went c.step.ensures.done

pub returns-in-Step-clause-went : goal.returns-in-Step-clause-went
returns-in-Step-clause-went g c = IfOk-weaker c.step.result _ _ (λ w h it trusted l stands.
    let a : DiskState = g.D.Disk.state c.args.disk.now in
    let b : DiskState = g.D.Disk.state c.give_up.new.disk in
    let e : Engine = c.args.self.now in
    let f : Engine = c.give_up.new.self in
    let live = c.args.live.now in
    let turned = c.in_ok-give_up.ensures.turned in
    let same : hand_of f ≡ hand_of e = c.give_up.ensures.hand in
    let told = trusted_on a b c.give_up.ensures.goes trusted in
    let at : StandsForLayout b f l = c.in_ok-give_up.ensures.ok trusted l stands in
    let got = h it told l at in
    let calm = subst (λ (h : Hand). LogIsShort h × IsCalm live h) same got.0 in
    let d : DiskState = g.D.Disk.state c.step.new.disk in (
      c.in-Step.is,
      (
        flushed a live e l stands calm,
        ⊎_elim
            (λ (begins : BeginsMerge live f c.step.new.self).
            inl (begins_back a b live e f turned same c.step.new.self begins))
            (λ (goes : FurthersMerge b d live f c.step.new.self).
            inr (goes_back a b live e f turned same d c.step.new.self goes)) got.1,
      ),
    )) c.step.ensures.went

pub returns-in-Step-clause-done : goal.returns-in-Step-clause-done
returns-in-Step-clause-done g c = IfOk-weaker c.step.result _ _ (λ w h it trusted l stands.
    let a : DiskState = g.D.Disk.state c.args.disk.now in
    let b : DiskState = g.D.Disk.state c.give_up.new.disk in
    let e : Engine = c.args.self.now in
    let f : Engine = c.give_up.new.self in
    let live = c.args.live.now in
    let turned = c.in_ok-give_up.ensures.turned in
    let same : hand_of f ≡ hand_of e = c.give_up.ensures.hand in
    let told = trusted_on a b c.give_up.ensures.goes trusted in
    let at : StandsForLayout b f l = c.in_ok-give_up.ensures.ok trusted l stands in
    let d : DiskState = g.D.Disk.state c.step.new.disk in
    let new : Engine = c.step.new.self in
    subst (λ (t : Task). Did t a d live e new) (sym c.in-Step.is) (⊎_elim
    (λ (flush : IsFlushDone live (hand_of f) (hand_of new)). did_flush a live e l stands d new
    (subst (λ (k : Hand). IsFlushDone live k (hand_of new)) same flush))
    (λ (ends : (LogIsShort (hand_of f) × IsCalm live (hand_of f)) × EndsMerge b d live f new).
    inr (inr (
      flushed a live e l stands (subst (λ (h : Hand). LogIsShort h × IsCalm live h) same ends.0),
      ends_back a b live e f turned same d new ends.1,
    ))) (h it told l at))) c.step.ensures.done

pub returns-in-Step-clause-step : goal.returns-in-Step-clause-step
returns-in-Step-clause-step g c it some = on_ok_both c.step.result
    (λ ok (bytes : (length_of (hand_of c.step.new.self) ≡ 0)
    ⊎ (LogIsShort (hand_of c.give_up.new.self)
    × (length_of (hand_of c.step.new.self) ≡ length_of (hand_of c.give_up.new.self)))) trusted.
    let given = c.requires.ready trusted in let l = given.0 in let stands = given.1 in
    let a : DiskState = g.D.Disk.state c.args.disk.now in
    let b : DiskState = g.D.Disk.state c.give_up.new.disk in
    let e : Engine = c.args.self.now in
    let f : Engine = c.give_up.new.self in
    let live = c.args.live.now in
    let turned = c.in_ok-give_up.ensures.turned in
    let same : hand_of f ≡ hand_of e = c.give_up.ensures.hand in
    let told = trusted_on a b c.give_up.ensures.goes trusted in
    let at : StandsForLayout b f l = c.in_ok-give_up.ensures.ok trusted l stands in
    let m = ok told l at in
    step_short (g.D.Disk.state c.step.new.disk) (hand_of e) (hand_of c.step.new.self) m.0 some m.1.hand
    (subst (λ (h : Hand). (length_of (hand_of c.step.new.self) ≡ 0)
    ⊎ (LogIsShort h × (length_of (hand_of c.step.new.self) ≡ length_of h))) same bytes))
    c.step.ensures.ok c.step.ensures.length

pub returns-in-FlushAll-clause-idle : goal.returns-in-FlushAll-clause-idle
returns-in-FlushAll-clause-idle g c = IfOk-weaker c.flush_all.result _ _ (λ w h it trusted l stands.
    let a : DiskState = g.D.Disk.state c.args.disk.now in
    let b : DiskState = g.D.Disk.state c.give_up.new.disk in
    let e : Engine = c.args.self.now in
    let f : Engine = c.give_up.new.self in
    let live = c.args.live.now in
    let turned = c.in_ok-give_up.ensures.turned in
    let same : hand_of f ≡ hand_of e = c.give_up.ensures.hand in
    let told = trusted_on a b c.give_up.ensures.goes trusted in
    let at : StandsForLayout b f l = c.in_ok-give_up.ensures.ok trusted l stands in
    subst (λ (t : Task). IsIdle t a live e) (sym c.in-FlushAll.is)
    (idle_all a live e l stands (subst (λ (k : Hand). length_of k ≡ 0) same (h it))))
    c.flush_all.ensures.idle

pub returns-in-FlushAll-clause-busy : goal.returns-in-FlushAll-clause-busy
returns-in-FlushAll-clause-busy g c = IfOk-weaker c.flush_all.result _ _ (λ w h no trusted l stands idle.
    let a : DiskState = g.D.Disk.state c.args.disk.now in
    let b : DiskState = g.D.Disk.state c.give_up.new.disk in
    let e : Engine = c.args.self.now in
    let f : Engine = c.give_up.new.self in
    let live = c.args.live.now in
    let turned = c.in_ok-give_up.ensures.turned in
    let same : hand_of f ≡ hand_of e = c.give_up.ensures.hand in
    let told = trusted_on a b c.give_up.ensures.goes trusted in
    let at : StandsForLayout b f l = c.in_ok-give_up.ensures.ok trusted l stands in
    busy_all a live e l stands
    (λ none. h no (subst (λ (k : Hand). length_of k ≡ 0) (sym same) none))
    (subst (λ (t : Task). IsIdle t a live e) c.in-FlushAll.is idle)) c.flush_all.ensures.busy

pub returns-in-FlushAll-clause-flush_all : goal.returns-in-FlushAll-clause-flush_all
returns-in-FlushAll-clause-flush_all g c it = on_ok_both c.flush_all.result
    (λ ok (none : length_of (hand_of c.flush_all.new.self) ≡ 0) trusted.
    let given = c.requires.ready trusted in let l = given.0 in let stands = given.1 in
    let a : DiskState = g.D.Disk.state c.args.disk.now in
    let b : DiskState = g.D.Disk.state c.give_up.new.disk in
    let e : Engine = c.args.self.now in
    let f : Engine = c.give_up.new.self in
    let live = c.args.live.now in
    let turned = c.in_ok-give_up.ensures.turned in
    let same : hand_of f ≡ hand_of e = c.give_up.ensures.hand in
    let told = trusted_on a b c.give_up.ensures.goes trusted in
    let at : StandsForLayout b f l = c.in_ok-give_up.ensures.ok trusted l stands in
    let m = ok told l at in
    no_entries (g.D.Disk.state c.flush_all.new.disk) (hand_of c.flush_all.new.self) m.0 m.1.hand none)
    c.flush_all.ensures.ok c.flush_all.ensures.length

pub returns-in-MergeAll-clause-idle : goal.returns-in-MergeAll-clause-idle
returns-in-MergeAll-clause-idle g c = IfOk-weaker c.merge_all.result _ _ (λ w h it trusted l stands.
    let a : DiskState = g.D.Disk.state c.args.disk.now in
    let b : DiskState = g.D.Disk.state c.give_up.new.disk in
    let e : Engine = c.args.self.now in
    let f : Engine = c.give_up.new.self in
    let live = c.args.live.now in
    let turned = c.in_ok-give_up.ensures.turned in
    let same : hand_of f ≡ hand_of e = c.give_up.ensures.hand in
    let told = trusted_on a b c.give_up.ensures.goes trusted in
    let at : StandsForLayout b f l = c.in_ok-give_up.ensures.ok trusted l stands in
    let got = h it told in
    subst (λ (t : Task). IsIdle t a live e) (sym c.in-MergeAll.is) (
      free_back a b live e f turned same (free_none live f got.0),
      merged_back a b live (hand_of e) (hand_of f) same (c.give_up.ensures.still trusted l stands) got.1,
    ))
    c.merge_all.ensures.idle

pub returns-in-MergeAll-clause-busy : goal.returns-in-MergeAll-clause-busy
returns-in-MergeAll-clause-busy g c = IfOk-weaker c.merge_all.result _ _ (λ w h no trusted l stands idle.
    let a : DiskState = g.D.Disk.state c.args.disk.now in
    let b : DiskState = g.D.Disk.state c.give_up.new.disk in
    let e : Engine = c.args.self.now in
    let f : Engine = c.give_up.new.self in
    let live = c.args.live.now in
    let turned = c.in_ok-give_up.ensures.turned in
    let same : hand_of f ≡ hand_of e = c.give_up.ensures.hand in
    let told = trusted_on a b c.give_up.ensures.goes trusted in
    let at : StandsForLayout b f l = c.in_ok-give_up.ensures.ok trusted l stands in
    let none = subst (λ (t : Task). IsIdle t a live e) c.in-MergeAll.is idle in
    h no told (none_free live f (keeps_after a b live e f turned same)
    (free_on a b live e f turned same none.0))
    (merged_forth a b live (hand_of e) (hand_of f) same (c.give_up.ensures.still trusted l stands)
    none.1)) c.merge_all.ensures.busy

pub returns-in-MergeAll-clause-merge_all : goal.returns-in-MergeAll-clause-merge_all
returns-in-MergeAll-clause-merge_all g c it = on_ok_both c.merge_all.result
    (λ ok (merged : IsTrusted (g.D.Disk.state c.give_up.new.disk)
    → AllMerged (g.D.Disk.state c.merge_all.new.disk) c.args.live.now (hand_of c.merge_all.new.self))
    trusted.
    let given = c.requires.ready trusted in let l = given.0 in let stands = given.1 in
    let a : DiskState = g.D.Disk.state c.args.disk.now in
    let b : DiskState = g.D.Disk.state c.give_up.new.disk in
    let e : Engine = c.args.self.now in
    let f : Engine = c.give_up.new.self in
    let live = c.args.live.now in
    let turned = c.in_ok-give_up.ensures.turned in
    let same : hand_of f ≡ hand_of e = c.give_up.ensures.hand in
    let told = trusted_on a b c.give_up.ensures.goes trusted in
    let at : StandsForLayout b f l = c.in_ok-give_up.ensures.ok trusted l stands in
    let m = ok told l at in
    all_merged (g.D.Disk.state c.merge_all.new.disk) live (hand_of c.merge_all.new.self) m.0 m.1.hand
    (merged told)) c.merge_all.ensures.ok c.merge_all.ensures.merged

pub returns-in-Step-clause-given_up : goal.returns-in-Step-clause-given_up
returns-in-Step-clause-given_up g c = on_ok_weaker c.step.result (λ missing trusted l stands j is dead.
    let a : DiskState = g.D.Disk.state c.args.disk.now in
    let b : DiskState = g.D.Disk.state c.give_up.new.disk in
    let e : Engine = c.args.self.now in
    let f : Engine = c.give_up.new.self in
    let live = c.args.live.now in
    let turned = c.in_ok-give_up.ensures.turned in
    let same : hand_of f ≡ hand_of e = c.give_up.ensures.hand in
    let told = trusted_on a b c.give_up.ensures.goes trusted in
    let at : StandsForLayout b f l = c.in_ok-give_up.ensures.ok trusted l stands in
    let none = none_after a b live e f turned j is dead in
    missing told l at (file_of_merging j) (λ k there. absurd (no_job (merge_of f) k none there))
    (subst (λ (h : Hand). file_of_merging j < next_file_of h) (sym same) (job_below a e j l stands is))
    (c.in_ok-give_up.ensures.gone trusted j is dead)) c.step.ensures.missing

pub returns-in-Step-clause-next_file : goal.returns-in-Step-clause-next_file
returns-in-Step-clause-next_file g c = once_done c.step.result
    (λ ok adds also trusted w has.
    let given = c.requires.ready trusted in let l = given.0 in let stands = given.1 in
    let a : DiskState = g.D.Disk.state c.args.disk.now in
    let b : DiskState = g.D.Disk.state c.give_up.new.disk in
    let e : Engine = c.args.self.now in
    let f : Engine = c.give_up.new.self in
    let live = c.args.live.now in
    let turned = c.in_ok-give_up.ensures.turned in
    let same : hand_of f ≡ hand_of e = c.give_up.ensures.hand in
    let told = trusted_on a b c.give_up.ensures.goes trusted in
    let at : StandsForLayout b f l = c.in_ok-give_up.ensures.ok trusted l stands in
    let m = ok told l at in
    next_read (g.D.Disk.state c.step.new.disk) (hand_of f) (hand_of c.step.new.self) m.0 m.1.hand (adds told) w has)
    c.step.ensures.ok c.step.ensures.adds c.step.ensures.adds

pub returns-in-Step-clause-removed : goal.returns-in-Step-clause-removed
returns-in-Step-clause-removed g c = once_done c.step.result
    (λ ok adds also trusted v w has_v has_w.
    let given = c.requires.ready trusted in let l = given.0 in let stands = given.1 in
    let a : DiskState = g.D.Disk.state c.args.disk.now in
    let b : DiskState = g.D.Disk.state c.give_up.new.disk in
    let e : Engine = c.args.self.now in
    let f : Engine = c.give_up.new.self in
    let live = c.args.live.now in
    let turned = c.in_ok-give_up.ensures.turned in
    let same : hand_of f ≡ hand_of e = c.give_up.ensures.hand in
    let told = trusted_on a b c.give_up.ensures.goes trusted in
    let at : StandsForLayout b f l = c.in_ok-give_up.ensures.ok trusted l stands in
    let m = ok told l at in
    removed_read a (g.D.Disk.state c.step.new.disk) (hand_of e) (hand_of c.step.new.self) l m.0 stands.hand m.1.hand v w has_v has_w
    (subst (λ (h : Hand). AddsVersion (g.D.Disk.state c.step.new.disk) h (hand_of c.step.new.self)) same (adds told)))
    c.step.ensures.ok c.step.ensures.adds c.step.ensures.adds

pub returns-in-FlushAll-clause-given_up : goal.returns-in-FlushAll-clause-given_up
returns-in-FlushAll-clause-given_up g c = on_ok_weaker c.flush_all.result (λ missing trusted l stands j is dead.
    let a : DiskState = g.D.Disk.state c.args.disk.now in
    let b : DiskState = g.D.Disk.state c.give_up.new.disk in
    let e : Engine = c.args.self.now in
    let f : Engine = c.give_up.new.self in
    let live = c.args.live.now in
    let turned = c.in_ok-give_up.ensures.turned in
    let same : hand_of f ≡ hand_of e = c.give_up.ensures.hand in
    let told = trusted_on a b c.give_up.ensures.goes trusted in
    let at : StandsForLayout b f l = c.in_ok-give_up.ensures.ok trusted l stands in
    let none = none_after a b live e f turned j is dead in
    missing told l at (file_of_merging j)
    (subst (λ (h : Hand). file_of_merging j < next_file_of h) (sym same) (job_below a e j l stands is))
    (c.in_ok-give_up.ensures.gone trusted j is dead)) c.flush_all.ensures.missing

pub returns-in-FlushAll-clause-next_file : goal.returns-in-FlushAll-clause-next_file
returns-in-FlushAll-clause-next_file g c = once_done c.flush_all.result
    (λ ok adds also trusted w has.
    let given = c.requires.ready trusted in let l = given.0 in let stands = given.1 in
    let a : DiskState = g.D.Disk.state c.args.disk.now in
    let b : DiskState = g.D.Disk.state c.give_up.new.disk in
    let e : Engine = c.args.self.now in
    let f : Engine = c.give_up.new.self in
    let live = c.args.live.now in
    let turned = c.in_ok-give_up.ensures.turned in
    let same : hand_of f ≡ hand_of e = c.give_up.ensures.hand in
    let told = trusted_on a b c.give_up.ensures.goes trusted in
    let at : StandsForLayout b f l = c.in_ok-give_up.ensures.ok trusted l stands in
    let m = ok told l at in
    next_read (g.D.Disk.state c.flush_all.new.disk) (hand_of f) (hand_of c.flush_all.new.self) m.0 m.1.hand (adds told) w has)
    c.flush_all.ensures.ok c.flush_all.ensures.adds c.flush_all.ensures.adds

pub returns-in-FlushAll-clause-removed : goal.returns-in-FlushAll-clause-removed
returns-in-FlushAll-clause-removed g c = once_done c.flush_all.result
    (λ ok adds also trusted v w has_v has_w.
    let given = c.requires.ready trusted in let l = given.0 in let stands = given.1 in
    let a : DiskState = g.D.Disk.state c.args.disk.now in
    let b : DiskState = g.D.Disk.state c.give_up.new.disk in
    let e : Engine = c.args.self.now in
    let f : Engine = c.give_up.new.self in
    let live = c.args.live.now in
    let turned = c.in_ok-give_up.ensures.turned in
    let same : hand_of f ≡ hand_of e = c.give_up.ensures.hand in
    let told = trusted_on a b c.give_up.ensures.goes trusted in
    let at : StandsForLayout b f l = c.in_ok-give_up.ensures.ok trusted l stands in
    let m = ok told l at in
    removed_read a (g.D.Disk.state c.flush_all.new.disk) (hand_of e) (hand_of c.flush_all.new.self) l m.0 stands.hand m.1.hand v w has_v has_w
    (subst (λ (h : Hand). AddsVersion (g.D.Disk.state c.flush_all.new.disk) h (hand_of c.flush_all.new.self)) same (adds told)))
    c.flush_all.ensures.ok c.flush_all.ensures.adds c.flush_all.ensures.adds

pub returns-in-MergeAll-clause-given_up : goal.returns-in-MergeAll-clause-given_up
returns-in-MergeAll-clause-given_up g c = on_ok_weaker c.merge_all.result (λ missing trusted l stands j is dead.
    let a : DiskState = g.D.Disk.state c.args.disk.now in
    let b : DiskState = g.D.Disk.state c.give_up.new.disk in
    let e : Engine = c.args.self.now in
    let f : Engine = c.give_up.new.self in
    let live = c.args.live.now in
    let turned = c.in_ok-give_up.ensures.turned in
    let same : hand_of f ≡ hand_of e = c.give_up.ensures.hand in
    let told = trusted_on a b c.give_up.ensures.goes trusted in
    let at : StandsForLayout b f l = c.in_ok-give_up.ensures.ok trusted l stands in
    let none = none_after a b live e f turned j is dead in
    missing told l at (file_of_merging j) (λ k there. absurd (no_job (merge_of f) k none there))
    (subst (λ (h : Hand). file_of_merging j < next_file_of h) (sym same) (job_below a e j l stands is))
    (c.in_ok-give_up.ensures.gone trusted j is dead)) c.merge_all.ensures.missing

pub returns-in-MergeAll-clause-next_file : goal.returns-in-MergeAll-clause-next_file
returns-in-MergeAll-clause-next_file g c = once_done c.merge_all.result
    (λ ok adds also trusted w has.
    let given = c.requires.ready trusted in let l = given.0 in let stands = given.1 in
    let a : DiskState = g.D.Disk.state c.args.disk.now in
    let b : DiskState = g.D.Disk.state c.give_up.new.disk in
    let e : Engine = c.args.self.now in
    let f : Engine = c.give_up.new.self in
    let live = c.args.live.now in
    let turned = c.in_ok-give_up.ensures.turned in
    let same : hand_of f ≡ hand_of e = c.give_up.ensures.hand in
    let told = trusted_on a b c.give_up.ensures.goes trusted in
    let at : StandsForLayout b f l = c.in_ok-give_up.ensures.ok trusted l stands in
    let m = ok told l at in
    next_read (g.D.Disk.state c.merge_all.new.disk) (hand_of f) (hand_of c.merge_all.new.self) m.0 m.1.hand (adds told l at) w has)
    c.merge_all.ensures.ok c.merge_all.ensures.adds c.merge_all.ensures.adds

pub returns-in-MergeAll-clause-removed : goal.returns-in-MergeAll-clause-removed
returns-in-MergeAll-clause-removed g c = once_done c.merge_all.result
    (λ ok adds also trusted v w has_v has_w.
    let given = c.requires.ready trusted in let l = given.0 in let stands = given.1 in
    let a : DiskState = g.D.Disk.state c.args.disk.now in
    let b : DiskState = g.D.Disk.state c.give_up.new.disk in
    let e : Engine = c.args.self.now in
    let f : Engine = c.give_up.new.self in
    let live = c.args.live.now in
    let turned = c.in_ok-give_up.ensures.turned in
    let same : hand_of f ≡ hand_of e = c.give_up.ensures.hand in
    let told = trusted_on a b c.give_up.ensures.goes trusted in
    let at : StandsForLayout b f l = c.in_ok-give_up.ensures.ok trusted l stands in
    let m = ok told l at in
    removed_read a (g.D.Disk.state c.merge_all.new.disk) (hand_of e) (hand_of c.merge_all.new.self) l m.0 stands.hand m.1.hand v w has_v has_w
    (subst (λ (h : Hand). AddsVersion (g.D.Disk.state c.merge_all.new.disk) h (hand_of c.merge_all.new.self)) same (adds told l at)))
    c.merge_all.ensures.ok c.merge_all.ensures.adds c.merge_all.ensures.adds

pub returns-in-Step-clause-version : goal.returns-in-Step-clause-version
returns-in-Step-clause-version g c = once_done_with c.step.result
    (λ ok bytes version adds trusted l stands.
    let a : DiskState = g.D.Disk.state c.args.disk.now in
    let b : DiskState = g.D.Disk.state c.give_up.new.disk in
    let e : Engine = c.args.self.now in
    let f : Engine = c.give_up.new.self in
    let live = c.args.live.now in
    let turned = c.in_ok-give_up.ensures.turned in
    let same : hand_of f ≡ hand_of e = c.give_up.ensures.hand in
    let told = trusted_on a b c.give_up.ensures.goes trusted in
    let at : StandsForLayout b f l = c.in_ok-give_up.ensures.ok trusted l stands in
    let m = ok told l at in
    let d : DiskState = g.D.Disk.state c.step.new.disk in
    let n : Hand = hand_of c.step.new.self in
    subst (λ (t : Task). IsAfter t a d live e) (sym c.in-Step.is)
    (after_step a d live e n l m.0 stands.hand m.1.hand
    (subst (λ (h : Hand). (length_of n ≡ 0) ⊎ (LogIsShort h × (length_of n ≡ length_of h))) same bytes)
    (subst (λ (h : Hand). (IsLong h × AreAllFlushed live h n × IsOverNewLog live h n)
    ⊎ (LogIsShort h × LeavesOut live h n)) same (version told l at))
    (subst (λ (h : Hand). AddsVersion d h n) same (adds told))))
    c.step.ensures.ok c.step.ensures.length c.step.ensures.version
    c.step.ensures.adds

pub returns-in-FlushAll-clause-version : goal.returns-in-FlushAll-clause-version
returns-in-FlushAll-clause-version g c = once_done_with c.flush_all.result
    (λ ok bytes version adds trusted l stands.
    let a : DiskState = g.D.Disk.state c.args.disk.now in
    let b : DiskState = g.D.Disk.state c.give_up.new.disk in
    let e : Engine = c.args.self.now in
    let f : Engine = c.give_up.new.self in
    let live = c.args.live.now in
    let turned = c.in_ok-give_up.ensures.turned in
    let same : hand_of f ≡ hand_of e = c.give_up.ensures.hand in
    let told = trusted_on a b c.give_up.ensures.goes trusted in
    let at : StandsForLayout b f l = c.in_ok-give_up.ensures.ok trusted l stands in
    let m = ok told l at in
    let d : DiskState = g.D.Disk.state c.flush_all.new.disk in
    let n : Hand = hand_of c.flush_all.new.self in
    let all = subst (λ (h : Hand). AreAllFlushed live h n × IsOverNewLog live h n) same
    (version told l at) in
    subst (λ (t : Task). IsAfter t a d live e) (sym c.in-FlushAll.is) (λ v w has_v has_w.
    new_log_read a d (hand_of e) n l m.0 stands.hand m.1.hand v w has_v has_w live all.0 all.1
    (subst (λ (h : Hand). AddsVersion d h n) same (adds told)) bytes))
    c.flush_all.ensures.ok c.flush_all.ensures.length
    c.flush_all.ensures.new_log c.flush_all.ensures.adds

pub returns-in-MergeAll-clause-version : goal.returns-in-MergeAll-clause-version
returns-in-MergeAll-clause-version g c = once_done c.merge_all.result
    (λ ok leaves also trusted l stands.
    let a : DiskState = g.D.Disk.state c.args.disk.now in
    let b : DiskState = g.D.Disk.state c.give_up.new.disk in
    let e : Engine = c.args.self.now in
    let f : Engine = c.give_up.new.self in
    let live = c.args.live.now in
    let turned = c.in_ok-give_up.ensures.turned in
    let same : hand_of f ≡ hand_of e = c.give_up.ensures.hand in
    let told = trusted_on a b c.give_up.ensures.goes trusted in
    let at : StandsForLayout b f l = c.in_ok-give_up.ensures.ok trusted l stands in
    let m = ok told l at in
    let d : DiskState = g.D.Disk.state c.merge_all.new.disk in
    let n : Hand = hand_of c.merge_all.new.self in
    subst (λ (t : Task). IsAfter t a d live e) (sym c.in-MergeAll.is) (λ v w has_v has_w.
    without_read a d (hand_of e) n l m.0 stands.hand m.1.hand v w has_v has_w live
    (subst (λ (h : Hand). LeavesOut live h n) same leaves)))
    c.merge_all.ensures.ok c.merge_all.ensures.leaves_out c.merge_all.ensures.leaves_out

pub returns-in_err-give_up-clause-one_version : goal.returns-in_err-give_up-clause-one_version
returns-in_err-give_up-clause-one_version g c it trusted v has =
    let given = c.requires.ready trusted in
    let a : DiskState = g.D.Disk.state c.args.disk.now in
    let b : DiskState = g.D.Disk.state c.give_up.new.disk in
    let e : Engine = c.args.self.now in (
      v,
      last_or a b v v (subst (λ (u : Version). Spans a b (λ k. Unit {0}) (HasLast u))
          (version_read a (hand_of e) given.0 given.1.hand v has)
          (c.give_up.ensures.last trusted given.0 given.1)),
    )

pub returns-in-Step-clause-one_version : goal.returns-in-Step-clause-one_version
returns-in-Step-clause-one_version g c it trusted v has =
    let given = c.requires.ready trusted in let l = given.0 in let stands = given.1 in
    let a : DiskState = g.D.Disk.state c.args.disk.now in
    let b : DiskState = g.D.Disk.state c.give_up.new.disk in
    let e : Engine = c.args.self.now in
    let f : Engine = c.give_up.new.self in
    let live = c.args.live.now in
    let turned = c.in_ok-give_up.ensures.turned in
    let same : hand_of f ≡ hand_of e = c.give_up.ensures.hand in
    let told = trusted_on a b c.give_up.ensures.goes trusted in
    let at : StandsForLayout b f l = c.in_ok-give_up.ensures.ok trusted l stands in
    let d : DiskState = g.D.Disk.state c.step.new.disk in
    let later = subst (λ (h : Hand). (w : Version) × Spans b d (λ k. Unit {0}) (HasOneOf (version_in h) w))
    same (c.step.ensures.one_version told l at) in
    subst (λ (u : Version). (w : Version) × Spans a d (λ k. Unit {0}) (HasOneOf u w))
    (version_read a (hand_of e) l stands.hand v has) (
      later.0,
      one_behind a b d (hand_of e) later.0 (c.give_up.ensures.last trusted l stands) later.1,
    )

pub returns-in-FlushAll-clause-one_version : goal.returns-in-FlushAll-clause-one_version
returns-in-FlushAll-clause-one_version g c it trusted v has =
    let given = c.requires.ready trusted in let l = given.0 in let stands = given.1 in
    let a : DiskState = g.D.Disk.state c.args.disk.now in
    let b : DiskState = g.D.Disk.state c.give_up.new.disk in
    let e : Engine = c.args.self.now in
    let f : Engine = c.give_up.new.self in
    let live = c.args.live.now in
    let turned = c.in_ok-give_up.ensures.turned in
    let same : hand_of f ≡ hand_of e = c.give_up.ensures.hand in
    let told = trusted_on a b c.give_up.ensures.goes trusted in
    let at : StandsForLayout b f l = c.in_ok-give_up.ensures.ok trusted l stands in
    let d : DiskState = g.D.Disk.state c.flush_all.new.disk in
    let later = subst (λ (h : Hand). (w : Version) × Spans b d (λ k. Unit {0}) (HasOneOf (version_in h) w))
    same (c.flush_all.ensures.one_version told l at) in
    subst (λ (u : Version). (w : Version) × Spans a d (λ k. Unit {0}) (HasOneOf u w))
    (version_read a (hand_of e) l stands.hand v has) (
      later.0,
      one_behind a b d (hand_of e) later.0 (c.give_up.ensures.last trusted l stands) later.1,
    )

pub returns-in-MergeAll-clause-one_version : goal.returns-in-MergeAll-clause-one_version
returns-in-MergeAll-clause-one_version g c other = absurd (other c.in-MergeAll.is)

pub returns-in-MergeAll-clause-memory : goal.returns-in-MergeAll-clause-memory
returns-in-MergeAll-clause-memory g c it = on_ok_weaker c.merge_all.result (λ memory family lives.
    memory family lives ∙ ap (λ (h : Hand). memory_at h family) c.give_up.ensures.hand)
    c.merge_all.ensures.memory

pub returns-in-MergeAll-clause-kept : goal.returns-in-MergeAll-clause-kept
returns-in-MergeAll-clause-kept g c it = on_ok_weaker c.merge_all.result
    (λ kept trusted family lives merged apart.
    let given = c.requires.ready trusted in let l = given.0 in let stands = given.1 in
    let a : DiskState = g.D.Disk.state c.args.disk.now in
    let b : DiskState = g.D.Disk.state c.give_up.new.disk in
    let e : Engine = c.args.self.now in
    let f : Engine = c.give_up.new.self in
    let live = c.args.live.now in
    let turned = c.in_ok-give_up.ensures.turned in
    let same : hand_of f ≡ hand_of e = c.give_up.ensures.hand in
    let told = trusted_on a b c.give_up.ensures.goes trusted in
    let at : StandsForLayout b f l = c.in_ok-give_up.ensures.ok trusted l stands in
    let hand = ap (λ (h : Hand). files_at h family) same in
    kept told l at family lives (subst (AreMerged b) (sym hand)
    (merged_on a b (files_at (hand_of e) family) (c.give_up.ensures.still trusted l stands family) merged))
    (λ j is. apart j (job_back a b live e f turned same j is)) ∙ hand) c.merge_all.ensures.kept

pub returns-in-Step-clause-taken : goal.returns-in-Step-clause-taken
returns-in-Step-clause-taken g c = on_ok_weaker c.step.result (λ it.
    let same = ap (λ (h : Hand). h.next_file) c.give_up.ensures.hand in
    omega (arith, it, same)) c.step.ensures.next_file

pub returns-in-FlushAll-clause-taken : goal.returns-in-FlushAll-clause-taken
returns-in-FlushAll-clause-taken g c = on_ok_weaker c.flush_all.result (λ it.
    let same = ap (λ (h : Hand). h.next_file) c.give_up.ensures.hand in
    omega (arith, it, same)) c.flush_all.ensures.next_file

pub returns-in-MergeAll-clause-taken : goal.returns-in-MergeAll-clause-taken
returns-in-MergeAll-clause-taken g c = on_ok_weaker c.merge_all.result (λ it.
    let same = ap (λ (h : Hand). h.next_file) c.give_up.ensures.hand in
    omega (arith, it, same)) c.merge_all.ensures.next_file

pub returns-in-Step-clause-missing : goal.returns-in-Step-clause-missing
returns-in-Step-clause-missing g c = on_ok_weaker c.step.result (λ missing trusted l stands keeps.
    let a : DiskState = g.D.Disk.state c.args.disk.now in
    let b : DiskState = g.D.Disk.state c.give_up.new.disk in
    let e : Engine = c.args.self.now in
    let f : Engine = c.give_up.new.self in
    let live = c.args.live.now in
    let turned = c.in_ok-give_up.ensures.turned in
    let same : hand_of f ≡ hand_of e = c.give_up.ensures.hand in
    let told = trusted_on a b c.give_up.ensures.goes trusted in
    let at : StandsForLayout b f l = c.in_ok-give_up.ensures.ok trusted l stands in
    makes_back a b live e f turned same (g.D.Disk.state c.step.new.disk) keeps (missing told l at))
    c.step.ensures.missing

pub returns-in-FlushAll-clause-missing : goal.returns-in-FlushAll-clause-missing
returns-in-FlushAll-clause-missing g c = on_ok_weaker c.flush_all.result (λ missing trusted l stands keeps.
    let a : DiskState = g.D.Disk.state c.args.disk.now in
    let b : DiskState = g.D.Disk.state c.give_up.new.disk in
    let e : Engine = c.args.self.now in
    let f : Engine = c.give_up.new.self in
    let live = c.args.live.now in
    let turned = c.in_ok-give_up.ensures.turned in
    let same : hand_of f ≡ hand_of e = c.give_up.ensures.hand in
    let told = trusted_on a b c.give_up.ensures.goes trusted in
    let at : StandsForLayout b f l = c.in_ok-give_up.ensures.ok trusted l stands in
    makes_back a b live e f turned same (g.D.Disk.state c.flush_all.new.disk) keeps (λ k other. missing told l at k))
    c.flush_all.ensures.missing

pub returns-in-MergeAll-clause-missing : goal.returns-in-MergeAll-clause-missing
returns-in-MergeAll-clause-missing g c = on_ok_weaker c.merge_all.result (λ missing trusted l stands keeps.
    let a : DiskState = g.D.Disk.state c.args.disk.now in
    let b : DiskState = g.D.Disk.state c.give_up.new.disk in
    let e : Engine = c.args.self.now in
    let f : Engine = c.give_up.new.self in
    let live = c.args.live.now in
    let turned = c.in_ok-give_up.ensures.turned in
    let same : hand_of f ≡ hand_of e = c.give_up.ensures.hand in
    let told = trusted_on a b c.give_up.ensures.goes trusted in
    let at : StandsForLayout b f l = c.in_ok-give_up.ensures.ok trusted l stands in
    makes_back a b live e f turned same (g.D.Disk.state c.merge_all.new.disk) keeps (missing told l at))
    c.merge_all.ensures.missing
