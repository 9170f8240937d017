-- A flush, or else what becomes of merges.
use Rattle.std.proofs.Common.{◌≡◌, ◌<◌, Some, None, inl, inr, sym, ap, subst, arith, rules}
use Rattle.std.proofs.lemmas.Result.{IfOk-weaker, on_ok_weaker}
use Rattle.alt_disk.specs.Disk.{DiskState}
use Rattle.alt_disk.specs.Runs.{Spans}
use Rattle.alt_disk.proofs.Runs.{trusted_back, trusted_on}
use Rattle.alt_merging.specs.HandInHand.{HandStandsForLayout as HandStands}
use Rattle.alt_merging.specs.HandMerging.{HasMany, version_in}
use Rattle.alt_merging.specs.HandWorking.{IsCalm, LogIsShort, WorksIn}
use Rattle.alt_merging.specs.HandDeclaredHand.{Hand}
use Rattle.alt_merging.specs.HandAdding.{AddsVersion, HasLast, HasOneOf, LeavesOut, MakesNone}
use Rattle.alt_merging.specs.HandInHand.{next_file_of}
use Rattle.alt_merging.proofs.HandAddingLaws.{last_or}
use Rattle.alt_manifest.specs.declared.version.Version.{Version}
use Rattle.alt_merging.proofs.HandEndLaws.{works_same}
use Rattle.alt_merging.proofs.HandWorkLaws.{worked_in, works_of}
use Rattle.alt_merging.specs.Mergings.{MergingStands, family_of_merging}
use Rattle.alt_merging.proofs.StepLaws.{has_works}
use Rattle.alt_engine.specs.InHand.{IsGoing, StandsForLayout, merge_of}
use Rattle.alt_engine.specs.declared.engine.Engine.{Engine}
use Rattle.alt_engine.proofs.EngineLaws.{going_carried}
use Rattle.alt_engine.proofs.Stepping.{at_both, back_both, begins_at, ended_back, furthered_back, outside_need, taken_stands}
use Rattle.alt_engine.proofs.Taking.{taken_due}
use Rattle.alt_engine.proofs.engine.Engine.step.Goals as goal

pub flush_due-requires-clause-ready : goal.flush_due-requires-clause-ready
flush_due-requires-clause-ready g c trusted =
    let given = c.requires.ready trusted in (given.0, given.1.hand)

pub returns-in_err-flushed-clause-any_moment : goal.returns-in_err-flushed-clause-any_moment
returns-in_err-flushed-clause-any_moment g c trusted l stands =
    worked_in (g.D.Disk.state c.args.disk.now) (g.D.Disk.state c.flush_due.new.disk) c.args.live.now l
    (c.flush_due.ensures.any_moment trusted l stands.hand)

pub returns-then-flushed-clause-ok : goal.returns-then-flushed-clause-ok
returns-then-flushed-clause-ok g c trusted l stands =
    let a : DiskState = g.D.Disk.state c.args.disk.now in
    let b : DiskState = g.D.Disk.state c.flush_due.new.disk in
    let e : Engine = c.args.self.now in
    let f : Hand = c.flush_due.new.self in
    let m = c.in_ok-flushed.ensures.ok trusted l stands.hand in (
      m.0,
      record {
        hand = m.1;
        merging = going_carried a b e.hand f e.merging (λ j is. c.in_ok-flushed.ensures.carries
            trusted l stands.hand (family_of_merging j) (c.requires.keeps j is)) stands.merging;
        few = c.any_many-self.ensures;
      },
      works_of c.args.live.now l m.0 m.2,
    )

pub returns-then-flushed-clause-any_moment : goal.returns-then-flushed-clause-any_moment
returns-then-flushed-clause-any_moment g c trusted l stands =
    worked_in (g.D.Disk.state c.args.disk.now) (g.D.Disk.state c.flush_due.new.disk) c.args.live.now l
    (c.flush_due.ensures.any_moment trusted l stands.hand)

pub go_on-requires-clause-ready : goal.go_on-requires-clause-ready
go_on-requires-clause-ready g c back =
    let trusted = trusted_back (g.D.Disk.state c.args.disk.now) (g.D.Disk.state c.flush_due.new.disk)
    c.flush_due.ensures.goes back in
    let a : DiskState = g.D.Disk.state c.args.disk.now in
    let b : DiskState = g.D.Disk.state c.flush_due.new.disk in
    let e : Engine = c.args.self.now in
    let f : Hand = c.flush_due.new.self in
    let live = c.args.live.now in
    let p : b ≡ a = c.in_ok-flushed.ensures.idle_disk c.if-flushed.false in
    let q : f ≡ e.hand = c.in_ok-flushed.ensures.idle_hand c.if-flushed.false in
    let told = trusted_on a b c.flush_due.ensures.goes trusted in
    let given = c.requires.ready trusted in
    let l = given.0 in let stands = given.1 in
    let is : merge_of e ≡ Some c.in-Some.merging = search rules in
    let at = at_both (λ s h. HandStands s h l) a b e.hand f p q stands.hand in
    let going = taken_stands a e c.in-Some.merging is stands.merging in (
      l,
      going.0,
      at,
      at_both (λ s h. MergingStands s h c.in-Some.merging going.0) a b e.hand f p q going.1,
    )

pub go_on-requires-clause-few : goal.go_on-requires-clause-few
go_on-requires-clause-few g c back =
    let trusted = trusted_back (g.D.Disk.state c.args.disk.now) (g.D.Disk.state c.flush_due.new.disk)
    c.flush_due.ensures.goes back in
    let a : DiskState = g.D.Disk.state c.args.disk.now in
    let b : DiskState = g.D.Disk.state c.flush_due.new.disk in
    let e : Engine = c.args.self.now in
    let f : Hand = c.flush_due.new.self in
    let live = c.args.live.now in
    let p : b ≡ a = c.in_ok-flushed.ensures.idle_disk c.if-flushed.false in
    let q : f ≡ e.hand = c.in_ok-flushed.ensures.idle_hand c.if-flushed.false in
    let told = trusted_on a b c.flush_due.ensures.goes trusted in
    let given = c.requires.ready trusted in
    λ none family many. given.1.few none family (subst (λ (h : Hand). HasMany h family) q many)

pub begin-requires-clause-ready : goal.begin-requires-clause-ready
begin-requires-clause-ready g c back =
    let trusted = trusted_back (g.D.Disk.state c.args.disk.now) (g.D.Disk.state c.flush_due.new.disk)
    c.flush_due.ensures.goes back in
    let a : DiskState = g.D.Disk.state c.args.disk.now in
    let b : DiskState = g.D.Disk.state c.flush_due.new.disk in
    let e : Engine = c.args.self.now in
    let f : Hand = c.flush_due.new.self in
    let live = c.args.live.now in
    let p : b ≡ a = c.in_ok-flushed.ensures.idle_disk c.if-flushed.false in
    let q : f ≡ e.hand = c.in_ok-flushed.ensures.idle_hand c.if-flushed.false in
    let told = trusted_on a b c.flush_due.ensures.goes trusted in
    let given = c.requires.ready trusted in
    let l = given.0 in let stands = given.1 in
    let x : Engine = record e { hand = f; merging = c.take.new.self } in
    let at : StandsForLayout b x l = record {
      hand = at_both (λ s h. HandStands s h l) a b e.hand f p q stands.hand;
      merging = subst (IsGoing b f) (sym c.take.ensures.after) tt;
      few = λ none family many. stands.few none family (subst (λ (h : Hand). HasMany h family) q many);
    } in
    (l, at)

pub returns-in-Some-clause-ok : goal.returns-in-Some-clause-ok
returns-in-Some-clause-ok g c = on_ok_weaker c.go_on.result (λ ok trusted l stands.
    let a : DiskState = g.D.Disk.state c.args.disk.now in
    let b : DiskState = g.D.Disk.state c.flush_due.new.disk in
    let e : Engine = c.args.self.now in
    let f : Hand = c.flush_due.new.self in
    let live = c.args.live.now in
    let p : b ≡ a = c.in_ok-flushed.ensures.idle_disk c.if-flushed.false in
    let q : f ≡ e.hand = c.in_ok-flushed.ensures.idle_hand c.if-flushed.false in
    let told = trusted_on a b c.flush_due.ensures.goes trusted in
    let at = at_both (λ s h. HandStands s h l) a b e.hand f p q stands.hand in
    ok told l at) c.go_on.ensures.ok

pub returns-in-Some-clause-went : goal.returns-in-Some-clause-went
returns-in-Some-clause-went g c = IfOk-weaker c.go_on.result _ _ (λ w h it trusted l stands.
    let a : DiskState = g.D.Disk.state c.args.disk.now in
    let b : DiskState = g.D.Disk.state c.flush_due.new.disk in
    let e : Engine = c.args.self.now in
    let f : Hand = c.flush_due.new.self in
    let live = c.args.live.now in
    let p : b ≡ a = c.in_ok-flushed.ensures.idle_disk c.if-flushed.false in
    let q : f ≡ e.hand = c.in_ok-flushed.ensures.idle_hand c.if-flushed.false in
    let told = trusted_on a b c.flush_due.ensures.goes trusted in
    let idle = c.in_ok-flushed.ensures.idle c.if-flushed.false in
    let calm : LogIsShort e.hand × IsCalm live e.hand = (idle.0, idle.1 trusted l stands.hand) in
    let is : merge_of e ≡ Some c.in-Some.merging = search rules in
    let at = at_both (λ s h. HandStands s h l) a b e.hand f p q stands.hand in (
      calm,
      inr (
        c.in-Some.merging,
        (is, c.requires.keeps c.in-Some.merging is),
        furthered_back a b (g.D.Disk.state c.go_on.new.disk) e (record e { hand = f; merging = c.take.new.self })
            c.go_on.new.self c.in-Some.merging p q (h it told l at),
      ),
    )) c.go_on.ensures.went

pub returns-in-Some-clause-done : goal.returns-in-Some-clause-done
returns-in-Some-clause-done g c = IfOk-weaker c.go_on.result _ _ (λ w h it trusted l stands.
    let a : DiskState = g.D.Disk.state c.args.disk.now in
    let b : DiskState = g.D.Disk.state c.flush_due.new.disk in
    let e : Engine = c.args.self.now in
    let f : Hand = c.flush_due.new.self in
    let live = c.args.live.now in
    let p : b ≡ a = c.in_ok-flushed.ensures.idle_disk c.if-flushed.false in
    let q : f ≡ e.hand = c.in_ok-flushed.ensures.idle_hand c.if-flushed.false in
    let told = trusted_on a b c.flush_due.ensures.goes trusted in
    let idle = c.in_ok-flushed.ensures.idle c.if-flushed.false in
    let calm : LogIsShort e.hand × IsCalm live e.hand = (idle.0, idle.1 trusted l stands.hand) in
    let is : merge_of e ≡ Some c.in-Some.merging = search rules in
    let at = at_both (λ s h. HandStands s h l) a b e.hand f p q stands.hand in
    inr (
      calm,
      (
        c.in-Some.merging,
        (is, c.requires.keeps c.in-Some.merging is),
        ended_back a b (g.D.Disk.state c.go_on.new.disk) e (record e { hand = f; merging = c.take.new.self })
            c.go_on.new.self c.in-Some.merging p q (h it told l at),
      ),
    )) c.go_on.ensures.done

pub returns-in-Some-clause-any_moment : goal.returns-in-Some-clause-any_moment
returns-in-Some-clause-any_moment g c trusted l stands =
    let a : DiskState = g.D.Disk.state c.args.disk.now in
    let b : DiskState = g.D.Disk.state c.flush_due.new.disk in
    let e : Engine = c.args.self.now in
    let f : Hand = c.flush_due.new.self in
    let live = c.args.live.now in
    let p : b ≡ a = c.in_ok-flushed.ensures.idle_disk c.if-flushed.false in
    let q : f ≡ e.hand = c.in_ok-flushed.ensures.idle_hand c.if-flushed.false in
    let told = trusted_on a b c.flush_due.ensures.goes trusted in
    let at = at_both (λ s h. HandStands s h l) a b e.hand f p q stands.hand in
    subst (λ (s : DiskState). Spans s (g.D.Disk.state c.go_on.new.disk) (λ x. Unit {0}) (WorksIn live l)) p
    (c.go_on.ensures.any_moment told l at)

pub returns-in-None-clause-ok : goal.returns-in-None-clause-ok
returns-in-None-clause-ok g c = on_ok_weaker c.begin.result (λ ok trusted l stands.
    let a : DiskState = g.D.Disk.state c.args.disk.now in
    let b : DiskState = g.D.Disk.state c.flush_due.new.disk in
    let e : Engine = c.args.self.now in
    let f : Hand = c.flush_due.new.self in
    let live = c.args.live.now in
    let p : b ≡ a = c.in_ok-flushed.ensures.idle_disk c.if-flushed.false in
    let q : f ≡ e.hand = c.in_ok-flushed.ensures.idle_hand c.if-flushed.false in
    let told = trusted_on a b c.flush_due.ensures.goes trusted in
    let x : Engine = record e { hand = f; merging = c.take.new.self } in
    let at : StandsForLayout b x l = record {
      hand = at_both (λ s h. HandStands s h l) a b e.hand f p q stands.hand;
      merging = subst (IsGoing b f) (sym c.take.ensures.after) tt;
      few = λ none family many. stands.few none family (subst (λ (h : Hand). HasMany h family) q many);
    } in
    (l, ok told l at, works_same live l)) c.begin.ensures.ok

pub returns-in-None-clause-idle : goal.returns-in-None-clause-idle
returns-in-None-clause-idle g c = IfOk-weaker c.begin.result _ _ (λ w h it trusted l stands.
    let a : DiskState = g.D.Disk.state c.args.disk.now in
    let b : DiskState = g.D.Disk.state c.flush_due.new.disk in
    let e : Engine = c.args.self.now in
    let f : Hand = c.flush_due.new.self in
    let live = c.args.live.now in
    let p : b ≡ a = c.in_ok-flushed.ensures.idle_disk c.if-flushed.false in
    let q : f ≡ e.hand = c.in_ok-flushed.ensures.idle_hand c.if-flushed.false in
    let told = trusted_on a b c.flush_due.ensures.goes trusted in
    let idle = c.in_ok-flushed.ensures.idle c.if-flushed.false in
    let calm : LogIsShort e.hand × IsCalm live e.hand = (idle.0, idle.1 trusted l stands.hand) in
    let none : merge_of e ≡ None = search rules in
    let x : Engine = record e { hand = f; merging = c.take.new.self } in
    let at : StandsForLayout b x l = record {
      hand = at_both (λ s h. HandStands s h l) a b e.hand f p q stands.hand;
      merging = subst (IsGoing b f) (sym c.take.ensures.after) tt;
      few = λ none family many. stands.few none family (subst (λ (h : Hand). HasMany h family) q many);
    } in
    let few = h it told l at in (
      calm,
      (
        none,
        λ family there many. few family there
            (subst (λ (k : Hand). HasMany k family) (sym q) many),
      ),
    )) c.begin.ensures.idle

pub returns-in-None-clause-went : goal.returns-in-None-clause-went
returns-in-None-clause-went g c = IfOk-weaker c.begin.result _ _ (λ w h it trusted l stands.
    let a : DiskState = g.D.Disk.state c.args.disk.now in
    let b : DiskState = g.D.Disk.state c.flush_due.new.disk in
    let e : Engine = c.args.self.now in
    let f : Hand = c.flush_due.new.self in
    let live = c.args.live.now in
    let p : b ≡ a = c.in_ok-flushed.ensures.idle_disk c.if-flushed.false in
    let q : f ≡ e.hand = c.in_ok-flushed.ensures.idle_hand c.if-flushed.false in
    let told = trusted_on a b c.flush_due.ensures.goes trusted in
    let idle = c.in_ok-flushed.ensures.idle c.if-flushed.false in
    let calm : LogIsShort e.hand × IsCalm live e.hand = (idle.0, idle.1 trusted l stands.hand) in
    let none : merge_of e ≡ None = search rules in
    (calm, inl (begins_at live e (record e { hand = f; merging = c.take.new.self }) c.begin.new.self q none (h it))))
    c.begin.ensures.went

pub returns-in-None-clause-any_moment : goal.returns-in-None-clause-any_moment
returns-in-None-clause-any_moment g c trusted l stands =
    let a : DiskState = g.D.Disk.state c.args.disk.now in
    let b : DiskState = g.D.Disk.state c.flush_due.new.disk in
    let e : Engine = c.args.self.now in
    let f : Hand = c.flush_due.new.self in
    let live = c.args.live.now in
    let p : b ≡ a = c.in_ok-flushed.ensures.idle_disk c.if-flushed.false in
    let q : f ≡ e.hand = c.in_ok-flushed.ensures.idle_hand c.if-flushed.false in
    let told = trusted_on a b c.flush_due.ensures.goes trusted in
    let x : Engine = record e { hand = f; merging = c.take.new.self } in
    let at : StandsForLayout b x l = record {
      hand = at_both (λ s h. HandStands s h l) a b e.hand f p q stands.hand;
      merging = subst (IsGoing b f) (sym c.take.ensures.after) tt;
      few = λ none family many. stands.few none family (subst (λ (h : Hand). HasMany h family) q many);
    } in
    let d : DiskState = g.D.Disk.state c.begin.new.disk in
    subst (λ (s : DiskState). Spans s d (λ x. Unit {0}) (WorksIn live l)) p
    (has_works b d live l (c.begin.ensures.any_moment told l at))

pub returns-in_err-flushed-clause-one_version : goal.returns-in_err-flushed-clause-one_version
returns-in_err-flushed-clause-one_version g c trusted l stands =
    c.flush_due.ensures.one_version trusted l stands.hand

pub returns-then-flushed-clause-one_version : goal.returns-then-flushed-clause-one_version
returns-then-flushed-clause-one_version g c trusted l stands =
    c.flush_due.ensures.one_version trusted l stands.hand

pub returns-then-flushed-clause-version : goal.returns-then-flushed-clause-version
returns-then-flushed-clause-version g c done trusted l stands =
    c.in_ok-flushed.ensures.version c.if-flushed.true trusted l stands.hand

pub returns-then-flushed-clause-adds : goal.returns-then-flushed-clause-adds
returns-then-flushed-clause-adds g c done trusted =
    c.in_ok-flushed.ensures.adds c.if-flushed.true trusted

pub returns-then-flushed-clause-missing : goal.returns-then-flushed-clause-missing
returns-then-flushed-clause-missing g c trusted l stands f other low none =
    c.in_ok-flushed.ensures.missing trusted l stands.hand f low none

pub returns-in-Some-clause-version : goal.returns-in-Some-clause-version
returns-in-Some-clause-version g c = IfOk-weaker c.go_on.result _ _ (λ w h it trusted l stands.
    let a : DiskState = g.D.Disk.state c.args.disk.now in
    let b : DiskState = g.D.Disk.state c.flush_due.new.disk in
    let e : Engine = c.args.self.now in
    let f : Hand = c.flush_due.new.self in
    let live = c.args.live.now in
    let p : b ≡ a = c.in_ok-flushed.ensures.idle_disk c.if-flushed.false in
    let q : f ≡ e.hand = c.in_ok-flushed.ensures.idle_hand c.if-flushed.false in
    let idle = c.in_ok-flushed.ensures.idle c.if-flushed.false in
    inr (idle.0, subst (λ (k : Hand). LeavesOut live k c.go_on.new.self.hand) q (h it)))
    c.go_on.ensures.leaves_out

pub returns-in-Some-clause-adds : goal.returns-in-Some-clause-adds
returns-in-Some-clause-adds g c = IfOk-weaker c.go_on.result _ _ (λ w h it trusted.
    let a : DiskState = g.D.Disk.state c.args.disk.now in
    let b : DiskState = g.D.Disk.state c.flush_due.new.disk in
    let e : Engine = c.args.self.now in
    let f : Hand = c.flush_due.new.self in
    let live = c.args.live.now in
    let p : b ≡ a = c.in_ok-flushed.ensures.idle_disk c.if-flushed.false in
    let q : f ≡ e.hand = c.in_ok-flushed.ensures.idle_hand c.if-flushed.false in
    let told = trusted_on a b c.flush_due.ensures.goes trusted in
    subst (λ (k : Hand). AddsVersion (g.D.Disk.state c.go_on.new.disk) k c.go_on.new.self.hand) q (h it told))
    c.go_on.ensures.adds

pub returns-in-Some-clause-missing : goal.returns-in-Some-clause-missing
returns-in-Some-clause-missing g c = on_ok_weaker c.go_on.result (λ missing trusted l stands n other low none.
    let is : merge_of c.args.self.now ≡ Some c.in-Some.merging = search rules in
    let a : DiskState = g.D.Disk.state c.args.disk.now in
    let b : DiskState = g.D.Disk.state c.flush_due.new.disk in
    let e : Engine = c.args.self.now in
    let f : Hand = c.flush_due.new.self in
    let p : b ≡ a = c.in_ok-flushed.ensures.idle_disk c.if-flushed.false in
    let q : f ≡ e.hand = c.in_ok-flushed.ensures.idle_hand c.if-flushed.false in
    let told = trusted_on a b c.flush_due.ensures.goes trusted in
    let at = at_both (λ s h. HandStands s h l) a b e.hand f p q stands.hand in
    missing told l at n (other c.in-Some.merging is)
    (subst (λ (h : Hand). n < next_file_of h) (sym q) low)
    (subst (λ (s : DiskState). s.file n ≡ None) (sym p) none)) c.go_on.ensures.missing

pub returns-in-Some-clause-one_version : goal.returns-in-Some-clause-one_version
returns-in-Some-clause-one_version g c trusted l stands =
    let a : DiskState = g.D.Disk.state c.args.disk.now in
    let b : DiskState = g.D.Disk.state c.flush_due.new.disk in
    let e : Engine = c.args.self.now in
    let f : Hand = c.flush_due.new.self in
    let live = c.args.live.now in
    let p : b ≡ a = c.in_ok-flushed.ensures.idle_disk c.if-flushed.false in
    let q : f ≡ e.hand = c.in_ok-flushed.ensures.idle_hand c.if-flushed.false in
    let told = trusted_on a b c.flush_due.ensures.goes trusted in
    let at = at_both (λ s h. HandStands s h l) a b e.hand f p q stands.hand in
    back_both (λ s h. (w : Version) × Spans s (g.D.Disk.state c.go_on.new.disk) (λ x. Unit {0})
    (HasOneOf (version_in h) w)) a b e.hand f p q (c.go_on.ensures.one_version told l at)

pub returns-in-None-clause-version : goal.returns-in-None-clause-version
returns-in-None-clause-version g c = IfOk-weaker c.begin.result _ _ (λ w h it. absurd (h it))
    c.begin.ensures.undone

pub returns-in-None-clause-adds : goal.returns-in-None-clause-adds
returns-in-None-clause-adds g c = IfOk-weaker c.begin.result _ _ (λ w h it. absurd (h it))
    c.begin.ensures.undone

pub returns-in-None-clause-missing : goal.returns-in-None-clause-missing
returns-in-None-clause-missing g c = on_ok_weaker c.begin.result (λ well trusted l stands n other low none.
    let a : DiskState = g.D.Disk.state c.args.disk.now in
    let b : DiskState = g.D.Disk.state c.flush_due.new.disk in
    let e : Engine = c.args.self.now in
    let f : Hand = c.flush_due.new.self in
    let live = c.args.live.now in
    let p : b ≡ a = c.in_ok-flushed.ensures.idle_disk c.if-flushed.false in
    let q : f ≡ e.hand = c.in_ok-flushed.ensures.idle_hand c.if-flushed.false in
    let told = trusted_on a b c.flush_due.ensures.goes trusted in
    back_both (λ s h. MakesNone s (g.D.Disk.state c.begin.new.disk) (next_file_of h)) a b e.hand f p q
    (c.begin.ensures.missing told) n low none) c.begin.ensures.well

pub returns-in-None-clause-one_version : goal.returns-in-None-clause-one_version
returns-in-None-clause-one_version g c trusted l stands =
    let a : DiskState = g.D.Disk.state c.args.disk.now in
    let b : DiskState = g.D.Disk.state c.flush_due.new.disk in
    let e : Engine = c.args.self.now in
    let f : Hand = c.flush_due.new.self in
    let live = c.args.live.now in
    let p : b ≡ a = c.in_ok-flushed.ensures.idle_disk c.if-flushed.false in
    let q : f ≡ e.hand = c.in_ok-flushed.ensures.idle_hand c.if-flushed.false in
    let told = trusted_on a b c.flush_due.ensures.goes trusted in
    let x : Engine = record e { hand = f; merging = c.take.new.self } in
    let at : StandsForLayout b x l = record {
      hand = at_both (λ s h. HandStands s h l) a b e.hand f p q stands.hand;
      merging = subst (IsGoing b f) (sym c.take.ensures.after) tt;
      few = λ none family many. stands.few none family (subst (λ (h : Hand). HasMany h family) q many);
    } in
    let d : DiskState = g.D.Disk.state c.begin.new.disk in (
      version_in e.hand,
      last_or a d (version_in e.hand) (version_in e.hand)
          (back_both (λ s h. Spans s d (λ y. Unit {0}) (HasLast (version_in h))) a b e.hand f p q
          (c.begin.ensures.last told l at)),
    )

pub returns-then-flushed-clause-next_file : goal.returns-then-flushed-clause-next_file
returns-then-flushed-clause-next_file g c =
    taken_due c.args.live.now c.args.self.now.hand c.flush_due.new.self
    (c.in_ok-flushed.ensures.done c.if-flushed.true)

pub returns-in-Some-clause-next_file : goal.returns-in-Some-clause-next_file
returns-in-Some-clause-next_file g c = on_ok_weaker c.go_on.result (λ it.
    let q = ap (λ (h : Hand). h.next_file) (c.in_ok-flushed.ensures.idle_hand c.if-flushed.false) in
    omega (arith, it, q)) c.go_on.ensures.next_file

pub returns-in-None-clause-next_file : goal.returns-in-None-clause-next_file
returns-in-None-clause-next_file g c = on_ok_weaker c.begin.result (λ it.
    let q = ap (λ (h : Hand). h.next_file) (c.in_ok-flushed.ensures.idle_hand c.if-flushed.false) in
    omega (arith, it, q)) c.begin.ensures.next_file

pub returns-in-Some-clause-needed : goal.returns-in-Some-clause-needed
returns-in-Some-clause-needed g c trusted =
    let told = trusted_on (g.D.Disk.state c.args.disk.now) (g.D.Disk.state c.flush_due.new.disk)
    c.flush_due.ensures.goes trusted in
    outside_need c.go_on.result c.go_on.ensures.unspent (c.go_on.ensures.sound told) (λ f none. inl none)
