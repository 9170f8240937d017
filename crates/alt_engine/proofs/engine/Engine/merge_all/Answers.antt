-- The merge under way, and then the others.
use Rattle.std.proofs.Common.{rules, ◌≡◌, ◌<◌, ◌∙◌, sym, ap, subst, arith}
use Rattle.alt_disk.specs.Disk.{DiskState}
use Rattle.alt_disk.proofs.Runs.{trusted_back, trusted_on}
use Rattle.alt_merging.specs.HandAdding.{AddsVersion, LeavesOut}
use Rattle.alt_merging.specs.HandMerging.{HasMany, files_at}
use Rattle.alt_merging.specs.Merged.{AreMerged}
use Rattle.alt_merging.specs.HandDeclaredHand.{Hand}
use Rattle.alt_merging.proofs.EachLaws.{adds_then, leaves_then, merged_on, works_on, works_then}
use Rattle.alt_engine.proofs.Versioning.{by_flag}
use Rattle.alt_engine.specs.InHand.{IsGoing}
use Rattle.alt_engine.specs.declared.engine.Engine.{Engine}
use Rattle.alt_engine.proofs.engine.Engine.merge_all.Goals as goal

pub merge_each-requires-clause-ready : goal.merge_each-requires-clause-ready
merge_each-requires-clause-ready g c told =
    let trusted = trusted_back (g.D.Disk.state c.args.disk.now) (g.D.Disk.state c.end.new.disk)
    c.end.ensures.goes told in
    let given = c.requires.ready trusted in
    let first = c.in_ok-ended.ensures.ok trusted given.0 given.1 in (first.0, first.1)

pub returns-in_err-merged-clause-any_moment : goal.returns-in_err-merged-clause-any_moment
returns-in_err-merged-clause-any_moment g c trusted l stands =
    let a : DiskState = g.D.Disk.state c.args.disk.now in
    let b : DiskState = g.D.Disk.state c.end.new.disk in
    let d : DiskState = g.D.Disk.state c.merge_each.new.disk in
    let live = c.args.live.now in
    let told = trusted_on a b c.end.ensures.goes trusted in
    let first = c.in_ok-ended.ensures.ok trusted l stands in
    works_on a b d live l first.0 first.2 (c.end.ensures.any_moment trusted l stands)
    (c.merge_each.ensures.any_moment told first.0 first.1)

pub returns-then-not-merged-clause-ok : goal.returns-then-not-merged-clause-ok
returns-then-not-merged-clause-ok g c trusted l stands =
    let a : DiskState = g.D.Disk.state c.args.disk.now in
    let b : DiskState = g.D.Disk.state c.end.new.disk in
    let d : DiskState = g.D.Disk.state c.merge_each.new.disk in
    let live = c.args.live.now in
    let told = trusted_on a b c.end.ensures.goes trusted in
    let first = c.in_ok-ended.ensures.ok trusted l stands in
    let later = c.in_ok-merged.ensures.ok told first.0 first.1 in
    let same = c.in_ok-ended.ensures.same c.if-not-ended.true in
    let hand : c.merge_each.new.hand ≡ c.args.self.now.hand =
    c.in_ok-merged.ensures.idle_hand c.if-not-merged.true
    ∙ ap (λ (e : Engine). e.hand) same.1.1 in (
      later.0,
      record {
        hand = later.1;
        merging = subst (IsGoing d c.merge_each.new.hand) (sym c.in_ok-ended.ensures.none) tt;
        few = λ none family many. stands.few (sym (ap (λ (e : Engine). e.many) same.1.1) ∙ none) family
            (subst (λ (h : Hand). HasMany h family) hand many);
      },
      works_then live l first.0 later.0 first.2 later.2,
    )

pub returns-then-not-merged-clause-any_moment : goal.returns-then-not-merged-clause-any_moment
returns-then-not-merged-clause-any_moment g c trusted l stands =
    let a : DiskState = g.D.Disk.state c.args.disk.now in
    let b : DiskState = g.D.Disk.state c.end.new.disk in
    let d : DiskState = g.D.Disk.state c.merge_each.new.disk in
    let live = c.args.live.now in
    let told = trusted_on a b c.end.ensures.goes trusted in
    let first = c.in_ok-ended.ensures.ok trusted l stands in
    works_on a b d live l first.0 first.2 (c.end.ensures.any_moment trusted l stands)
    (c.merge_each.ensures.any_moment told first.0 first.1)

pub returns-clause-ok : goal.returns-clause-ok
returns-clause-ok g c trusted l stands =
    let a : DiskState = g.D.Disk.state c.args.disk.now in
    let b : DiskState = g.D.Disk.state c.end.new.disk in
    let d : DiskState = g.D.Disk.state c.merge_each.new.disk in
    let live = c.args.live.now in
    let told = trusted_on a b c.end.ensures.goes trusted in
    let first = c.in_ok-ended.ensures.ok trusted l stands in
    let later = c.in_ok-merged.ensures.ok told first.0 first.1 in (
      later.0,
      record {
        hand = later.1;
        merging = subst (IsGoing d c.merge_each.new.hand) (sym c.in_ok-ended.ensures.none) tt;
        few = c.any_many-self.ensures;
      },
      works_then live l first.0 later.0 first.2 later.2,
    )

pub returns-clause-any_moment : goal.returns-clause-any_moment
returns-clause-any_moment g c trusted l stands =
    let a : DiskState = g.D.Disk.state c.args.disk.now in
    let b : DiskState = g.D.Disk.state c.end.new.disk in
    let d : DiskState = g.D.Disk.state c.merge_each.new.disk in
    let live = c.args.live.now in
    let told = trusted_on a b c.end.ensures.goes trusted in
    let first = c.in_ok-ended.ensures.ok trusted l stands in
    works_on a b d live l first.0 first.2 (c.end.ensures.any_moment trusted l stands)
    (c.merge_each.ensures.any_moment told first.0 first.1)

pub returns-then-not-merged-clause-memory : goal.returns-then-not-merged-clause-memory
returns-then-not-merged-clause-memory g c family lives =
    c.in_ok-merged.ensures.memory family lives ∙ c.in_ok-ended.ensures.memory family lives

pub returns-then-not-merged-clause-kept : goal.returns-then-not-merged-clause-kept
returns-then-not-merged-clause-kept g c trusted l stands family lives merged apart =
    let a : DiskState = g.D.Disk.state c.args.disk.now in
    let b : DiskState = g.D.Disk.state c.end.new.disk in
    let d : DiskState = g.D.Disk.state c.merge_each.new.disk in
    let live = c.args.live.now in
    let e = c.args.self.now.hand in
    let k = c.end.new.self.hand in
    let f = c.merge_each.new.hand in
    let told = trusted_on a b c.end.ensures.goes trusted in
    let first = c.in_ok-ended.ensures.ok trusted l stands in
    let same = c.in_ok-ended.ensures.others family lives apart in
    c.in_ok-merged.ensures.kept told family lives (subst (AreMerged b) (sym same)
    (merged_on a b (files_at e family) (c.in_ok-ended.ensures.still trusted l stands family lives apart)
    merged)) ∙ same

pub returns-then-not-merged-clause-missing : goal.returns-then-not-merged-clause-missing
returns-then-not-merged-clause-missing g c trusted l stands n other low none =
    let a : DiskState = g.D.Disk.state c.args.disk.now in
    let b : DiskState = g.D.Disk.state c.end.new.disk in
    let told = trusted_on a b c.end.ensures.goes trusted in
    let first = c.in_ok-ended.ensures.ok trusted l stands in
    c.in_ok-merged.ensures.missing told first.0 first.1 n
    (subst (λ k. n < k) (sym c.in_ok-ended.ensures.next_file) low)
    (c.in_ok-ended.ensures.missing trusted l stands n other low none)

pub returns-clause-memory : goal.returns-clause-memory
returns-clause-memory g c family lives =
    c.in_ok-merged.ensures.memory family lives ∙ c.in_ok-ended.ensures.memory family lives

pub returns-clause-kept : goal.returns-clause-kept
returns-clause-kept g c trusted l stands family lives merged apart =
    let a : DiskState = g.D.Disk.state c.args.disk.now in
    let b : DiskState = g.D.Disk.state c.end.new.disk in
    let d : DiskState = g.D.Disk.state c.merge_each.new.disk in
    let live = c.args.live.now in
    let e = c.args.self.now.hand in
    let k = c.end.new.self.hand in
    let f = c.merge_each.new.hand in
    let told = trusted_on a b c.end.ensures.goes trusted in
    let first = c.in_ok-ended.ensures.ok trusted l stands in
    let same = c.in_ok-ended.ensures.others family lives apart in
    c.in_ok-merged.ensures.kept told family lives (subst (AreMerged b) (sym same)
    (merged_on a b (files_at e family) (c.in_ok-ended.ensures.still trusted l stands family lives apart)
    merged)) ∙ same

pub returns-clause-missing : goal.returns-clause-missing
returns-clause-missing g c trusted l stands n other low none =
    let a : DiskState = g.D.Disk.state c.args.disk.now in
    let b : DiskState = g.D.Disk.state c.end.new.disk in
    let told = trusted_on a b c.end.ensures.goes trusted in
    let first = c.in_ok-ended.ensures.ok trusted l stands in
    c.in_ok-merged.ensures.missing told first.0 first.1 n
    (subst (λ k. n < k) (sym c.in_ok-ended.ensures.next_file) low)
    (c.in_ok-ended.ensures.missing trusted l stands n other low none)

pub returns-clause-leaves_out : goal.returns-clause-leaves_out
returns-clause-leaves_out g c done =
    let live = c.args.live.now in
    let e = c.args.self.now.hand in
    let k = c.end.new.self.hand in
    let f = c.merge_each.new.hand in
    by_flag c.in_ok-ended.ended
    (λ on. by_flag c.in_ok-merged.merged
    (λ more. leaves_then live e k f (c.in_ok-ended.ensures.leaves_out on)
    (c.in_ok-merged.ensures.leaves_out more) c.end.ensures.next)
    (λ none. subst (λ (h : Hand). LeavesOut live e h) (sym (c.in_ok-merged.ensures.idle_hand none))
    (c.in_ok-ended.ensures.leaves_out on)))
    (λ off. by_flag c.in_ok-merged.merged
    (λ more. subst (λ (h : Hand). LeavesOut live h f)
    (ap (λ (x : Engine). x.hand) (c.in_ok-ended.ensures.same off).1.1)
    (c.in_ok-merged.ensures.leaves_out more))
    (λ none. (let no : ⊥ = search rules in absurd no)))

pub returns-clause-adds : goal.returns-clause-adds
returns-clause-adds g c done trusted l stands =
    let a : DiskState = g.D.Disk.state c.args.disk.now in
    let b : DiskState = g.D.Disk.state c.end.new.disk in
    let d : DiskState = g.D.Disk.state c.merge_each.new.disk in
    let live = c.args.live.now in
    let e = c.args.self.now.hand in
    let k = c.end.new.self.hand in
    let f = c.merge_each.new.hand in
    let told = trusted_on a b c.end.ensures.goes trusted in
    let first = c.in_ok-ended.ensures.ok trusted l stands in
    by_flag c.in_ok-ended.ended
    (λ on. by_flag c.in_ok-merged.merged
    (λ more. adds_then a b d e k f l stands.hand (c.in_ok-ended.ensures.adds on trusted)
    (c.in_ok-merged.ensures.adds more told first.0 first.1)
    (let next = c.in_ok-ended.ensures.next_file in omega (arith, next))
    (c.in_ok-merged.ensures.missing told first.0 first.1))
    (λ none. subst (λ (h : Hand). AddsVersion d e h) (sym (c.in_ok-merged.ensures.idle_hand none))
    (subst (λ (s : DiskState). AddsVersion s e k) (sym (c.in_ok-merged.ensures.idle_disk none))
    (c.in_ok-ended.ensures.adds on trusted))))
    (λ off. by_flag c.in_ok-merged.merged
    (λ more. subst (λ (h : Hand). AddsVersion d h f)
    (ap (λ (x : Engine). x.hand) (c.in_ok-ended.ensures.same off).1.1)
    (c.in_ok-merged.ensures.adds more told first.0 first.1))
    (λ none. (let no : ⊥ = search rules in absurd no)))

pub returns-then-not-merged-clause-next_file : goal.returns-then-not-merged-clause-next_file
returns-then-not-merged-clause-next_file g c =
    let first = c.in_ok-ended.ensures.next_file in
    let more = c.in_ok-merged.ensures.next_file in omega (arith, first, more)

pub returns-clause-next_file : goal.returns-clause-next_file
returns-clause-next_file g c =
    let first = c.in_ok-ended.ensures.next_file in
    let more = c.in_ok-merged.ensures.next_file in omega (arith, first, more)
