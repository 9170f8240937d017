-- The draft without families that aren't live, with what was made; and then the version.
use Rattle.std.proofs.Common.{◌≡◌, ◌<◌, ◌-◌, ⊎_elim, length, Option, refl, sym, ap, subst, ◌∙◌, arith, rules}
use Rattle.std.proofs.lemmas.Result.{on_ok_weaker}
use Rattle.std.specs.BTreeMap.{get}
use Rattle.std.specs.Ordering.{nat_cmp}
use Rattle.alt_disk.specs.Disk.{DiskState}
use Rattle.alt_flush.specs.Drafts.{renumbered}
use Rattle.alt_manifest.specs.InHand.{version_of}
use Rattle.alt_manifest.specs.declared.version.Version.{Version}
use Rattle.alt_families.specs.declared.family.Family.{Family}
use Rattle.alt_families.specs.Families.{files_in}
use Rattle.alt_hand.proofs.EndLaws.{lying_at, merge_ended, works_either, works_still}
use Rattle.alt_hand.specs.Carrying.{AreStill}
use Rattle.alt_hand.proofs.CarryLaws.{on_ok_both, still_published}
use Rattle.alt_drafts.proofs.MergingLaws.{some_family}
use Rattle.std.specs.FinMap.{empty}
use Rattle.alt_families.specs.Families.{Families, rows_in}
use Rattle.alt_flush.specs.Drafts.{From}
use Rattle.alt_flush.proofs.RemoveLaws.{none_removed}
use Rattle.alt_layout.specs.Families.{files_of}
use Rattle.alt_layout.proofs.MomentLaws.{same_or_not}
use Rattle.alt_manifest.specs.Versions.{IsIn}
use Rattle.alt_hand.specs.Adding.{IsLeftOut, IsThere}
use Rattle.alt_hand.specs.Merging.{version_in}
use Rattle.alt_hand.proofs.AddingLaws.{adds_draft, drops_first, makes_none, no_version, one_version}
use Rattle.alt_drafts.proofs.LeftOutLaws.{drops_then}
use Rattle.alt_hand.proofs.FlushesLaws.{one_empty}
use Rattle.alt_hand.proofs.hand.Hand.end_merge.Goals as goal

pub returns-in_err-first-clause-any_moment : goal.returns-in_err-first-clause-any_moment
returns-in_err-first-clause-any_moment g c trusted l stands =
    works_still (g.D.Disk.state c.args.disk.now) c.args.self.now l c.args.live.now stands

pub returns-in_err-put_files_of-clause-any_moment : goal.returns-in_err-put_files_of-clause-any_moment
returns-in_err-put_files_of-clause-any_moment g c trusted l stands =
    works_still (g.D.Disk.state c.args.disk.now) c.args.self.now l c.args.live.now stands

pub returns-in_err-alive-clause-any_moment : goal.returns-in_err-alive-clause-any_moment
returns-in_err-alive-clause-any_moment g c trusted l stands =
    works_still (g.D.Disk.state c.args.disk.now) c.args.self.now l c.args.live.now stands

pub returns-in_err-draft-clause-any_moment : goal.returns-in_err-draft-clause-any_moment
returns-in_err-draft-clause-any_moment g c trusted l stands =
    works_still (g.D.Disk.state c.args.disk.now) c.args.self.now l c.args.live.now stands

pub publish-requires : goal.publish-requires
publish-requires g c = record {
  ready = λ trusted.
      let e = c.args.self.now in
      let is : c.in_ok-first.first ≡ renumbered (version_of e.manifest) e.next_file e.next =
      c.in_ok-first.ensures ∙ ap (λ (v : Version). renumbered v e.next_file e.next) c.current.ensures in
      let given = c.requires.ready trusted in
      let merging = c.requires.merging trusted in
      let ended = merge_ended (g.D.Disk.state c.args.disk.now) e given.0 c.args.live.now given.1
      c.in_ok-first.first c.in_ok-alive.alive c.in_ok-draft.draft c.leave_dead.new.families
      c.merged.new.families c.args.family c.args.taken merging.0 c.args.file c.args.made
      (search rules) is c.requires.live c.in_ok-alive.ensures.makes c.in_ok-alive.ensures.version
      (c.in_ok-alive.ensures.lives c.args.family c.requires.live) c.in_ok-alive.ensures.segments
      c.in_ok-draft.ensures.segments merging.1 (c.requires.file trusted) (c.requires.made trusted) c.in_ok-draft.ensures.makes in
      (ended.0, ended.1);
}

pub returns-clause-ok : goal.returns-clause-ok
returns-clause-ok g c = on_ok_weaker c.publish.result (λ all trusted l stands.
    let e = c.args.self.now in
    let is : c.in_ok-first.first ≡ renumbered (version_of e.manifest) e.next_file e.next =
    c.in_ok-first.ensures ∙ ap (λ (v : Version). renumbered v e.next_file e.next) c.current.ensures in
    let merging = c.requires.merging trusted in
    let ended = merge_ended (g.D.Disk.state c.args.disk.now) e l c.args.live.now stands
    c.in_ok-first.first c.in_ok-alive.alive c.in_ok-draft.draft c.leave_dead.new.families
    c.merged.new.families c.args.family c.args.taken merging.0 c.args.file c.args.made
    (search rules) is c.requires.live c.in_ok-alive.ensures.makes c.in_ok-alive.ensures.version
    (c.in_ok-alive.ensures.lives c.args.family c.requires.live) c.in_ok-alive.ensures.segments
    c.in_ok-draft.ensures.segments merging.1 (c.requires.file trusted) (c.requires.made trusted) c.in_ok-draft.ensures.makes in
    (ended.0, all trusted ended.0 ended.1, ended.2)) c.publish.ensures.ok

pub returns-clause-any_moment : goal.returns-clause-any_moment
returns-clause-any_moment g c trusted l stands =
    let e = c.args.self.now in
    let a : DiskState = g.D.Disk.state c.args.disk.now in
    let is : c.in_ok-first.first ≡ renumbered (version_of e.manifest) e.next_file e.next =
    c.in_ok-first.ensures ∙ ap (λ (v : Version). renumbered v e.next_file e.next) c.current.ensures in
    let merging = c.requires.merging trusted in
    let ended = merge_ended a e l c.args.live.now stands
    c.in_ok-first.first c.in_ok-alive.alive c.in_ok-draft.draft c.leave_dead.new.families
    c.merged.new.families c.args.family c.args.taken merging.0 c.args.file c.args.made
    (search rules) is c.requires.live c.in_ok-alive.ensures.makes c.in_ok-alive.ensures.version
    (c.in_ok-alive.ensures.lives c.args.family c.requires.live) c.in_ok-alive.ensures.segments
    c.in_ok-draft.ensures.segments merging.1 (c.requires.file trusted) (c.requires.made trusted) c.in_ok-draft.ensures.makes in
    works_either a (g.D.Disk.state c.publish.new.disk) c.args.live.now l ended.0 ended.2
    (c.publish.ensures.any_moment trusted l ended.0 (lying_at a e l stands) ended.1)

pub returns-clause-still : goal.returns-clause-still
returns-clause-still g c = on_ok_weaker c.publish.result (λ others trusted l stands other there apart.
    let e = c.args.self.now in
    let a : DiskState = g.D.Disk.state c.args.disk.now in
    let z : DiskState = g.D.Disk.state c.publish.new.disk in
    let is : c.in_ok-first.first ≡ renumbered (version_of e.manifest) e.next_file e.next =
    c.in_ok-first.ensures ∙ ap (λ (v : Version). renumbered v e.next_file e.next) c.current.ensures in
    let merging = c.requires.merging trusted in
    let ended = merge_ended a e l c.args.live.now stands
    c.in_ok-first.first c.in_ok-alive.alive c.in_ok-draft.draft c.leave_dead.new.families
    c.merged.new.families c.args.family c.args.taken merging.0 c.args.file c.args.made
    (search rules) is c.requires.live c.in_ok-alive.ensures.makes c.in_ok-alive.ensures.version
    (c.in_ok-alive.ensures.lives c.args.family c.requires.live) c.in_ok-alive.ensures.segments
    c.in_ok-draft.ensures.segments merging.1 (c.requires.file trusted) (c.requires.made trusted) c.in_ok-draft.ensures.makes in
    subst (AreStill a z) (ap files_in (c.in_ok-draft.ensures.others other apart
    ∙ c.in_ok-alive.ensures.lives other there))
    (still_published a z c.in_ok-draft.draft c.merged.new.families ended.1.parts ended.0
    c.as_slice-2.result.now ended.1.makes (others trusted ended.0 ended.1) other))
    c.publish.ensures.others

pub returns-clause-made : goal.returns-clause-made
returns-clause-made g c = on_ok_weaker c.publish.result (λ others trusted l stands.
    let e = c.args.self.now in
    let a : DiskState = g.D.Disk.state c.args.disk.now in
    let z : DiskState = g.D.Disk.state c.publish.new.disk in
    let is : c.in_ok-first.first ≡ renumbered (version_of e.manifest) e.next_file e.next =
    c.in_ok-first.ensures ∙ ap (λ (v : Version). renumbered v e.next_file e.next) c.current.ensures in
    let merging = c.requires.merging trusted in
    let ended = merge_ended a e l c.args.live.now stands
    c.in_ok-first.first c.in_ok-alive.alive c.in_ok-draft.draft c.leave_dead.new.families
    c.merged.new.families c.args.family c.args.taken merging.0 c.args.file c.args.made
    (search rules) is c.requires.live c.in_ok-alive.ensures.makes c.in_ok-alive.ensures.version
    (c.in_ok-alive.ensures.lives c.args.family c.requires.live) c.in_ok-alive.ensures.segments
    c.in_ok-draft.ensures.segments merging.1 (c.requires.file trusted) (c.requires.made trusted) c.in_ok-draft.ensures.makes in
    let own = c.in_ok-alive.ensures.lives c.args.family c.requires.live in
    let some = some_family (get nat_cmp c.leave_dead.new.families c.args.family)
    (subst (λ (o : Option Family). 0 < length (files_in o)) (sym own)
    (let first = merging.1.some in let enough = merging.1.enough in omega (arith, first, enough))) in
    (subst (AreStill a z) (c.in_ok-draft.ensures.files some)
    (still_published a z c.in_ok-draft.draft c.merged.new.families ended.1.parts ended.0
    c.as_slice-2.result.now ended.1.makes (others trusted ended.0 ended.1) c.args.family)).0)
    c.publish.ensures.others

pub returns-clause-memory : goal.returns-clause-memory
returns-clause-memory g c = on_ok_weaker c.publish.result (λ well other lives.
    let family = c.args.family in
    let own = c.in_ok-alive.ensures.lives other lives in
    ap (λ (fs : Families). rows_in (get nat_cmp fs other)) c.publish.ensures.families ∙ ⊎_elim
    (λ (same : other ≡ family). subst (λ k. rows_in (get nat_cmp c.merged.new.families k)
    ≡ rows_in (get nat_cmp c.leave_dead.new.families k)) (sym same) c.in_ok-draft.ensures.rows)
    (λ (apart : other ≡ family → ⊥). ap rows_in (c.in_ok-draft.ensures.others other apart))
    (same_or_not other family) ∙ ap rows_in own) c.publish.ensures.well

pub returns-clause-leaves_out : goal.returns-clause-leaves_out
returns-clause-leaves_out g c =
    let e = c.args.self.now in
    let live = c.args.live.now in
    let family = c.args.family in
    let alive = c.leave_dead.new.families in
    let after = c.merged.new.families in
    let last = c.publish.new.self.families in
    let still : last ≡ after = c.publish.ensures.families in
    let is : c.in_ok-first.first ≡ renumbered (version_of e.manifest) e.next_file e.next =
    c.in_ok-first.ensures ∙ ap (λ (v : Version). renumbered v e.next_file e.next) c.current.ensures in
    on_ok_weaker c.publish.result (λ (version : version_in c.publish.new.self ≡ c.in_ok-draft.draft). record {
      segments = ap (λ (v : Version). v.segments) version ∙ c.in_ok-draft.ensures.segments
          ∙ c.in_ok-alive.ensures.segments ∙ ap (λ (v : Version). v.segments) is;
      named = λ other out there. subst (λ (v : Version). IsLeftOut v other (e.next - 1)) (sym version)
          (c.in_ok-draft.ensures.past other (e.next - 1)
          (λ (same : other ≡ family). out (subst (IsIn live) (sym same) c.requires.live))
          (subst (λ n. IsLeftOut c.in_ok-alive.alive other (n - 1)) (ap (λ (v : Version). v.next_number) is)
          (c.in_ok-alive.ensures.past other out
          (subst (λ (v : Version). IsThere v (get nat_cmp e.families other) other) (sym is) there))));
      emptied = λ other out. ⊎_elim (λ (lives : IsIn live other). absurd (out lives))
          (λ (none : rows_in (get nat_cmp last other) ≡ empty). none)
          (one_empty last after alive live family other still c.requires.live
          c.in_ok-draft.ensures.others (c.in_ok-alive.ensures.rest other));
    }) c.publish.ensures.version

pub returns-clause-adds : goal.returns-clause-adds
returns-clause-adds g c = on_ok_both c.publish.result
    (λ (version : version_in c.publish.new.self ≡ c.in_ok-draft.draft) gone trusted.
    let e = c.args.self.now in
    let is : c.in_ok-first.first ≡ renumbered (version_of e.manifest) e.next_file e.next =
    c.in_ok-first.ensures ∙ ap (λ (v : Version). renumbered v e.next_file e.next) c.current.ensures in
    let left = c.leave_dead.new.left.items in
    adds_draft (g.D.Disk.state c.publish.new.disk) e c.publish.new.self c.in_ok-draft.draft
    c.as_slice-2.result.now
    (drops_first e c.in_ok-first.first c.in_ok-draft.draft left c.as_slice-2.result.now is
    (drops_then c.in_ok-first.first c.in_ok-alive.alive c.in_ok-draft.draft left
    (files_of c.in_ok-alive.alive.families c.args.family) c.in_ok-alive.ensures.drops
    c.in_ok-draft.ensures.drops (λ f there. c.in_ok-alive.ensures.kept f
    (c.in_ok-put_files_of.ensures.own f (subst (λ xs. IsIn xs f)
    (c.in_ok-alive.ensures.same c.args.family c.requires.live
    ∙ ap (λ fs. files_of fs c.args.family) (sym c.as_slice.ensures)) there)))) c.as_slice-2.ensures.value)
    (gone trusted) version c.publish.ensures.file)
    c.publish.ensures.version c.publish.ensures.gone

pub returns-clause-missing : goal.returns-clause-missing
returns-clause-missing g c = on_ok_weaker c.publish.result (λ missing trusted l stands.
    let e = c.args.self.now in
    let a : DiskState = g.D.Disk.state c.args.disk.now in
    let is : c.in_ok-first.first ≡ renumbered (version_of e.manifest) e.next_file e.next =
    c.in_ok-first.ensures ∙ ap (λ (v : Version). renumbered v e.next_file e.next) c.current.ensures in
    let merging = c.requires.merging trusted in
    let ended = merge_ended a e l c.args.live.now stands
    c.in_ok-first.first c.in_ok-alive.alive c.in_ok-draft.draft c.leave_dead.new.families
    c.merged.new.families c.args.family c.args.taken merging.0 c.args.file c.args.made
    (search rules) is c.requires.live c.in_ok-alive.ensures.makes c.in_ok-alive.ensures.version
    (c.in_ok-alive.ensures.lives c.args.family c.requires.live) c.in_ok-alive.ensures.segments
    c.in_ok-draft.ensures.segments merging.1 (c.requires.file trusted) (c.requires.made trusted) c.in_ok-draft.ensures.makes in
    makes_none a a (g.D.Disk.state c.publish.new.disk) e l stands
    (λ f low. refl) (missing trusted ended.0 ended.1)) c.publish.ensures.missing

pub returns-in_err-first-clause-one_version : goal.returns-in_err-first-clause-one_version
returns-in_err-first-clause-one_version g c trusted l stands =
    let a : DiskState = g.D.Disk.state c.args.disk.now in
    let e = c.args.self.now in no_version a a e l stands (none_removed a (From e.next_file))

pub returns-in_err-put_files_of-clause-one_version : goal.returns-in_err-put_files_of-clause-one_version
returns-in_err-put_files_of-clause-one_version g c trusted l stands =
    let a : DiskState = g.D.Disk.state c.args.disk.now in
    let e = c.args.self.now in no_version a a e l stands (none_removed a (From e.next_file))

pub returns-in_err-alive-clause-one_version : goal.returns-in_err-alive-clause-one_version
returns-in_err-alive-clause-one_version g c trusted l stands =
    let a : DiskState = g.D.Disk.state c.args.disk.now in
    let e = c.args.self.now in no_version a a e l stands (none_removed a (From e.next_file))

pub returns-in_err-draft-clause-one_version : goal.returns-in_err-draft-clause-one_version
returns-in_err-draft-clause-one_version g c trusted l stands =
    let a : DiskState = g.D.Disk.state c.args.disk.now in
    let e = c.args.self.now in no_version a a e l stands (none_removed a (From e.next_file))

pub returns-clause-one_version : goal.returns-clause-one_version
returns-clause-one_version g c trusted l stands =
    let e = c.args.self.now in
    let a : DiskState = g.D.Disk.state c.args.disk.now in
    let is : c.in_ok-first.first ≡ renumbered (version_of e.manifest) e.next_file e.next =
    c.in_ok-first.ensures ∙ ap (λ (v : Version). renumbered v e.next_file e.next) c.current.ensures in
    let merging = c.requires.merging trusted in
    let ended = merge_ended a e l c.args.live.now stands
    c.in_ok-first.first c.in_ok-alive.alive c.in_ok-draft.draft c.leave_dead.new.families
    c.merged.new.families c.args.family c.args.taken merging.0 c.args.file c.args.made
    (search rules) is c.requires.live c.in_ok-alive.ensures.makes c.in_ok-alive.ensures.version
    (c.in_ok-alive.ensures.lives c.args.family c.requires.live) c.in_ok-alive.ensures.segments
    c.in_ok-draft.ensures.segments merging.1 (c.requires.file trusted) (c.requires.made trusted) c.in_ok-draft.ensures.makes in
    one_version a a e l stands (none_removed a (From e.next_file))
    (g.D.Disk.state c.publish.new.disk) c.in_ok-draft.draft
    (c.publish.ensures.one_version trusted ended.0 ended.1)
