-- All that aren't live are left out.
use Rattle.std.proofs.Common.{◌≡◌, ◌-◌, ℕ, List, [], ap, subst, sym, ◌∙◌}
use Rattle.std.proofs.lemmas.Result.{IfOk-weaker, on_ok_weaker}
use Rattle.alt_disk.specs.Disk.{DiskState}
use Rattle.alt_layout.specs.Layout.{Layout}
use Rattle.alt_manifest.specs.declared.version.Version.{Version}
use Rattle.alt_writes.specs.Writes.{Write}
use Rattle.alt_drafts.specs.Drafting.{AreDead, Empties, Makes, without_families, IsLeftOut, IsThere}
use Rattle.alt_drafts.proofs.DeadLaws.{without_all-file, without_all-segments}
use Rattle.alt_flush.specs.Laws.{DropsOnly}
use Rattle.alt_layout.specs.Families.{files_of}
use Rattle.alt_manifest.specs.Versions.{IsIn, numbers_of}
use Rattle.std.specs.Prelude.{◌⊎◌}
use Rattle.std.specs.FinMap.{empty}
use Rattle.alt_families.specs.Families.{rows_in}
use Rattle.std.specs.BTreeMap.{get}
use Rattle.std.specs.Ordering.{nat_cmp}
use Rattle.alt_drafts.proofs.LeftOutLaws.{bare_dead, drops_dead, past_dead, same_live}
use Rattle.alt_drafts.proofs.CarryDrafts.{carries_left_out}
use Rattle.alt_drafts.proofs.dead.leave_dead.Goals as goal

pub returns-clause-makes : goal.returns-clause-makes
returns-clause-makes c =
    let dead = c.as_slice.result.now in
    let old = c.args.families.now in
    let new = c.drop_all.new.families in
    let live = c.args.live.now in
    IfOk-weaker c.drop_all.result
    (λ (u : Version). (s : DiskState) (parts : List (List Write)) (l : Layout) (live : List ℕ)
    → AreDead live dead → Makes s c.args.draft old parts l
    → (m : Layout) × Makes s u new parts m × Empties live l m)
    (λ (u : Version). (s : DiskState) (parts : List (List Write)) (l : Layout)
    → Makes s c.args.draft old parts l → (m : Layout) × Makes s u new parts m × Empties live l m)
    (λ u all s parts l makes. all s parts l live
    (subst (AreDead live) (sym c.as_slice.ensures.value) c.in_ok-dead.ensures.dead) makes)
    c.drop_all.ensures.makes

pub returns-clause-file : goal.returns-clause-file
returns-clause-file c = IfOk-weaker c.drop_all.result
    (λ (u : Version). u ≡ without_families c.args.draft c.as_slice.result.now)
    (λ (u : Version). u.next_file ≡ c.args.draft.next_file)
    (λ u is. ap (λ (v : Version). v.next_file) is
    ∙ without_all-file c.args.draft c.as_slice.result.now) c.drop_all.ensures.version

pub returns-clause-segments : goal.returns-clause-segments
returns-clause-segments c = IfOk-weaker c.drop_all.result
    (λ (u : Version). u ≡ without_families c.args.draft c.as_slice.result.now)
    (λ (u : Version). u.segments ≡ c.args.draft.segments)
    (λ u is. ap (λ (v : Version). v.segments) is
    ∙ without_all-segments c.args.draft c.as_slice.result.now) c.drop_all.ensures.version

pub returns-clause-version : goal.returns-clause-version
returns-clause-version c = IfOk-weaker c.drop_all.result
    (λ (u : Version). u ≡ without_families c.args.draft c.as_slice.result.now)
    (λ (u : Version). (dead : List ℕ) × AreDead c.args.live.now dead
    × (u ≡ without_families c.args.draft dead))
    (λ u is. (
      c.as_slice.result.now,
      subst (AreDead c.args.live.now) (sym c.as_slice.ensures.value) c.in_ok-dead.ensures.dead,
      is,
    )) c.drop_all.ensures.version

pub returns-clause-carries : goal.returns-clause-carries
returns-clause-carries c = carries_left_out c.drop_all.result c.args.draft c.args.families.now
    c.drop_all.new.families c.args.live.now c.as_slice.result.now
    (subst (AreDead c.args.live.now) (sym c.as_slice.ensures.value) c.in_ok-dead.ensures.dead)
    c.drop_all.ensures.version c.drop_all.ensures.others

pub returns-clause-left : goal.returns-clause-left
returns-clause-left c = on_ok_weaker c.drop_all.result
    (λ others f there. c.in_ok-dead.ensures.left f there) c.drop_all.ensures.others

pub returns-clause-kept : goal.returns-clause-kept
returns-clause-kept c = on_ok_weaker c.drop_all.result
    (λ others f there. c.in_ok-dead.ensures.kept f there) c.drop_all.ensures.others

pub returns-clause-drops : goal.returns-clause-drops
returns-clause-drops c = IfOk-weaker c.drop_all.result
    (λ (u : Version). u ≡ without_families c.args.draft c.as_slice.result.now)
    (λ (u : Version). DropsOnly c.args.draft u c.dead_of.new.files.items)
    (λ u is. drops_dead c.args.draft u c.args.live.now c.as_slice.result.now
    (subst (AreDead c.args.live.now) (sym c.as_slice.ensures.value) c.in_ok-dead.ensures.dead) is
    c.dead_of.new.files.items c.in_ok-dead.ensures.files) c.drop_all.ensures.version

pub returns-clause-bare : goal.returns-clause-bare
returns-clause-bare c = IfOk-weaker c.drop_all.result
    (λ (u : Version). u ≡ without_families c.args.draft c.as_slice.result.now)
    (λ (u : Version). (family : ℕ) → (IsIn c.args.live.now family → ⊥)
    → files_of u.families family ≡ [])
    (λ u is. bare_dead c.args.draft u c.args.live.now c.as_slice.result.now
    (subst (AreDead c.args.live.now) (sym c.as_slice.ensures.value) c.in_ok-dead.ensures.dead) is
    (subst (λ (xs : List ℕ). (family : ℕ)
    → IsIn (numbers_of c.args.draft.families) family → IsIn c.args.live.now family ⊎ IsIn xs family)
    (sym c.as_slice.ensures.value) c.in_ok-dead.ensures.named)) c.drop_all.ensures.version

pub returns-clause-past : goal.returns-clause-past
returns-clause-past c = IfOk-weaker c.drop_all.result
    (λ (u : Version). u ≡ without_families c.args.draft c.as_slice.result.now)
    (λ (u : Version). (family : ℕ) → (IsIn c.args.live.now family → ⊥)
    → IsThere c.args.draft (get nat_cmp c.args.families.now family) family
    → IsLeftOut u family (c.args.draft.next_number - 1))
    (λ u is family out there. past_dead c.args.draft u c.args.live.now c.as_slice.result.now
    (subst (AreDead c.args.live.now) (sym c.as_slice.ensures.value) c.in_ok-dead.ensures.dead) is
    (get nat_cmp c.args.families.now family) family
    (λ named. subst (λ (xs : List ℕ). IsIn c.args.live.now family ⊎ IsIn xs family)
    (sym c.as_slice.ensures.value) (c.in_ok-dead.ensures.named family named))
    (subst (λ (xs : List ℕ). IsIn c.args.live.now family
    ⊎ (IsIn xs family ⊎ (rows_in (get nat_cmp c.args.families.now family) ≡ empty)))
    (sym c.as_slice.ensures.value) (c.in_ok-dead.ensures.rest family)) out there)
    c.drop_all.ensures.version

pub returns-clause-same : goal.returns-clause-same
returns-clause-same c = IfOk-weaker c.drop_all.result
    (λ (u : Version). u ≡ without_families c.args.draft c.as_slice.result.now)
    (λ (u : Version). (family : ℕ) → IsIn c.args.live.now family
    → files_of u.families family ≡ files_of c.args.draft.families family)
    (λ u is. same_live c.args.draft u c.args.live.now c.as_slice.result.now
    (subst (AreDead c.args.live.now) (sym c.as_slice.ensures.value) c.in_ok-dead.ensures.dead) is)
    c.drop_all.ensures.version
