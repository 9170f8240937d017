-- A number more.
use Rattle.std.proofs.Common.{inl, inr, ◌∷◌, ◌++◌, ◌∙◌, [], List, ℕ, ap, subst, sym}
use Rattle.alt_layout.proofs.FileLaws.{in_either}
use Rattle.alt_manifest.proofs.RuleLaws.{tells_no, tells_yes}
use Rattle.alt_manifest.specs.Versions.{IsIn}
use Rattle.alt_drafts.specs.Drafting.{AreDead}
use Rattle.alt_drafts.proofs.DeadLaws.{dead_push, in_push}
use Rattle.alt_drafts.proofs.dead.put_if_dead.Goals as goal
use Rattle.alt_manifest.proofs.Among.{in_back, in_front}

pub returns-clause-dead : goal.returns-clause-dead
returns-clause-dead c =
    let family = c.args.family.now.family in
    subst (AreDead c.args.live.now) (sym c.in_ok-push.ensures.items)
    (dead_push c.args.live.now c.args.dead.now.items family c.requires
    (tells_no c.has.result (IsIn c.args.live.now family) c.has.ensures c.if-has.false))

pub returns-clause-more : goal.returns-clause-more
returns-clause-more c other there = subst (λ (xs : List ℕ). IsIn xs other)
    (sym c.in_ok-push.ensures.items)
    (in_front c.args.dead.now.items (c.args.family.now.family ∷ []) other there)

pub returns-clause-one : goal.returns-clause-one
returns-clause-one c = inr (subst (λ (xs : List ℕ). IsIn xs c.args.family.now.family)
    (sym c.in_ok-push.ensures.items) (in_push c.args.dead.now.items c.args.family.now.family))

pub returns-clause-left : goal.returns-clause-left
returns-clause-left c f there = in_either c.args.files.now.items c.args.family.now.files f
    (λ front. inl front) (λ back. inr back)
    (subst (λ (xs : List ℕ). IsIn xs f) (c.in_ok-extend_from_slice.ensures.items
    ∙ ap (λ ys. c.args.files.now.items ++ ys) c.as_slice.ensures) there)

pub returns-then-has-clause-files : goal.returns-then-has-clause-files
returns-then-has-clause-files c out f there =
    absurd (out (tells_yes c.has.result (IsIn c.args.live.now c.args.family.now.family) c.has.ensures
    c.if-has.true))

pub returns-clause-files : goal.returns-clause-files
returns-clause-files c out f there = subst (λ (xs : List ℕ). IsIn xs f)
    (sym (c.in_ok-extend_from_slice.ensures.items
    ∙ ap (λ ys. c.args.files.now.items ++ ys) c.as_slice.ensures))
    (in_back c.args.files.now.items c.args.family.now.files f there)

pub returns-clause-kept : goal.returns-clause-kept
returns-clause-kept c f there = subst (λ (xs : List ℕ). IsIn xs f)
    (sym (c.in_ok-extend_from_slice.ensures.items
    ∙ ap (λ ys. c.args.files.now.items ++ ys) c.as_slice.ensures))
    (in_front c.args.files.now.items c.args.family.now.files f there)
