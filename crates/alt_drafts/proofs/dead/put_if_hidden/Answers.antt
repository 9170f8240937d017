-- A number more, or a family without rows.
use Rattle.std.proofs.Common.{inl, inr, ◌∷◌, [], List, ℕ, subst, sym, ap, ◌∙◌}
use Rattle.alt_families.specs.Families.{rows_in}
use Rattle.alt_manifest.proofs.RuleLaws.{tells_no}
use Rattle.alt_manifest.specs.Versions.{IsIn}
use Rattle.alt_drafts.specs.Drafting.{AreDead}
use Rattle.alt_drafts.proofs.DeadLaws.{dead_push, in_push, no_rows_in}
use Rattle.alt_drafts.proofs.dead.put_if_hidden.Goals as goal
use Rattle.alt_manifest.proofs.Among.{in_front}

pub returns-in_ok-push-in-Some-clause-dead : goal.returns-in_ok-push-in-Some-clause-dead
returns-in_ok-push-in-Some-clause-dead c =
    subst (AreDead c.args.live.now) (sym c.in_ok-push-in-Some.ensures.items)
    (dead_push c.args.live.now c.args.dead.now.items c.args.number c.requires
    (tells_no c.has.result (IsIn c.args.live.now c.args.number) c.has.ensures c.if-has.false))

pub returns-in_ok-push-in-Some-clause-more : goal.returns-in_ok-push-in-Some-clause-more
returns-in_ok-push-in-Some-clause-more c other there = subst (λ (xs : List ℕ). IsIn xs other)
    (sym c.in_ok-push-in-Some.ensures.items)
    (in_front c.args.dead.now.items (c.args.number ∷ []) other there)

pub returns-in_ok-push-in-Some-clause-one : goal.returns-in_ok-push-in-Some-clause-one
returns-in_ok-push-in-Some-clause-one c =
    inr (inl (subst (λ (xs : List ℕ). IsIn xs c.args.number)
    (sym c.in_ok-push-in-Some.ensures.items) (in_push c.args.dead.now.items c.args.number)))

pub returns-else-has_rows-clause-one : goal.returns-else-has_rows-clause-one
returns-else-has_rows-clause-one c = inr (inr (sym (ap rows_in c.in-Some.ensures.value)
    ∙ no_rows_in c.in-Some.found.now.table.0 (sym c.has_rows.ensures ∙ c.if-has_rows.false)))
