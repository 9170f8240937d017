-- Its files are put behind the others.
use Rattle.std.proofs.Common.{◌++◌, ◌∙◌, List, ℕ, ap, subst, sym}
use Rattle.alt_manifest.specs.Versions.{IsIn}
use Rattle.alt_drafts.proofs.merge.put_if_own.Goals as goal
use Rattle.alt_manifest.proofs.Among.{in_back, in_front}

pub returns-in_ok-extend_from_slice-clause-own : goal.returns-in_ok-extend_from_slice-clause-own
returns-in_ok-extend_from_slice-clause-own c same f there = subst (λ (xs : List ℕ). IsIn xs f)
    (sym (c.in_ok-extend_from_slice.ensures.items
    ∙ ap (λ ys. c.args.files.now.items ++ ys) c.as_slice.ensures))
    (in_back c.args.files.now.items c.args.found.now.files f there)

pub returns-in_ok-extend_from_slice-clause-kept : goal.returns-in_ok-extend_from_slice-clause-kept
returns-in_ok-extend_from_slice-clause-kept c f there = subst (λ (xs : List ℕ). IsIn xs f)
    (sym (c.in_ok-extend_from_slice.ensures.items
    ∙ ap (λ ys. c.args.files.now.items ++ ys) c.as_slice.ensures))
    (in_front c.args.files.now.items c.args.found.now.files f there)
