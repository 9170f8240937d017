use Rattle.std.proofs.Common.{◌∙◌, sym, ap, subst, add-one, Some}
use Rattle.std.proofs.lemmas.List.{get_or_default}
use Rattle.alt_merge.specs.declared.head.Head.TheVariants.{Due}
use Rattle.alt_merge.specs.Merges.{HeadHoldsRow}
use Rattle.alt_merge.specs.Tied.{BestTo, comes_before}
use Rattle.alt_merge.proofs.Least.{best_same, best_first, best_new, best_kept, not_held}
use Rattle.alt_merge.proofs.gather.better.Goals as goal

pub returns-in_default : goal.returns-in_default
returns-in_default c =
    let here =
    c.index-heads-i.is ∙ get_or_default c.args.heads.now c.args.i c.index-heads-i.result Due
    c.requires.inside in
    subst (λ n. BestTo c.args.forward c.args.heads.now n c.args.best) (sym (add-one c.args.i))
    (best_same c.args.forward c.args.heads.now c.args.best c.args.i c.requires.inside
    (subst (λ h. HeadHoldsRow h → ⊥) here (not_held c.index-heads-i.result c.in_default.not-Held))
    c.requires.best)

pub returns-in-None : goal.returns-in-None
returns-in-None c =
    let here = sym (get_or_default c.args.heads.now c.args.i c.index-heads-i.result Due
    c.requires.inside) ∙ sym c.index-heads-i.is ∙ c.in-Held.is in
    subst (λ n. BestTo c.args.forward c.args.heads.now n (Some c.args.i)) (sym (add-one c.args.i))
    (best_first c.args.forward c.args.heads.now c.args.i c.in-Held.key c.in-Held.field-1
    c.requires.inside here (subst (λ b. BestTo c.args.forward c.args.heads.now c.args.i b)
    c.in-None.is c.requires.best))

pub returns-then-before : goal.returns-then-before
returns-then-before c =
    let here = sym (get_or_default c.args.heads.now c.args.i c.index-heads-i.result Due
    c.requires.inside) ∙ sym c.index-heads-i.is ∙ c.in-Held.is in
    let best = subst (λ b. BestTo c.args.forward c.args.heads.now c.args.i b) c.in-Some.is
    c.requires.best in
    let there = c.index-heads-at.is ∙ get_or_default c.args.heads.now c.in-Some.at
    c.index-heads-at.result Due best.0 in
    subst (λ n. BestTo c.args.forward c.args.heads.now n (Some c.args.i)) (sym (add-one c.args.i))
    (best_new c.args.forward c.args.heads.now c.args.i c.in-Some.at c.in-Held.key c.in-Held.field-1
    c.requires.inside here
    (ap (comes_before c.args.forward c.in-Held.key) (sym there) ∙ sym c.before-in-Some.ensures
    ∙ c.if-before.true) best)

pub returns-else-before : goal.returns-else-before
returns-else-before c =
    let here = sym (get_or_default c.args.heads.now c.args.i c.index-heads-i.result Due
    c.requires.inside) ∙ sym c.index-heads-i.is ∙ c.in-Held.is in
    let best = subst (λ b. BestTo c.args.forward c.args.heads.now c.args.i b) c.in-Some.is
    c.requires.best in
    let there = c.index-heads-at.is ∙ get_or_default c.args.heads.now c.in-Some.at
    c.index-heads-at.result Due best.0 in
    subst (λ n. BestTo c.args.forward c.args.heads.now n (Some c.in-Some.at))
    (sym (add-one c.args.i))
    (best_kept c.args.forward c.args.heads.now c.args.i c.in-Some.at c.in-Held.key c.in-Held.field-1
    c.requires.inside here
    (ap (comes_before c.args.forward c.in-Held.key) (sym there) ∙ sym c.before-in-Some.ensures
    ∙ c.if-before.false) best)
