-- One number more.
use Rattle.std.proofs.Common.{◌≡◌, ◌+◌, ◌∷◌, ℕ, suc, List, drop, drop-cons, get_or, max, refl, sym, ap, ◌∙◌, arith}
use Rattle.std.proofs.lemmas.List.{drop_all}
use Rattle.alt_recovery.specs.Others.{next_past}
use Rattle.alt_recovery.proofs.next.next_file.Goals as goal

pub loop-f-init : goal.loop-f-init
loop-f-init c = refl

pub loop-f-preserved : goal.loop-f-preserved
loop-f-preserved c =
    let fs : List ℕ = c.args.files.now in
    let i : ℕ = c.loop-f.f-index in
    let more : suc i ≡ i + 1 = omega arith in
    ap (λ (n : ℕ). next_past n (drop (i + 1) fs))
    (c.max-least.ensures ∙ ap (max c.loop-f.least) c.saturating_add.ensures)
    ∙ sym (ap (next_past c.loop-f.least) (drop-cons fs i 0 c.loop-f-test.true
    ∙ ap (λ (n : ℕ). get_or fs i 0 ∷ drop n fs) more))
    ∙ c.loop-f.invariant

pub returns : goal.returns
returns c =
    sym (ap (next_past c.loop-f.least)
    (drop_all c.loop-f.f-index c.args.files.now c.loop-f-test.false)) ∙ c.loop-f.invariant
