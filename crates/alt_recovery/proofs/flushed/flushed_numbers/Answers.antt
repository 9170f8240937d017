-- From the last family back.
use Rattle.std.proofs.Common.{◌≡◌, ◌-◌, ℕ, drop, length, refl, sym, ap, ◌∙◌, arith}
use Rattle.std.proofs.lemmas.List.{drop_all}
use Rattle.alt_layout.specs.Families.{flushed_of}
use Rattle.alt_recovery.specs.Flushed.{or_zero}
use Rattle.alt_recovery.proofs.NumberLaws.{drop_back, get_empty, numbers_more}
use Rattle.alt_recovery.proofs.flushed.flushed_numbers.Goals as goal

pub loop-i-init : goal.loop-i-init
loop-i-init c family =
    let fs = c.args.families.now in
    ap or_zero (get_empty c.new-numbers.result c.new-numbers.ensures.empty family)
    ∙ sym (ap (λ l. flushed_of l family) (drop_all (length fs - 0) fs (omega arith)))

pub loop-i-preserved : goal.loop-i-preserved
loop-i-preserved c family =
    let fs = c.args.families.now in
    numbers_more c.loop-i.numbers c.insert.new.self (drop (length fs - c.loop-i.i) fs)
    c.index-families-families.result c.loop-i.invariant c.in_ok-insert.ensures.updates.0 family
    ∙ sym (ap (λ l. flushed_of l family)
    (drop_back fs c.loop-i.i (length fs - 1 - c.loop-i.i) c.index-families-families.result
    c.loop-i-test.true refl c.index-families-families.is))

pub returns : goal.returns
returns c family =
    let fs = c.args.families.now in
    let all : length fs - c.loop-i.i ≡ 0 = omega (arith, c.loop-i-test.false) in
    c.loop-i.invariant family ∙ ap (λ (n : ℕ). flushed_of (drop n fs) family) all
