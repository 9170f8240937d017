use Rattle.std.proofs.Common.{◌≡◌, ◌∙◌, List, ℕ, true, false, sym, ap, arith}
use Rattle.std.specs.Prelude.{nat_eq}
use Rattle.std.specs.List.{starts_with}
use Rattle.alt_run.proofs.TrialRequests.{beginning_more, one_where}
use Rattle.alt_run.proofs.tally.counted.Goals as goal

pub returns-then-begins-clause-counted : goal.returns-then-begins-clause-counted
returns-then-begins-clause-counted c = λ ts t line is.
    let front = c.args.front.now in
    let more = beginning_more front ts t in
    let yes : starts_with nat_eq c.args.line.now front ≡ true = grind arith in
    let one : one_where (starts_with nat_eq t.text front) ≡ 1 =
    ap one_where
    (ap (λ (bytes : List ℕ). starts_with nat_eq bytes front) (sym line) ∙ yes) in
    omega (arith, more, one, is)

pub returns-else-begins-clause-counted : goal.returns-else-begins-clause-counted
returns-else-begins-clause-counted c = λ ts t line is.
    let front = c.args.front.now in
    let more = beginning_more front ts t in
    let no : starts_with nat_eq c.args.line.now front ≡ false = grind arith in
    let none : one_where (starts_with nat_eq t.text front) ≡ 0 =
    ap one_where
    (ap (λ (bytes : List ℕ). starts_with nat_eq bytes front) (sym line) ∙ no) in
    omega (arith, more, none, is)
