use Rattle.std.proofs.Common.{◌≡◌, ◌++◌, List, ℕ, ◌∙◌, arith}
use Rattle.std.specs.Str.Parse.{AllDigits}
use Rattle.alt_decimal.proofs.Trimming.{zeros}
use Rattle.alt_decimal.proofs.Values.{AllDigits-back, HasRoom-few}
use Rattle.alt_decimal.proofs.Coefficients.{capped_few, capped_many}
use Rattle.alt_decimal.proofs.read.exponent_value.Goals as goal

all_short : (digits short : List ℕ) (j : ℕ) → digits ≡ zeros j ++ short → AllDigits 10 digits
    → AllDigits 10 short
all_short digits short j e all = AllDigits-back (zeros j) short (rw (← e) all)

pub append-requires-clause-digits : goal.append-requires-clause-digits
append-requires-clause-digits c = all_short _ _ _ c.behind_zeros-short.ensures.zeros c.requires

pub append-requires-clause-room : goal.append-requires-clause-room
append-requires-clause-room c = HasRoom-few c.behind_zeros-short.result.now (omega arith)

pub returns-then-short-gt36 : goal.returns-then-short-gt36
returns-then-short-gt36 c =
    let zeros = c.behind_zeros-short.ensures.zeros in
    capped_many _ _ _ zeros (all_short _ _ _ zeros c.requires) c.behind_zeros-short.ensures.first
    (omega arith)

pub returns-else-short-gt36 : goal.returns-else-short-gt36
returns-else-short-gt36 c =
    let zeros = c.behind_zeros-short.ensures.zeros in
    c.append.ensures ∙ capped_few c.args.digits.now c.behind_zeros-short.result.now _ zeros
    (all_short _ _ _ zeros c.requires) (omega arith)
