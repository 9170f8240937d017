use Rattle.std.proofs.Common.{◌≡◌, ◌<◌, ◌≤◌, ◌+◌, ◌*◌, ◌-◌, ◌^◌, ◌∙◌, sym, refl, ap, get_or, drop, length, arith, true}
use Rattle.std.specs.Char.{is_ascii_digit}
use Rattle.std.specs.Prelude.{option_and_then}
use Rattle.alt_run.specs.Words.{small_seed}
use Rattle.alt_run.proofs.Numbers.{seed_large, seed_more}
use Rattle.alt_run.proofs.words.seed_digits.Goals as goal

pub returns-in_default : goal.returns-in_default
returns-in_default c =
    let word = c.args.word.now in
    let i = c.loop-digit.digit-index in
    let n = c.loop-digit.number in
    let x = get_or word i 0 in
    let within : i < length word = omega arith in
    let digit : is_ascii_digit x ≡ true = grind arith in
    let over = c.in_default.ensures in
    let large : 2 ^ 64 ≤ 10 * n + (x - 48) = omega (arith, over) in
    sym (sym c.loop-digit.invariant.0
    ∙ ap (option_and_then small_seed) (seed_more word i n x within refl digit)
    ∙ seed_large (drop (i + 1) word) (10 * n + (x - 48)) large)

pub returns-in_default-checked_add : goal.returns-in_default-checked_add
returns-in_default-checked_add c =
    let word = c.args.word.now in
    let i = c.loop-digit.digit-index in
    let n = c.loop-digit.number in
    let x = get_or word i 0 in
    let within : i < length word = omega arith in
    let digit : is_ascii_digit x ≡ true = grind arith in
    let over = c.in_default-checked_add.ensures in
    let more = c.in-Some.ensures in
    let large : 2 ^ 64 ≤ 10 * n + (x - 48) = grind (arith, over, more) in
    sym (sym c.loop-digit.invariant.0
    ∙ ap (option_and_then small_seed) (seed_more word i n x within refl digit)
    ∙ seed_large (drop (i + 1) word) (10 * n + (x - 48)) large)
