use Rattle.std.proofs.Common.{◌≡◌, ◌<◌, ◌+◌, ◌*◌, ◌-◌, ◌^◌, min, ◌∙◌, sym, refl, get_or, length, arith, true}
use Rattle.std.specs.Char.{is_ascii_digit}
use Rattle.alt_run.proofs.Numbers.{digit_more, digits_over}
use Rattle.alt_run.proofs.words.digits.Goals as goal

pub loop-digit-preserved : goal.loop-digit-preserved
loop-digit-preserved c =
    let word = c.args.word.now in
    let i = c.loop-digit.digit-index in
    let x = get_or word i 0 in
    let r = c.saturating_add-number.result in
    let within : i < length word = omega arith in
    let digit : is_ascii_digit x ≡ true = grind arith in
    let same : min r (2 ^ 64 - 1) ≡ min (10 * c.loop-digit.number + (x - 48)) (2 ^ 64 - 1) =
    grind arith in
    let fits : r < 2 ^ 64 = grind arith in (
      digit_more word i c.loop-digit.number x r within refl digit same
          ∙ c.loop-digit.invariant.0,
      fits,
    )

pub returns : goal.returns
returns c = sym (digits_over c.args.word.now c.loop-digit.digit-index c.loop-digit.number
    (omega arith) (omega arith)) ∙ c.loop-digit.invariant.0
