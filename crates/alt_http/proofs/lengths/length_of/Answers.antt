use Rattle.std.proofs.Common.{◌≡◌, ◌+◌, ◌-◌, ◌*◌, ℕ, List, min, get_or, drop, sym, ap, ◌∙◌, arith}
use Rattle.std.proofs.Math.Nat.{min-le_right}
use Rattle.std.specs.Char.{digit_value}
use Rattle.std.specs.Str.Parse.{digits_value, digits_value_after}
use Rattle.alt_http.proofs.Walks.{left_is, same_capped, digit_at, digit_value-digit}
use Rattle.alt_http.proofs.lengths.length_of.Goals as goal

pub loop-digit-preserved : goal.loop-digit-preserved
loop-digit-preserved c =
    let text = c.args.text.now in
    let k = c.loop-digit.digit-index in
    let value = c.loop-digit.value in
    let digit = get_or text k 0 in
    let more = value * 10 + (digit - 48) in
    let rest = drop (k + 1) text in
    let is_digit : digit_value digit ≡ digit - 48 =
    digit_value-digit digit (digit_at text k c.requires c.loop-digit-test.true) in
    let exact : min (digits_value_after 10 (value * 10 + digit_value digit) rest) 16777217
    ≡ min (digits_value 10 text) 16777217 =
    left_is (λ (l : List ℕ). min (digits_value_after 10 value l) 16777217) text k 0
    (min (digits_value 10 text) 16777217) c.loop-digit-test.true c.loop-digit.invariant.so_far
    in
    let capped : min (digits_value_after 10 (min more 16777217) rest) 16777217
    ≡ min (digits_value_after 10 more rest) 16777217 =
    same_capped 16777217 (min more 16777217) more rest (omega arith) in
    record {
      bounded = let e = c.min-value.ensures in let h = min-le_right more 16777217 in
          omega (arith, e, h);
      so_far = ap (λ (n : ℕ). min (digits_value_after 10 n rest) 16777217) c.min-value.ensures
          ∙ capped
          ∙ ap (λ (n : ℕ). min (digits_value_after 10 (value * 10 + n) rest) 16777217)
          (sym is_digit) ∙ exact;
    }
