use Rattle.std.proofs.Common.{◌≡◌, ◌++◌, ℕ, length-append, sym, ap, ◌∙◌, arith}
use Rattle.std.specs.Str.Parse.{AllDigits, digits_value, digits_value_after}
use Rattle.alt_decimal.proofs.Values.{value_append, AllDigits-front, AllDigits-back, HasRoom-back, HasRoom-few}
use Rattle.alt_decimal.proofs.Coefficients.{all_trimmed, many_trimmed, coefficient_trimmed}
use Rattle.alt_decimal.proofs.read.coefficient.Goals as goal

pub append-requires-clause-digits : goal.append-requires-clause-digits
append-requires-clause-digits c =
    AllDigits-front c.trimmed-behind.result.0.now c.trimmed-behind.result.1.now
    (all_trimmed _ _ _ _ _ c.trimmed-behind.ensures c.requires.whole_digits
    c.requires.fraction_digits)

pub append-requires-clause-room : goal.append-requires-clause-room
append-requires-clause-room c = HasRoom-few c.trimmed-behind.result.0.now (omega arith)

pub append-requires-else-w-f-gt38-clause-digits : goal.append-requires-else-w-f-gt38-clause-digits
append-requires-else-w-f-gt38-clause-digits c =
    AllDigits-back c.trimmed-behind.result.0.now c.trimmed-behind.result.1.now
    (all_trimmed _ _ _ _ _ c.trimmed-behind.ensures c.requires.whole_digits
    c.requires.fraction_digits)

pub append-requires-else-w-f-gt38-clause-room : goal.append-requires-else-w-f-gt38-clause-room
append-requires-else-w-f-gt38-clause-room c =
    let w = c.trimmed-behind.result.0.now in
    let f = c.trimmed-behind.result.1.now in
    let front : AllDigits 10 w =
    AllDigits-front w f (all_trimmed _ _ _ _ _ c.trimmed-behind.ensures c.requires.whole_digits
    c.requires.fraction_digits) in
    rw c.append.ensures (HasRoom-back 0 w f front
    (HasRoom-few (w ++ f) (omega (arith, length-append w f))))

pub returns-then-w-f-gt38 : goal.returns-then-w-f-gt38
returns-then-w-f-gt38 c =
    many_trimmed _ _ _ _ _ c.trimmed-behind.ensures c.requires.whole_digits
    c.requires.fraction_digits
    (omega (arith, length-append c.trimmed-behind.result.0.now c.trimmed-behind.result.1.now))

pub returns-else-w-f-gt38 : goal.returns-else-w-f-gt38
returns-else-w-f-gt38 c =
    let w = c.trimmed-behind.result.0.now in
    let f = c.trimmed-behind.result.1.now in
    let value : c.append-else-w-f-gt38.result ≡ digits_value 10 (w ++ f) =
    c.append-else-w-f-gt38.ensures ∙ ap (λ (v : ℕ). digits_value_after 10 v f) c.append.ensures
    ∙ sym (value_append 0 w f) in
    rw value (coefficient_trimmed _ _ w f _ c.trimmed-behind.ensures c.requires.whole_digits
    c.requires.fraction_digits (omega (arith, length-append w f)))
