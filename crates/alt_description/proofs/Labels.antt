-- A number written with zeros before it, up to 21 digits.
use Rattle.std.proofs.Common.{◌≡◌, ℕ, ◌-◌, ◌++◌, length, replicate, arith, decimal}
use Rattle.std.proofs.lemmas.List.{append-nil}
use Rattle.std.specs.Fmt.{styled_decimal, format_spec, padded_integral, char_count}
use Rattle.alt_description.specs.Json.{label}

-- what is written so is the label of the number
pub label_written : (n : ℕ) → styled_decimal (format_spec 32 0 4 21 18446744073709551615) n
    ≡ label n
unfolding label padded_integral char_count
label_written n =
    let m : 21 - length (decimal n) - 0 - 0 ≡ 21 - length (decimal n) = omega arith in
    λ j. replicate (m j) 48 ++ append-nil (decimal n) j
