-- The number that a text stands for.
use Rattle.std.specs.Prelude.{ℕ, ℤ, List, Option, Some, None, Result, Err}
use Rattle.alt_decimal.specs.declared.fault.NumberFault.{NumberFault}
use Rattle.alt_decimal.specs.declared.fault.NumberFault.TheVariants.{NotANumber}
use Rattle.alt_decimal.specs.Number.{fitted}
use Rattle.alt_decimal.specs.NumberText.{NumberText, denoted_number}
use Rattle.alt_decimal.specs.Reading.{reading}

-- the number of a number text where it fits, and else why it doesn't; no other text is a number
abbrev pub of_text : Option NumberText → Result ℤ NumberFault
of_text None = Err NotANumber
of_text (Some t) = fitted (denoted_number t)

-- the number of a text, or why it is refused
unfoldable pub number_of : List ℕ → Result ℤ NumberFault
number_of text = of_text (reading text)
