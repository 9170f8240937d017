-- What is asked of a field's value. These words serve the clauses of private functions alone.
use Rattle.std.specs.Prelude.{ℕ, Bool, true, not, List, Option, None, Some}
use Rattle.std.specs.Borrow.{Bor}
use Rattle.alt_http.specs.Fields.{is_word}
use Rattle.alt_http.specs.Lengths.{is_other_length}
use Rattle.alt_http.specs.declared.fields.Test.{Test}
use Rattle.alt_http.specs.declared.fields.Test.TheVariants.{Any, Is, IsNot, IsOtherLength}

-- whether the value passes
abbrev pub passes_test : Test → List ℕ → Bool
passes_test Any value = true
passes_test (Is word) value = is_word word.now value
passes_test (IsNot word) value = not (is_word word.now value)
passes_test (IsOtherLength first) value = is_other_length first.now value

-- the bytes of a value that was found
abbrev pub found_value : Option (Bor (List ℕ)) → Option (List ℕ)
found_value None = None
found_value (Some value) = Some value.now
