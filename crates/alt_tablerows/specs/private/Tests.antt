-- The tests of a description that is read, beside those of its bytes.
use Rattle.std.specs.Prelude.{◌==◌, ◌&&◌, ℕ, Bool, true, not, nat_lt, nat_le, List, [], ◌∷◌}
use Rattle.std.specs.List.{list_all, list_any}
use Rattle.std.specs.Str.{bytes_eq}
use Rattle.alt_machine.specs.State.{families_of}
use Rattle.alt_schema.specs.declared.schema.TableSchema.{TableSchema}
use Rattle.alt_tablerows.specs.private.Made.{is_as_made}

-- each is from 1 on and below the next
abbrev pub are_within : ℕ → List ℕ → Bool
are_within next families = list_all (λ f. nat_le 1 f && nat_lt f next) families

-- none stands twice
abbrev pub are_apart : List ℕ → Bool
are_apart [] = true
are_apart (f ∷ fs) = not (list_any (λ g. g == f) fs) && are_apart fs

-- both
abbrev pub are_families : ℕ → List ℕ → Bool
are_families next families = are_within next families && are_apart families

-- a number was taken before the next one
abbrev pub is_number_taken : ℕ → ℕ → Bool
is_number_taken next number = nat_le 1 number && nat_lt number next

-- the tests of it, beside those of its bytes
abbrev pub passes_description_tests : ℕ → ℕ → List ℕ → TableSchema → Bool
passes_description_tests number next name d = bytes_eq d.name name && (is_as_made d && (is_number_taken number d.number
    && are_families next (families_of d)))
