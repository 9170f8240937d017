-- What the header fields of a head say (docs/formats/http.md).
use Rattle.std.specs.Prelude.{ℕ, Bool, List, [], ◌∷◌, Option, None, Some, if◌then◌else◌}
use Rattle.std.specs.Str.{str_eq_ignore_ascii_case}

-- the name of a field, and its value without spaces and tabs at both ends
abbrev pub Header : Type 0
Header = List ℕ × List ℕ

-- the text is the word in any case
abbrev pub is_word : List ℕ → List ℕ → Bool
is_word word text = str_eq_ignore_ascii_case text word

-- the values of the fields with this name, in their order
abbrev pub values_named : List ℕ → List Header → List (List ℕ)
values_named name [] = []
values_named name (h ∷ hs) =
    if is_word name h.0 then h.1 ∷ values_named name hs else values_named name hs

-- the first of these values
abbrev pub first_field_value : List (List ℕ) → Option (List ℕ)
first_field_value [] = None
first_field_value (v ∷ vs) = Some v
