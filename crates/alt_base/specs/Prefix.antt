-- What stands at the front of what.
use Rattle.std.specs.Prelude.{◌≡◌, ◌++◌, List}

-- a list begins with another
abbrev pub IsPrefix : {A : Type 0} → List A → List A → Type 0
IsPrefix {A} front whole = (rest : List A) × (whole ≡ front ++ rest)
