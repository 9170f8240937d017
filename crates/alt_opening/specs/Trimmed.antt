-- The numbers of the last changes that were trimmed, by the names of their tables, as they are known while a store is open.
use Rattle.std.specs.Prelude.{◌≡◌, ◌==◌, ℕ, List, ◌∷◌, if◌then◌else◌, not}
use Rattle.std.specs.FinMap as map
use Rattle.std.specs.List.{filter, find}
use Rattle.std.specs.Option.{option_map_or}
use Rattle.std.specs.Str.{bytes_eq}
use Rattle.alt_machine.specs.State.{Table, Texts}
use Rattle.alt_opening.specs.declared.trimmed.Trimmed.{Trimmed}

-- what is known of a table: the first number of its name, 0 where there is none
abbrev pub number_at : List ℕ → List Trimmed → ℕ
number_at name known =
    option_map_or (λ (e : Trimmed). e.number) (find (λ (e : Trimmed). bytes_eq e.table name) known) 0

-- with the number of a table in front, unless it is 0
abbrev pub with_number : List ℕ → ℕ → List Trimmed → List Trimmed
with_number name number known =
    if number == 0 then known else record { table = name; number = number } ∷ known

-- without those of a name
abbrev pub without_table_number : List ℕ → List Trimmed → List Trimmed
without_table_number name known = filter (λ (e : Trimmed). not (bytes_eq e.table name)) known

-- They are the trimmed numbers of these tables, and nothing is known of a name that none of them has.
abbrev pub AreTrimmedOf : Texts Table → List Trimmed → Type 0
AreTrimmedOf tables known = (name : List ℕ) → number_at name known
    ≡ option_map_or (λ (t : Table). t.trimmed) (map.get tables name) 0

-- What is known of a name is this number, and of all others what was.
abbrev pub IsRenumbered : List ℕ → ℕ → List Trimmed → List Trimmed → Type 0
IsRenumbered name number old new = (q : List ℕ)
    → number_at q new ≡ (if bytes_eq name q then number else number_at q old)
