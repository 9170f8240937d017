-- Definitions by name: what a map from names to kinds has of a list of definitions.
use Rattle.std.specs.Prelude.{◌≡◌, ℕ, Bool, ◌||◌, List, Option, option_map, is_some}
use Rattle.std.specs.BTreeMap.{get_by}
use Rattle.std.specs.Cmp.Lexicographic.{slice_cmp}
use Rattle.std.specs.List.{find}
use Rattle.std.specs.Ordering.{nat_cmp}
use Rattle.std.specs.Str.{bytes_eq}
use Rattle.alt_value.specs.declared.kind.KeyKind.{KeyKind}
use Rattle.alt_schema.specs.declared.named.Kinds.{Kinds}
use Rattle.alt_description.specs.declared.schema.KeyAttr.{KeyAttr}

-- the kind that a map has for a name
abbrev pub kind_at : Kinds → List ℕ → Option KeyKind
kind_at kinds name = get_by (λ key. slice_cmp nat_cmp name key.now) kinds.by_name

-- the kind of the first definition of a name
abbrev pub kind_defined : List KeyAttr → List ℕ → Option KeyKind
kind_defined definitions name =
    option_map (λ d. d.kind) (find (λ d. bytes_eq d.name name) definitions)

-- a map has for each name the kind that it is defined with, and no other names
abbrev pub AreOf : Kinds → List KeyAttr → Type 0
AreOf kinds definitions = (name : List ℕ) → kind_at kinds name ≡ kind_defined definitions name

-- a map has the names that another has and those that pass a test
abbrev pub HasMore : Kinds → Kinds → (List ℕ → Bool) → Type 0
HasMore old new more =
    (name : List ℕ) → is_some (kind_at new name) ≡ (is_some (kind_at old name) || more name)
