-- The order of tables by name.
use Rattle.std.specs.Prelude.{ℕ, List, Option, option_map}
use Rattle.std.specs.List.{find}
use Rattle.std.specs.Ordering.{is_lt}
use Rattle.std.specs.FinMap as map
use Rattle.alt_machine.specs.State.{Texts}
use Rattle.alt_value.specs.Members.{text_order}

-- the first that comes after a name, in the order of names
abbrev pub first_after : {X : Type 0} → List ℕ → Texts X → Option X
first_after name m = option_map (λ e. e.1) (find (λ e. is_lt (text_order name e.0)) (map.entries m))
