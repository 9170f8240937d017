-- What entries ask of an item, operator by operator (API Reference, "Condition", ComparisonOperator). Where that leaves a choice,
-- docs/DECISIONS.md says what was chosen.
use Rattle.std.specs.Prelude.{Bool, true, false, not, ◌&&◌, List, [], ◌∷◌, Option, Some, is_some}
use Rattle.std.specs.List.{list_any, list_all}
use Rattle.std.specs.Option.{option_map_or}
use Rattle.std.specs.Ordering.{is_lt, is_le, is_gt, is_ge, is_some_and}
use Rattle.alt_value.specs.Order.{tree_order}
use Rattle.alt_value.specs.Stands.{tree_of}
use Rattle.alt_value.specs.Tree.{Tree}
use Rattle.alt_value.specs.declared.attr.Attr.{Attr}
use Rattle.alt_expr.specs.declared.cond.Comparison.{Comparison}
use Rattle.alt_expr.specs.declared.cond.Comparison.TheVariants as c
use Rattle.alt_expr.specs.declared.cond.Cond.{Cond}
use Rattle.alt_expr.specs.Holds.{same, has, begins, holds}
use Rattle.alt_expr.specs.Located.{View}
use Rattle.alt_legacy.specs.declared.entry.Entry.{Entry}
use Rattle.alt_legacy.specs.declared.entry.Test.{Test}
use Rattle.alt_legacy.specs.declared.entry.Test.TheVariants as t

-- the attribute is there, and equals the value
abbrev pub is_equal : Option Tree → Attr → Bool
is_equal x v = option_map_or (λ s. same s (tree_of v)) x false

-- the attribute is there, both are two texts, two numbers or two binaries, and stand in that order
abbrev pub in_order : Comparison → Option Tree → Attr → Bool
in_order c.Equal x v = is_equal x v
in_order c.NotEqual x v = not (is_equal x v)
in_order c.Less x v = option_map_or (λ s. is_some_and is_lt (tree_order s (tree_of v))) x false
in_order c.LessEqual x v = option_map_or (λ s. is_some_and is_le (tree_order s (tree_of v))) x false
in_order c.Greater x v = option_map_or (λ s. is_some_and is_gt (tree_order s (tree_of v))) x false
in_order c.GreaterEqual x v =
    option_map_or (λ s. is_some_and is_ge (tree_order s (tree_of v))) x false

-- whether the value of an attribute, where it is there, meets a test
abbrev pub satisfies : Test → Option Tree → Bool
satisfies (t.Compares by v) x = in_order by x v
satisfies (t.Between low high) x = in_order c.GreaterEqual x low && in_order c.LessEqual x high
satisfies (t.Among vs) x = list_any (λ v. is_equal x v) vs
satisfies t.There x = is_some x
satisfies t.Missing x = not (is_some x)
satisfies (t.Has v) x = option_map_or (λ s. has s (tree_of v)) x false
satisfies (t.HasNot v) x = option_map_or (λ s. not (has s (tree_of v))) x false
satisfies (t.Begins v) x = begins x (Some (tree_of v))

-- an entry holds of an item where the attribute of its name meets its test
abbrev pub holds_for : View → Entry → Bool
holds_for item e = satisfies e.test (item e.name)

-- there are no entries
abbrev pub is_nothing : List Entry → Bool
is_nothing [] = true
is_nothing (e ∷ es) = false

-- An item meets entries where each holds of it, or with OR some. No entries ask nothing.
abbrev pub meets_entries : Bool → List Entry → View → Bool
meets_entries any [] item = true
meets_entries true (e ∷ es) item = list_any (holds_for item) (e ∷ es)
meets_entries false (e ∷ es) item = list_all (holds_for item) (e ∷ es)

-- a condition holds of an item; where there is none, nothing is asked
abbrev pub holds_of : Option Cond → View → Bool
holds_of condition item = option_map_or (holds item) condition true
