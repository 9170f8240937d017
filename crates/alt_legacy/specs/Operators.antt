-- The thirteen operators, and what each asks with its values (API Reference, "Condition", ComparisonOperator).
use Rattle.std.specs.Prelude.{ℕ, List, Option, Some, None, option_map, codes, if◌then◌else◌}
use Rattle.std.specs.Str.{bytes_eq}
use Rattle.serde_json.specs.Data.{Items}
use Rattle.alt_expr.specs.declared.cond.Comparison.TheVariants as c
use Rattle.alt_legacy.specs.declared.entry.Test.{Test}
use Rattle.alt_legacy.specs.declared.entry.Test.TheVariants as t
use Rattle.alt_legacy.specs.declared.operator.Operator.{Operator}
use Rattle.alt_legacy.specs.declared.operator.Operator.TheVariants as op
use Rattle.alt_legacy.specs.Values.{no_value, one_value, two_values, some_values}

-- the operator of a word
abbrev pub operator_of : List ℕ → Option Operator
operator_of word =
    if bytes_eq word (codes "EQ") then Some (op.Compares c.Equal)
    else if bytes_eq word (codes "NE") then Some (op.Compares c.NotEqual)
    else if bytes_eq word (codes "LT") then Some (op.Compares c.Less)
    else if bytes_eq word (codes "LE") then Some (op.Compares c.LessEqual)
    else if bytes_eq word (codes "GT") then Some (op.Compares c.Greater)
    else if bytes_eq word (codes "GE") then Some (op.Compares c.GreaterEqual)
    else if bytes_eq word (codes "BETWEEN") then Some op.Between
    else if bytes_eq word (codes "IN") then Some op.In
    else if bytes_eq word (codes "NOT_NULL") then Some op.NotNull
    else if bytes_eq word (codes "NULL") then Some op.Null
    else if bytes_eq word (codes "CONTAINS") then Some op.Contains
    else if bytes_eq word (codes "NOT_CONTAINS") then Some op.NotContains
    else if bytes_eq word (codes "BEGINS_WITH") then Some op.BeginsWith
    else None

-- the test that an operator makes of its values; none where they aren't as many as it has
abbrev pub test_of_operator : Operator → Items → Option Test
test_of_operator (op.Compares by) ds = option_map (λ v. t.Compares by v) (one_value ds)
test_of_operator op.Between ds = option_map (λ vs. t.Between vs.0 vs.1) (two_values ds)
test_of_operator op.In ds = option_map (λ vs. t.Among vs) (some_values ds)
test_of_operator op.NotNull ds = option_map (λ _. t.There) (no_value ds)
test_of_operator op.Null ds = option_map (λ _. t.Missing) (no_value ds)
test_of_operator op.Contains ds = option_map (λ v. t.Has v) (one_value ds)
test_of_operator op.NotContains ds = option_map (λ v. t.HasNot v) (one_value ds)
test_of_operator op.BeginsWith ds = option_map (λ v. t.Begins v) (one_value ds)
