-- The paths of names that differ; names of which two are equal are none.
use Rattle.std.proofs.Common.{refl, sym, ap, ◌∙◌, ℕ, List, map, Option, Some, arith}
use Rattle.std.specs.Prelude.{is_some, not}
use Rattle.serde_json.specs.View.{view, items_view}
use Rattle.serde_json.specs.declared.value.Value.{Value}
use Rattle.alt_legacy.specs.Trees.{attribute_path}
use Rattle.alt_legacy.proofs.Listed.{listed_paths, listed_twice, filled}
use Rattle.alt_legacy.proofs.names.names_of.Goals as goal

pub returns-then-is_none-clause-cause : goal.returns-then-is_none-clause-cause
returns-then-is_none-clause-cause c = λ _. (
  refl,
  listed_twice (view c.args.names.now) (items_view c.as_slice.result.now)
      c.in_ok-names.names.items
      (ap (λ (vs : List Value). Some (items_view vs)) c.as_slice.ensures.value ∙ c.in-Some.ensures)
      c.in_ok-names.ensures.ok
      (ap (λ (o : Option (List (List ℕ))). is_some o) (sym c.from_members.ensures.set)
      ∙ c.is_none.ensures ∙ ap not c.if-is_none.true),
)

pub returns-clause-paths : goal.returns-clause-paths
returns-clause-paths c =
    listed_paths (view c.args.names.now) (items_view c.as_slice.result.now)
    c.in_ok-names.names.items
    (ap (λ (vs : List Value). Some (items_view vs)) c.as_slice.ensures.value ∙ c.in-Some.ensures)
    c.in_ok-names.ensures.ok c.in_ok-paths.paths
    (omega (
      arith,
      filled c.is_empty.result c.in_ok-names.names.len c.is_empty.ensures
          c.if-is_empty.false,
      c.in_ok-names.names.ok.0,
    ))
    (ap (λ (o : Option (List (List ℕ))). is_some o) (sym c.from_members.ensures.set)
    ∙ c.is_none.ensures ∙ ap not c.if-is_none.false)
    (c.in_ok-paths.ensures ∙ ap (λ (ns : List (List ℕ)). map attribute_path ns) c.as_slice-2.ensures.value)
