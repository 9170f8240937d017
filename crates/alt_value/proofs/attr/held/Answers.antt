-- A list and an item hold values.
use Rattle.std.proofs.Common.{sym, subst}
use Rattle.alt_value.specs.Stands.{tree_of}
use Rattle.alt_value.specs.Values.{IsValue}
use Rattle.alt_value.proofs.Values.{IsValue-list, IsValue-map}
use Rattle.alt_value.proofs.attr.held.Goals as goal

pub returns-in-L : goal.returns-in-L
returns-in-L c = record {
  value = subst (λ a. IsValue (tree_of a)) (sym c.in-L.is)
      (IsValue-list _ c.len-count-in-L.ensures.values);
}

pub returns-in-M : goal.returns-in-M
returns-in-M c = record {
  value = subst (λ a. IsValue (tree_of a)) (sym c.in-M.is)
      (IsValue-map _ c.len-count-in-M.ensures.values);
}
