-- One pair more is put, and one fewer is left.
use Rattle.std.proofs.Common.{◌≡◌, sym, ap, subst, ◌∙◌, ◌∷◌, length, map, arith}
use Rattle.std.specs.List.{All}
use Rattle.std.specs.Vec.Iter.{into_iter_items}
use Rattle.alt_value.specs.Item.{with_pairs}
use Rattle.alt_value.specs.Named.{IsNamed}
use Rattle.alt_value.specs.Stands.{pair_of}
use Rattle.alt_value.proofs.InTurn.{named-behind}
use Rattle.alt_value.proofs.building.item_of_pairs.Goals as goal

pub loop-pair-preserved : goal.loop-pair-preserved
loop-pair-preserved c =
    let at = c.loop-pair in
    let x = c.in-Some.pair in
    let rest = into_iter_items c.next.new.self in
    let steps : into_iter_items at.pair-iterator ≡ x ∷ rest = c.in-Some.ensures.steps.0 in
    record {
      left =
          ap (with_pairs (map pair_of rest)) c.in_ok-put_owned.ensures.ok
          ∙ ap (λ es. with_pairs (map pair_of es) at.item) (sym steps) ∙ at.invariant.left;
      named = named-behind x rest (subst (All IsNamed) steps at.invariant.named);
      count =
          let was = at.invariant.count in
          let gone = c.in-Some.ensures.steps.1 in
          let short = ap length steps in
          omega arith;
    }
