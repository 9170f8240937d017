-- A condition for each operand, or the copy.
use Rattle.std.proofs.Common.{ap, ◌∙◌}
use Rattle.std.specs.List.{list_any}
use Rattle.alt_expr.specs.declared.cond.Operand.{Operand}
use Rattle.alt_expr.specs.Holds.{denoted, equal}
use Rattle.alt_expr.specs.Located.{View}
use Rattle.alt_expr.proofs.HoldsLaws.{holds-Among}
use Rattle.alt_condeval.proofs.Alike.{any-tells}
use Rattle.alt_condeval.proofs.settling.among.Goals as goal

pub returns-in-Ok : goal.returns-in-Ok
returns-in-Ok c item =
    any-tells (λ (v : View) (y : Operand). equal (denoted v c.args.a.now) (denoted v y))
    c.as_slice-list.result.now c.in-Ok.any c.in-Ok.ensures item
    ∙ ap (list_any (λ (y : Operand). equal (denoted item c.args.a.now) (denoted item y)))
    c.as_slice-list.ensures.members

pub returns : goal.returns
returns c item =
    holds-Among item c.in_ok-a.a c.in_ok-operands.operands
    ∙ ap (λ x. list_any (λ (y : Operand). equal (denoted item x) (denoted item y))
    c.in_ok-operands.operands) c.in_ok-a.ensures
    ∙ ap (list_any (λ (y : Operand). equal (denoted item c.args.a.now) (denoted item y)))
    (c.in_ok-operands.ensures ∙ c.as_slice-list.ensures.members)
