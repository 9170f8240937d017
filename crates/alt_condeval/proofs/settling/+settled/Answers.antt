-- IN with a condition for each operand.
use Rattle.std.proofs.Common.{sym, subst}
use Rattle.std.specs.List.{list_any}
use Rattle.std.proofs.lemmas.Result.{IfOk-weaker}
use Rattle.alt_expr.specs.declared.cond.Operand.{Operand}
use Rattle.alt_expr.specs.Holds.{denoted, equal}
use Rattle.alt_expr.specs.Located.{View}
use Rattle.alt_condeval.specs.Settled.{HoldsAs, HoldsAsTold}
use Rattle.alt_condeval.proofs.Alike.{among-as}
use Rattle.alt_condeval.proofs.settling.+settled.Goals as goal

pub settled-returns-in-Among : goal.settled-returns-in-Among
settled-returns-in-Among t c = record {
  same = IfOk-weaker c.among.result
      (HoldsAsTold (λ (item : View). list_any (λ (y : Operand). equal (denoted item c.in-Among.a)
      (denoted item y)) c.in-Among.operands))
      (HoldsAs c.args.cond.now)
      (λ d tells. subst (λ o. HoldsAs o d) (sym c.in-Among.is)
      (among-as c.in-Among.a c.in-Among.operands d tells))
      c.among.ensures;
}
