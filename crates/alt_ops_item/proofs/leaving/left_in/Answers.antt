-- What refuses the outline refuses the item, and an outline that is whole is the item.
use Rattle.std.proofs.Common.{List, Option, sym, subst}
use Rattle.alt_ops_item.specs.private.Updates.{left_or_refusal}
use Rattle.alt_ops_item.proofs.Left.{left-unmade, left-memory}
use Rattle.alt_ops_item.proofs.Outlined.{outline-refused, outline-whole}
use Rattle.alt_request.specs.Steps.{Comes}
use Rattle.alt_request.proofs.Reaching.{err_is}
use Rattle.alt_value.specs.Tree.{Pair}
use Rattle.alt_ops_item.proofs.leaving.left_in.Goals as goal

pub returns-in_err-outline : goal.returns-in_err-outline
returns-in_err-outline c = record {
  left = subst (λ r. Comes {X = Option (List Pair)} (λ o. o)
      (left_or_refusal c.args.schema.now c.args.said.now c.args.key c.args.old.now) r)
      (sym (err_is c.from_residual.result c.in_err-outline.field-0.0 c.from_residual.ensures))
      (left-unmade c.args.schema.now c.args.said.now c.args.key c.args.old.now
      c.in_err-outline.field-0.0 c.in_err-outline.ensures.refused);
}

pub returns-in_err-new : goal.returns-in_err-new
returns-in_err-new c = record {
  left = subst (λ r. Comes {X = Option (List Pair)} (λ o. o)
      (left_or_refusal c.args.schema.now c.args.said.now c.args.key c.args.old.now) r)
      (sym (err_is c.from_residual-in_err-new.result c.in_err-new.field-0.0
      c.from_residual-in_err-new.ensures))
      (left-memory c.args.schema.now c.args.said.now c.args.key c.args.old.now
      c.in_err-new.field-0.0 c.in_err-new.ensures.cause);
}

pub returns-then-whole : goal.returns-then-whole
returns-then-whole c = record {
  left = outline-whole c.args.schema.now c.args.said.now c.args.key c.args.old.now
      c.in_ok-outline.outline c.in_ok-outline.whole c.in_ok-outline.ensures.outline
      c.in_ok-new.new c.in_ok-new.ensures.left c.if-whole.true c.in-Ok.ensures.tested;
}

pub returns : goal.returns
returns c = record {
  left = outline-refused c.args.schema.now c.args.said.now c.args.key c.args.old.now
      c.in_ok-outline.outline c.in_ok-outline.whole c.in_ok-outline.ensures.outline
      c.in_ok-new.new c.in_ok-new.ensures.left c.in-Err.stop c.in-Err.ensures.tested;
}
