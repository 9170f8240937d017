-- Where the body and its item are as the machine has them, so is the rest.
use Rattle.std.proofs.Common.{◌∙◌, sym, subst, List, Option, Result, Err}
use Rattle.serde_json.specs.Data.{Members}
use Rattle.serde_json.specs.View.{members_view}
use Rattle.alt_machine.specs.Body.{body_refusals}
use Rattle.alt_request.specs.Steps.{Comes, rules_of}
use Rattle.alt_said.specs.Words.{texts_of}
use Rattle.alt_request.specs.declared.body.Rules.{Rules}
use Rattle.alt_shape.specs.Refusals.{Answer}
use Rattle.alt_shape.specs.declared.rule.Broken.{Broken}
use Rattle.alt_request.proofs.Reaching.{untaken, unread}
use Rattle.alt_said.specs.TablesStands.{catalog_of}
use Rattle.alt_value.specs.Tree.{Pair}
use Rattle.alt_request.proofs.targets.given_target.Goals as goal

abbrev tests_of : Option Broken → Rules → Members → List (Option Answer)
tests_of broken rules bs = body_refusals broken (rules_of rules) bs

pub returns-in-Err : goal.returns-in-Err
returns-in-Err c = record {
  target = λ ms at_hand.
      untaken (tests_of c.args.broken c.args.rules.now (members_view c.args.body.now.entries))
      c.args.sought (texts_of c.args.texts.now) (catalog_of c.args.tables.now) ms c.in-Err.stop
      c.in-Err.ensures.tested;
}

pub returns-in-Ok-given_item : goal.returns-in-Ok-given_item
returns-in-Ok-given_item c = record {
  target = λ ms at_hand. c.target_of_item.ensures.target
      (tests_of c.args.broken c.args.rules.now (members_view c.args.body.now.entries)) ms
      at_hand.beside c.in-Ok.ensures.tested (at_hand.item ∙ c.in-Ok-given_item.ensures.read);
}

pub returns-in-Err-given_item : goal.returns-in-Err-given_item
returns-in-Err-given_item c = record {
  target = λ ms at_hand.
      unread (tests_of c.args.broken c.args.rules.now (members_view c.args.body.now.entries))
      c.args.sought (texts_of c.args.texts.now) (catalog_of c.args.tables.now) ms
      c.in-Ok.ensures.tested c.in-Err-given_item.stop
      (subst (λ (r : Result (List Pair) Answer). Comes {X = List Pair} (λ i. i) r
      (Err c.in-Err-given_item.stop)) (sym at_hand.item) c.in-Err-given_item.ensures.read);
}
