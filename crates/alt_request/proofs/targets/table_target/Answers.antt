-- The table, behind the tests of the body.
use Rattle.serde_json.specs.View.{members_view}
use Rattle.alt_machine.specs.Body.{body_refusals}
use Rattle.alt_request.specs.Steps.{rules_of}
use Rattle.alt_request.proofs.Reaching.{unnamed}
use Rattle.alt_said.specs.TablesStands.{catalog_of}
use Rattle.alt_request.proofs.targets.table_target.Goals as goal

pub returns : goal.returns
returns c = record {
  target = unnamed (body_refusals c.args.broken (rules_of c.args.rules.now)
      (members_view c.args.body.now.entries)) (catalog_of c.args.tables.now)
      (members_view c.args.body.now.entries) c.in_ok-body_refusal.ensures.tested c.table_of.result
      c.table_of.ensures.found;
}
