-- Where counts alone are wanted nothing is put.
use Rattle.std.proofs.Common.{sym}
use Rattle.serde_json.specs.View.{members_view}
use Rattle.alt_shape.specs.Body.{members_json}
use Rattle.alt_ops_query.proofs.Shown.{none_behind}
use Rattle.alt_ops_query.proofs.replies.put_items.Goals as goal

pub returns-then-selects : goal.returns-then-selects
returns-then-selects c = record {
  put = none_behind (members_view c.args.body.now.entries) (members_json c.args.members.now.items)
      c.args.items.items (sym c.if-selects.ensures);
}
