-- The members stand one behind another, in the order of their names.
use Rattle.std.proofs.Common.{ap, ◌∙◌, option_map}
use Rattle.std.specs.Prelude.{codes}
use Rattle.serde_json.specs.Data.{member, no_members, number, unsigned}
use Rattle.serde_json.specs.View.{members_view}
use Rattle.alt_ops_query.specs.private.Replied.{behind, machine_page}
use Rattle.alt_ops_query.proofs.Shown.{page_members}
use Rattle.alt_shape.specs.Body.{members_json}
use Rattle.alt_ops_query.proofs.replies.page_reply.Goals as goal

pub returns : goal.returns
returns c = record {
  reply = page_members c.args.schema.now (option_map (λ i. i.now) c.args.index)
      (members_view c.args.body.now.entries) (machine_page c.args.page) c.args.page.last c.from.result
      c.from-2.result c.into_vec.result.items (members_json c.put.new.members.items)
      (members_json c.put_items.new.members.items) (members_json c.put_last.new.members.items)
      (members_json c.put-2.new.members.items) c.from.ensures c.from-2.ensures
      c.into_vec.ensures.members
      (c.in_ok-put.ensures.put ∙ ap (λ vs. behind (members_json vs)
      (member (codes "Count") (number (unsigned c.from.result)) no_members))
      c.in_ok-members.ensures.items)
      c.in_ok-put_items.ensures.put c.in_ok-put_last.ensures.put c.in_ok-put-2.ensures.put;
}
