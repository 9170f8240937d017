-- Member by member.
use Rattle.std.proofs.Common.{ap, ◌∙◌}
use Rattle.serde_json.specs.Data.{object}
use Rattle.alt_shape.specs.Objects.{entries_json}
use Rattle.alt_changes.specs.ChangeRows.{change_in}
use Rattle.alt_streams.proofs.Recorded.{record_is, record_members}
use Rattle.alt_streams.proofs.record.record_shown.Goals as goal

pub returns : goal.returns
returns c = record {
  json = ap object (record_members _ _ _ _ _ _ _ _ _ _ _ _
      (ap entries_json c.in_ok-entries.ensures.items)
      c.in_ok-put_leaf.ensures c.in_ok-put.ensures c.in_ok-put_leaf-2.ensures
      c.in_ok-put_leaf-3.ensures c.in_ok-put_leaf-4.ensures c.in_ok-put_leaf-5.ensures
      c.in_ok-put_identity.ensures)
      ∙ record_is c.args.schema.now c.args.shows (change_in c.args.change) _ _ _
      c.in_ok-changed.ensures.json c.in_ok-number.ensures.digits c.event_name-name.ensures;
}
