-- Member by member.
use Rattle.std.proofs.Common.{ap, ◌∙◌}
use Rattle.serde_json.specs.Data.{object}
use Rattle.alt_shape.specs.Objects.{fields_json}
use Rattle.alt_changes.specs.ChangeRows.{change_in}
use Rattle.alt_streams.proofs.Recorded.{changed_is, changed_members}
use Rattle.alt_streams.proofs.record.changed_fields.Goals as goal

pub returns : goal.returns
returns c = record {
  json = ap object (changed_members _ _ _ _ _ _ _ _ _ _ _ _ _ _ _
      (ap fields_json c.in_ok-fields.ensures.items)
      c.in_ok-put_field.ensures c.in_ok-put_field-2.ensures c.in_ok-put_image.ensures
      c.in_ok-put_image-2.ensures c.in_ok-put_field-3.ensures c.in_ok-put_field-4.ensures
      c.in_ok-put_field-5.ensures)
      ∙ changed_is c.args.schema.now c.args.shows (change_in c.args.change) _ _ _ _ _ _
      c.in_ok-key.ensures.key c.in_ok-number.ensures.digits c.view_word.ensures.word
      (c.size_with-size.ensures.size c.args.schema.now c.in_ok-key.ensures.key)
      c.shows_new.ensures c.shows_old.ensures;
}
