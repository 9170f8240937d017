-- The attributes put are those of the key.
use Rattle.std.proofs.Common.{◌∙◌, ap}
use Rattle.alt_changes.specs.KeyOf.{with_attribute}
use Rattle.alt_changes.proofs.KeyPut.{key_of_both, key_of_hash}
use Rattle.alt_rowchanges.proofs.build.key_attributes.Goals as goal
use Rattle.alt_rowchanges.proofs.build.key_attributes.Goals.{in-Some+in_ok-put_attribute-2, in_default}
use Rattle.alt_value.specs.Item.{at_name}

pub returns : goal.returns
returns c =
    let item = c.args.item.now in
    let d = c.args.schema.now in
    let one = c.in_ok-put_attribute.ensures.put
    ∙ ap (with_attribute d.hash.name (at_name d.hash.name item)) c.new-key.ensures.empty in
    record {
      key = elim c.match-schema.branch [
        | in-Some+in_ok-put_attribute-2 w ↦
            w.key-is ∙ w.in_ok-put_attribute-2.ensures.put
            ∙ ap (with_attribute w.in-Some.range.name (at_name w.in-Some.range.name item)) one
            ∙ key_of_both item c.len-count.ensures.item d w.in-Some.range w.in-Some.is
        | in_default w ↦
            w.key-is ∙ one ∙ key_of_hash item c.len-count.ensures.item d w.in_default.is
      ];
    }
