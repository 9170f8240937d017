-- The attributes put are those of the key.
use Rattle.std.proofs.Common.{◌≡◌, ◌≤◌, ◌∙◌, None, ap, sym, subst}
use Rattle.alt_changes.specs.KeyOf.{with_attribute}
use Rattle.alt_changes.proofs.KeyPut.{key_of_both, key_of_hash, key_size}
use Rattle.alt_streams.proofs.record.key_attributes.Goals as goal
use Rattle.alt_streams.proofs.record.key_attributes.Goals.{in-Some+in_ok-put_attribute-2, in_default}
use Rattle.alt_machine.specs.Lists.{key_attributes}
use Rattle.alt_value.specs.Item.{at_name}
use Rattle.alt_value.specs.Size.{item_size}

pub returns : goal.returns
returns c =
    let item = c.args.item.now in
    let d = c.args.schema.now in
    let one = c.in_ok-put_attribute.ensures.put
    ∙ ap (with_attribute d.hash.name (at_name d.hash.name item)) c.new-key.ensures.empty in
    let key : c.match-schema.key ≡ key_attributes d None item = elim c.match-schema.branch [
      | in-Some+in_ok-put_attribute-2 w ↦
          w.key-is ∙ w.in_ok-put_attribute-2.ensures.put
          ∙ ap (with_attribute w.in-Some.range.name (at_name w.in-Some.range.name item)) one
          ∙ key_of_both item c.len-count.ensures.item d w.in-Some.range w.in-Some.is
      | in_default w ↦
          w.key-is ∙ one ∙ key_of_hash item c.len-count.ensures.item d w.in_default.is
    ] in record {
      key = key;
      size = subst (λ k. item_size k ≤ item_size item) (sym key) (key_size d item);
    }
