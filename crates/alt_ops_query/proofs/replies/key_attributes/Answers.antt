-- The attributes put are those of the key.
use Rattle.std.proofs.Common.{ap, sym, ◌∙◌, option_map}
use Rattle.alt_machine.specs.Lists.{key_attributes}
use Rattle.alt_ops_query.specs.private.Replied.{with_key}
use Rattle.alt_ops_query.proofs.Kept.{key-index, key-table}
use Rattle.alt_ops_query.proofs.replies.key_attributes.Goals as goal
use Rattle.alt_ops_query.proofs.replies.key_attributes.Goals.{in-Some+in_ok-put_key-2, in_default}

pub returns : goal.returns
returns c =
    let item = c.args.item.now in
    let d = c.args.schema.now in
    let one = c.in_ok-put_key.ensures.put
    ∙ ap (with_key d.hash d.range item) c.new-key.ensures.empty in
    record {
      key = elim c.match-index.branch [
        | in-Some+in_ok-put_key-2 w ↦
            w.key-is ∙ w.in_ok-put_key-2.ensures.put
            ∙ ap (with_key w.in-Some.index.now.hash w.in-Some.index.now.range item) one
            ∙ key-index item c.len-count.ensures.item d w.in-Some.index.now
            ∙ ap (λ o. key_attributes d (option_map (λ i. i.now) o) item) (sym w.in-Some.is)
        | in_default w ↦ w.key-is ∙ one ∙ key-table item c.len-count.ensures.item d
            ∙ ap (λ o. key_attributes d (option_map (λ i. i.now) o) item) (sym w.in_default.is)
      ];
    }
