-- At the end all are made.
use Rattle.std.proofs.Common.{sym, ◌∙◌}
use Rattle.alt_codec.specs.Writing.{json_of_pairs}
use Rattle.alt_ops_batch.proofs.Tables.{items_each}
use Rattle.alt_schema.proofs.Shown.{shown_whole}
use Rattle.alt_ops_batch.proofs.replies.items_tree.Goals as goal

pub returns : goal.returns
returns c =
    shown_whole json_of_pairs c.args.items.now c.loop-item.item-index c.loop-item.values.items
    c.loop-item-test.false c.loop-item.invariant
    ∙ sym (items_each c.args.items.now)
