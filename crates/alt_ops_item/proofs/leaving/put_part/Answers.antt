-- An attribute of an item has a name.
use Rattle.std.proofs.Common.{sym}
use Rattle.alt_value.specs.Stands.{tree_of}
use Rattle.alt_ops_item.proofs.Left.{part_named}
use Rattle.alt_ops_item.proofs.leaving.put_part.Goals as goal

pub put-requires : goal.put-requires
put-requires c = part_named c.args.key.now c.args.i
    (c.in-Some.name.now, tree_of c.in-Some.value.now) c.len-count.ensures.item
    (sym c.in-Some.ensures.pair)
