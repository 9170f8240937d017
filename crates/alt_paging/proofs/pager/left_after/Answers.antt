-- An item has bytes, so less is left.
use Rattle.std.proofs.Common.{arith}
use Rattle.alt_paging.proofs.Sizes.{item_bytes, within_some}
use Rattle.alt_value.specs.Size.{item_size}
use Rattle.alt_paging.proofs.pager.left_after.Goals as goal

pub returns-in-Some-clause-less : goal.returns-in-Some-clause-less
returns-in-Some-clause-less c above some =
    let size = within_some c.args.left (item_size c.args.item.now) c.in-Some.size
    c.in-Some.ensures.size in
    let bytes = item_bytes c.args.item.now c.len-count.ensures.item some in
    omega (arith, above, size, bytes)
