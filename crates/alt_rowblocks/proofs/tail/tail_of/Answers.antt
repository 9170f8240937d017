-- The pieces, one behind another.
use Rattle.alt_rowblocks.proofs.TailLaws.{four_put}
use Rattle.alt_rowblocks.proofs.tail.tail_of.Goals as goal

pub returns : goal.returns
returns c =
    four_put c.args.marks.now c.args.rows c.args.at c.new-tail.result.items c.put_u64.new.out.items
    c.put_marks.new.out.items c.put_u64-2.new.out.items c.put_u64-3.new.out.items
    c.new-tail.ensures.items c.in_ok-put_u64.ensures.ok c.in_ok-put_marks.ensures
    c.in_ok-put_u64-2.ensures.ok c.in_ok-put_u64-3.ensures.ok
