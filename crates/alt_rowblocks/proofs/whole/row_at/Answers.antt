-- What the rows of a block's bytes have at a key is what the block has there.
use Rattle.alt_rowblocks.specs.Decoding.{NoRows}
use Rattle.alt_rowblocks.proofs.PlaceLaws.{no_block_field, block_content}
use Rattle.alt_rowblocks.proofs.PickLaws.{none_missing}
use Rattle.alt_rowblocks.proofs.TakenLaws.{found_whole}
use Rattle.alt_rowblocks.proofs.whole.row_at.Goals as goal

pub returns-in-Some-clause-some : goal.returns-in-Some-clause-some
returns-in-Some-clause-some c = λ b held sorted is.
    let f = c.in-Some.ensures.some in
    c.pick.ensures.row b (held.0, sorted)
    (block_content c.args.bytes.now c.in-Some.block.now b held is f.0 f.1)

pub returns-in-Some-clause-none : goal.returns-in-Some-clause-none
returns-in-Some-clause-none c = λ b held sorted is.
    let f = c.in-Some.ensures.some in
    none_missing c.pick.result
    (λ (none : NoRows c.in-Some.block.now). none b (held.0, sorted)
    (block_content c.args.bytes.now c.in-Some.block.now b held is f.0 f.1))
    c.pick.ensures.none

pub returns-in-None-clause-none : goal.returns-in-None-clause-none
returns-in-None-clause-none c =
    λ b held sorted is. no_block_field c.args.bytes.now b held is c.in-None.ensures.none

pub returns-in-Some-clause-found : goal.returns-in-Some-clause-found
returns-in-Some-clause-found c =
    found_whole c.args.bytes.now c.in-Some.block.now c.args.key.now c.in-Some.ensures.some.1
    c.pick.result c.pick.ensures.found
