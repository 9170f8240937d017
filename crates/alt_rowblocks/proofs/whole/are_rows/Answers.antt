-- The rows of a block's bytes are read.
use Rattle.std.proofs.Common.{◌∙◌}
use Rattle.alt_rowblocks.specs.Decoding.{NoRows}
use Rattle.alt_rowblocks.proofs.PlaceLaws.{no_block_field, block_content, some_there}
use Rattle.alt_rowblocks.proofs.whole.are_rows.Goals as goal

pub returns-in_ok-decoded-in-Some : goal.returns-in_ok-decoded-in-Some
returns-in_ok-decoded-in-Some c = λ b held sorted is.
    let f = c.in-Some.ensures.some in
    c.is_some.ensures
    ∙ some_there c.in_ok-decoded-in-Some.decoded
    (λ (none : NoRows c.in-Some.block.now). none b (held.0, sorted)
    (block_content c.args.bytes.now c.in-Some.block.now b held is f.0 f.1))
    c.in_ok-decoded-in-Some.ensures.none

pub returns-in-None : goal.returns-in-None
returns-in-None c =
    λ b held sorted is. absurd (no_block_field c.args.bytes.now b held is c.in-None.ensures.none)
