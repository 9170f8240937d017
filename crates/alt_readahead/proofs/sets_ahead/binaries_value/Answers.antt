-- A set of the members that were read, of which there is one at least.
use Rattle.std.proofs.Common.{◌<◌, length, arith}
use Rattle.alt_value.specs.Members.{text_order}
use Rattle.alt_value.specs.Tree.{BS_tree}
use Rattle.alt_codec.specs.Scalars.{binary_in}
use Rattle.alt_codec.specs.Sets.{members_in}
use Rattle.alt_readahead.proofs.Payloads.{reads_made, reads_set}
use Rattle.alt_readahead.proofs.sets_ahead.binaries_value.Goals as goal

pub returns-in-Some : goal.returns-in-Some
returns-in-Some c =
    let ks = c.in_ok-binaries.binaries.items in
    let some : 0 < length ks = grind arith in
    let deep : 0 < c.args.depth = omega (arith, c.requires) in
    let set = reads_set binary_in text_order c.args.depth c.args.reader.now c.open_array.new.reader
    c.binaries_ahead.new.reader ks c.in-Some.set deep c.in_ok-open_array.ensures.passed
    c.in_ok-binaries.ensures.binaries some c.in-Some.ensures.set in
    record {
      value = reads_made (members_in text_order binary_in) (λ x. BS_tree x) c.args.depth
          c.args.reader.now c.binaries_ahead.new.reader c.in-Some.set set;
    }
