-- A set of the members that were read, of which there is one at least.
use Rattle.std.proofs.Common.{◌<◌, length, arith}
use Rattle.alt_value.specs.Members.{text_order}
use Rattle.alt_value.specs.Tree.{SS_tree}
use Rattle.alt_codec.specs.Scalars.{text_in}
use Rattle.alt_codec.specs.Sets.{members_in}
use Rattle.alt_readahead.proofs.Payloads.{reads_made, reads_set}
use Rattle.alt_readahead.proofs.sets_ahead.texts_value.Goals as goal

pub returns-in-Some : goal.returns-in-Some
returns-in-Some c =
    let ks = c.in_ok-texts.texts.items in
    let some : 0 < length ks = grind arith in
    let deep : 0 < c.args.depth = omega (arith, c.requires) in
    let set = reads_set text_in text_order c.args.depth c.args.reader.now c.open_array.new.reader
    c.texts_ahead.new.reader ks c.in-Some.set deep c.in_ok-open_array.ensures.passed
    c.in_ok-texts.ensures.texts some c.in-Some.ensures.set in
    record {
      value = reads_made (members_in text_order text_in) (λ x. SS_tree x) c.args.depth
          c.args.reader.now c.texts_ahead.new.reader c.in-Some.set set;
    }
