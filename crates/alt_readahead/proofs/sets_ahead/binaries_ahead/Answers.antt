-- Each turn reads one element more, up to the bracket.
use Rattle.std.proofs.Common.{◌≡◌, None, Some, arith}
use Rattle.json.specs.Json.{after_end_array}
use Rattle.alt_codec.specs.Scalars.{binary_in}
use Rattle.alt_readahead.proofs.Loops.{reads_shorter, elements_begin, elements_turn, elements_end}
use Rattle.alt_readahead.proofs.sets_ahead.binaries_ahead.Goals as goal

pub binaries-init : goal.binaries-init
binaries-init c =
    elements_begin binary_in c.args.depth c.args.reader.now c.new-binaries.result.items
    c.new-binaries.ensures.items

pub binaries-preserved : goal.binaries-preserved
binaries-preserved c =
    let l = c.binaries in
    let same = c.take_end_array.new.self in
    let going : (after_end_array l.reader ≡ None) × (same ≡ l.reader) = grind arith in
    elements_turn binary_in c.args.depth c.args.reader.now l.reader same
    c.binary_ahead.new.reader l.binaries.items c.push.new.self.items c.in_ok-binary.binary
    l.invariant going.0 going.1 (c.in_ok-binary.ensures.binary c.args.depth)
    c.in_ok-push.ensures.items

pub binaries-smaller : goal.binaries-smaller
binaries-smaller c =
    let l = c.binaries in
    let same : c.take_end_array.new.self ≡ l.reader = grind arith in
    reads_shorter binary_in c.args.depth l.reader c.take_end_array.new.self
    c.binary_ahead.new.reader c.in_ok-binary.binary same
    (c.in_ok-binary.ensures.binary c.args.depth)

pub returns : goal.returns
returns c =
    let l = c.binaries in
    let over : after_end_array l.reader ≡ Some c.take_end_array.new.self = grind arith in
    record {
      binaries = elements_end binary_in c.args.depth c.args.reader.now l.reader
          c.take_end_array.new.self l.binaries.items l.invariant over;
    }
