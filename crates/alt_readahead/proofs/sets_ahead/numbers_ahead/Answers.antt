-- Each turn reads one element more, up to the bracket.
use Rattle.std.proofs.Common.{◌≡◌, None, Some, arith}
use Rattle.json.specs.Json.{after_end_array}
use Rattle.alt_codec.specs.Scalars.{number_in}
use Rattle.alt_readahead.proofs.Loops.{reads_shorter, elements_begin, elements_turn, elements_end}
use Rattle.alt_readahead.proofs.sets_ahead.numbers_ahead.Goals as goal

pub numbers-init : goal.numbers-init
numbers-init c =
    elements_begin number_in c.args.depth c.args.reader.now c.new-numbers.result.items
    c.new-numbers.ensures.items

pub numbers-preserved : goal.numbers-preserved
numbers-preserved c =
    let l = c.numbers in
    let same = c.take_end_array.new.self in
    let going : (after_end_array l.reader ≡ None) × (same ≡ l.reader) = grind arith in
    elements_turn number_in c.args.depth c.args.reader.now l.reader same
    c.number_ahead.new.reader l.numbers.items c.push.new.self.items c.in_ok-number.number
    l.invariant going.0 going.1 (c.in_ok-number.ensures.number c.args.depth)
    c.in_ok-push.ensures.items

pub numbers-smaller : goal.numbers-smaller
numbers-smaller c =
    let l = c.numbers in
    let same : c.take_end_array.new.self ≡ l.reader = grind arith in
    reads_shorter number_in c.args.depth l.reader c.take_end_array.new.self
    c.number_ahead.new.reader c.in_ok-number.number same
    (c.in_ok-number.ensures.number c.args.depth)

pub returns : goal.returns
returns c =
    let l = c.numbers in
    let over : after_end_array l.reader ≡ Some c.take_end_array.new.self = grind arith in
    record {
      numbers = elements_end number_in c.args.depth c.args.reader.now l.reader
          c.take_end_array.new.self l.numbers.items l.invariant over;
    }
