-- Each turn reads one element more, up to the bracket.
use Rattle.std.proofs.Common.{◌≡◌, None, Some, arith}
use Rattle.json.specs.Json.{after_end_array}
use Rattle.alt_codec.specs.Scalars.{text_in}
use Rattle.alt_readahead.proofs.Loops.{reads_shorter, elements_begin, elements_turn, elements_end}
use Rattle.alt_readahead.proofs.sets_ahead.texts_ahead.Goals as goal

pub texts-init : goal.texts-init
texts-init c =
    elements_begin text_in c.args.depth c.args.reader.now c.new-texts.result.items
    c.new-texts.ensures.items

pub texts-preserved : goal.texts-preserved
texts-preserved c =
    let l = c.texts in
    let same = c.take_end_array.new.self in
    let going : (after_end_array l.reader ≡ None) × (same ≡ l.reader) = grind arith in
    elements_turn text_in c.args.depth c.args.reader.now l.reader same
    c.text_ahead.new.reader l.texts.items c.push.new.self.items c.in_ok-text.text
    l.invariant going.0 going.1 (c.in_ok-text.ensures.text c.args.depth)
    c.in_ok-push.ensures.items

pub texts-smaller : goal.texts-smaller
texts-smaller c =
    let l = c.texts in
    let same : c.take_end_array.new.self ≡ l.reader = grind arith in
    reads_shorter text_in c.args.depth l.reader c.take_end_array.new.self
    c.text_ahead.new.reader c.in_ok-text.text same
    (c.in_ok-text.ensures.text c.args.depth)

pub returns : goal.returns
returns c =
    let l = c.texts in
    let over : after_end_array l.reader ≡ Some c.take_end_array.new.self = grind arith in
    record {
      texts = elements_end text_in c.args.depth c.args.reader.now l.reader
          c.take_end_array.new.self l.texts.items l.invariant over;
    }
