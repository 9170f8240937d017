-- Each turn reads one write more, up to the bracket.
use Rattle.std.proofs.Common.{◌≡◌, subst, ◌<◌, None, Some, length, arith}
use Rattle.json.specs.Json.{after_end_array}
use Rattle.alt_readahead.proofs.Batches.{writes_begin, writes_turn, writes_end}
use Rattle.alt_readahead.proofs.Payloads.{value_shorter}
use Rattle.alt_readahead.proofs.batch.writes_ahead.Goals as goal

pub writes-init : goal.writes-init
writes-init c =
    writes_begin c.args.depth c.args.reader.now c.new-writes.result.items c.new-writes.ensures.items

pub writes-preserved : goal.writes-preserved
writes-preserved c =
    let l = c.writes in
    let same = c.take_end_array.new.self in
    let going : (after_end_array l.reader ≡ None) × (same ≡ l.reader) = grind arith in
    let r = c.in_ok-write.ensures.write in
    writes_turn c.args.depth c.args.reader.now l.reader same c.write_ahead.new.reader l.writes.items
    c.push.new.self.items c.in_ok-write.write r.0 l.invariant going.0 going.1 r.1 r.2
    c.in_ok-push.ensures.items

pub writes-smaller : goal.writes-smaller
writes-smaller c =
    let l = c.writes in
    let same : c.take_end_array.new.self ≡ l.reader = grind arith in
    let r = c.in_ok-write.ensures.write in
    subst (λ ts. length c.write_ahead.new.reader < length ts) same
    (value_shorter c.args.depth c.take_end_array.new.self c.write_ahead.new.reader r.0 r.1)

pub returns : goal.returns
returns c =
    let l = c.writes in
    let over : after_end_array l.reader ≡ Some c.take_end_array.new.self = grind arith in
    record {
      writes = writes_end c.args.depth c.args.reader.now l.reader c.take_end_array.new.self
          l.writes.items l.invariant over;
    }
