use Rattle.std.proofs.Common.{◌∙◌, length, arith}
use Rattle.alt_base.proofs.Numbers.{told_zero}
use Rattle.alt_shell.specs.States.{kept_entries, streams_by}
use Rattle.alt_shell.proofs.Ending.{hand_ends, none_is, streams-took, taken_push}
use Rattle.alt_shell.proofs.memory.MemoryShell.give.Goals as goal

pub advance-requires : goal.advance-requires
advance-requires c none =
    let t = c.args.self.now.talks in
    let bytes = c.in_ok-bytes.bytes in
    let ending = hand_ends t.talking t.talk.pieces t.standard.pieces bytes.items c.len-count.result
    (length c.args.buf.now) c.requires (c.len-count.ensures ∙ bytes.ok.0) c.in_ok-bytes.ensures.0 in
    ending.0 (told_zero c.len-count.result none)

pub returns-clause-end : goal.returns-clause-end
returns-clause-end c =
    let t = c.args.self.now.talks in
    let bytes = c.in_ok-bytes.bytes in
    hand_ends t.talking t.talk.pieces t.standard.pieces bytes.items c.len-count.result
    (length c.args.buf.now) c.requires (c.len-count.ensures ∙ bytes.ok.0) c.in_ok-bytes.ensures.0

pub invariant_of-self-2-clause-heard : goal.invariant_of-self-2-clause-heard
invariant_of-self-2-clause-heard c =
    let d = c.args.self.now in
    let bytes = c.in_ok-bytes.bytes in
    streams-took (streams_by d.talks) (streams_by c.advance.new.self) (kept_entries d.kept)
    (kept_entries c.push.new.self) c.counts-moment.result.0 d.clock.count bytes.items d.heard
    (c.advance.ensures.streams bytes.items
    (none_is bytes.items c.len-count.result (c.len-count.ensures ∙ bytes.ok.0)))
    c.in_ok-push.ensures.ok

pub invariant_of-self-2-clause-counted : goal.invariant_of-self-2-clause-counted
invariant_of-self-2-clause-counted c =
    let d = c.args.self.now in
    omega (
      arith,
      d.counted,
      c.len-count.ensures,
      c.in_ok-bytes.bytes.ok.0,
      taken_push (kept_entries d.kept) (kept_entries c.push.new.self) c.counts-moment.result.0
          d.clock.count c.in_ok-bytes.bytes.items c.in_ok-push.ensures.ok,
    )
