use Rattle.std.proofs.Common.{deque_len, refl}
use Rattle.alt_shell.specs.Waiting.{pieces_of}
use Rattle.alt_shell.proofs.Sending.{sent_ok, sent_err}
use Rattle.alt_shell.proofs.talks.Talks.send.Goals as goal

pub returns-in-Some-clause-ok : goal.returns-in-Some-clause-ok
returns-in-Some-clause-ok c =
    let d = c.args.self.now in
    sent_ok c.add.result d.coming.items c.in-Some.last.now c.add.new.self c.args.piece.now d.talking
    d.talk.over (pieces_of d.talk.pieces) (deque_len d.coming) d.coming.ok.0
    (c.in-Some.ensures.variant.0 refl) c.in-Some.ensures.value c.add.ensures.ok

pub returns-in-Some-clause-err : goal.returns-in-Some-clause-err
returns-in-Some-clause-err c =
    let d = c.args.self.now in
    sent_err c.add.result d.coming.items c.in-Some.last.now c.add.new.self
    (pieces_of d.talk.pieces) (deque_len d.coming) d.coming.ok.0 (c.in-Some.ensures.variant.0 refl)
    c.in-Some.ensures.value c.add.ensures.err
