use Rattle.std.proofs.Common.{ap, ◌∙◌}
use Rattle.alt_shell.specs.States.{kept_entries}
use Rattle.alt_shell.specs.Streams.{Streams}
use Rattle.alt_shell.specs.Waiting.{pieces_of}
use Rattle.alt_shell.proofs.Over.{is_over, none_at_hand}
use Rattle.alt_shell.proofs.memory_streams.MemoryShellShell.take.Goals as goal

pub returns-in-Some-clause-over : goal.returns-in-Some-clause-over
returns-in-Some-clause-over c quiet has_ended =
    let d = c.args.self.now in
    let t = d.talks in
    c.in-Some.ensures.end.1
    (none_at_hand t.talking (pieces_of t.talk.pieces) (pieces_of t.standard.pieces) quiet
    (t.standard.no_more (ap (λ (s : Streams). s.standard.over) d.heard
    ∙ is_over (kept_entries d.kept) has_ended)))
