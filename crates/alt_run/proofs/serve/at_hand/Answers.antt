use Rattle.std.proofs.Common.{◌∙◌, ℕ, List, [], sym, subst}
use Rattle.alt_lines.specs.Reader.{unread}
use Rattle.alt_lines.specs.Unread.{TellsLine}
use Rattle.alt_tables.specs.Stands.{bounds_of}
use Rattle.alt_talks.specs.Runs.{Stretch}
use Rattle.alt_run.specs.private.Rungs.{BreaksAtHand, asked_now}
use Rattle.alt_run.proofs.Hands.{at_some, at_none, hands_none, hands_line, hands_break, hands_memory, hands_all, hands_brings, hands_files, hands_out}
use Rattle.alt_talks.proofs.Passing.{passes_none, passes_then, passes_back}
use Rattle.alt_talks.specs.declared.fault.RunFault.{RunFault}
use Rattle.alt_run.proofs.serve.at_hand.Goals as goal

pub lines-init : goal.lines-init
lines-init g c = (hands_none _ _ _ _, passes_none _, c.requires.known)

pub lines-preserved : goal.lines-preserved
lines-preserved g c =
    let state = g.S.Disk.state in
    let found = at_some _ _ _ c.in-Ok-Some.field-0-is c.in-Ok-Some.ensures.some in
    let told = subst (λ (text : List ℕ). TellsLine found.0 c.in-Ok-Some.cut [] text)
    (sym c.deref.ensures.value) found.1 in (
      hands_line c.args.limits.flush (state c.args.shell.now) c.args.tables.now (state c.lines.shell) c.lines.tables
          (unread c.args.lines.now) (unread c.lines.lines)
          (unread c.next_line.new.lines) found.0 c.lines.invariant.0 found.2
          (state c.answer_line.new.shell) c.answer_line.new.tables
          (c.in-Ok.ensures.served found.0 told) (c.in-Ok.ensures.files found.0 told)
          (c.in-Ok.ensures.brings found.0 told),
      passes_then _ _ _ c.lines.invariant.1 c.in-Ok.ensures.passes,
      c.in-Ok.ensures.known,
    )

pub returns-in-Err-answer_line-clause-served : goal.returns-in-Err-answer_line-clause-served
returns-in-Err-answer_line-clause-served g c = λ s stands.
    let state = g.S.Disk.state in
    let found = at_some _ _ _ c.in-Ok-Some.field-0-is c.in-Ok-Some.ensures.some in
    let told = subst (λ (text : List ℕ). TellsLine found.0 c.in-Ok-Some.cut [] text)
    (sym c.deref.ensures.value) found.1 in
    hands_break c.args.limits.flush (state c.args.shell.now) c.args.tables.now (state c.lines.shell) c.lines.tables
    (unread c.args.lines.now) (unread c.lines.lines)
    (unread c.next_line.new.lines) found.0 c.lines.invariant.0 found.2
    (state c.answer_line.new.shell) c.in-Err-answer_line.fault s stands
    (c.in-Err-answer_line.ensures.served found.0 told)

pub returns-in-Ok-None-clause-served : goal.returns-in-Ok-None-clause-served
returns-in-Ok-None-clause-served g c = λ s stands.
    let state = g.S.Disk.state in
    hands_all c.args.limits.flush (state c.args.shell.now) c.args.tables.now (state c.lines.shell) c.lines.tables
    (unread c.args.lines.now) (unread c.lines.lines) c.lines.invariant.0
    (unread c.next_line.new.lines) (at_none _ _ c.in-Ok-None.field-0-is
    c.in-Ok-None.ensures.none) s stands

pub returns-in-Ok-None-clause-files : goal.returns-in-Ok-None-clause-files
returns-in-Ok-None-clause-files g c = λ s stands.
    let state = g.S.Disk.state in
    hands_files c.args.limits.flush (state c.args.shell.now) c.args.tables.now (state c.lines.shell) c.lines.tables
    (unread c.args.lines.now) (unread c.lines.lines) c.lines.invariant.0
    (unread c.next_line.new.lines) (at_none _ _ c.in-Ok-None.field-0-is
    c.in-Ok-None.ensures.none) s stands

pub returns-in-Ok-None-clause-brings : goal.returns-in-Ok-None-clause-brings
returns-in-Ok-None-clause-brings g c =
    let state = g.S.Disk.state in
    hands_brings c.args.limits.flush (state c.args.shell.now) c.args.tables.now (state c.lines.shell) c.lines.tables
    (unread c.args.lines.now) (unread c.lines.lines) c.lines.invariant.0
    (unread c.next_line.new.lines) (at_none _ _ c.in-Ok-None.field-0-is
    c.in-Ok-None.ensures.none)

pub returns-in-Ok-None-clause-lines : goal.returns-in-Ok-None-clause-lines
returns-in-Ok-None-clause-lines g c =
    let state = g.S.Disk.state in
    hands_out c.args.limits.flush (state c.args.shell.now) c.args.tables.now (state c.lines.shell) c.lines.tables
    (unread c.args.lines.now) (unread c.lines.lines) c.lines.invariant.0
    (unread c.next_line.new.lines) (at_none _ _ c.in-Ok-None.field-0-is
    c.in-Ok-None.ensures.none)

pub returns-in-Err-clause-served : goal.returns-in-Err-clause-served
returns-in-Err-clause-served g c = λ s stands.
    let state = g.S.Disk.state in
    subst (λ (fault : RunFault). Stretch (state c.args.shell.now) (state c.lines.shell)
    (BreaksAtHand fault (bounds_of c.args.tables.now).file s (asked_now (unread c.args.lines.now))))
    (sym c.in-Err.ensures.err)
    (hands_memory c.args.limits.flush (state c.args.shell.now) c.args.tables.now (state c.lines.shell) c.lines.tables
    (unread c.args.lines.now) (unread c.lines.lines) c.lines.invariant.0
    (bounds_of c.args.tables.now).file s stands)

pub answer_line-requires : goal.answer_line-requires
answer_line-requires g c =
    let state = g.S.Disk.state in
    record {
      ready = λ trusted.
          let first = c.requires.ready (passes_back (state c.args.shell.now) (state c.lines.shell)
          c.lines.invariant.1 trusted) in
          let r = c.lines.invariant.0.serves first.0 first.1 in
          (r.to, r.stands);
      known = c.lines.invariant.2;
      quiet = c.lines.invariant.1.talking ∙ c.requires.quiet;
    }
