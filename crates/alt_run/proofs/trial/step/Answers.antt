use Rattle.std.proofs.Common.{◌∷◌, ◌∙◌, [], sym, subst}
use Rattle.std.specs.Prelude.{MatchResult}
use Rattle.alt_lines.specs.Trial.{generator, next_line}
use Rattle.alt_tables.specs.Stands.{bounds_of}
use Rattle.alt_run.specs.private.Tallies.{Counted, CountedSome}
use Rattle.alt_run.specs.Turns.{AskedLine, asked_by}
use Rattle.alt_talks.specs.declared.fault.RunFault.{RunFault}
use Rattle.alt_run.proofs.TrialRequests.{asked_parts, none_begun}
use Rattle.alt_run.proofs.trial.step.Goals as goal

pub returns-in-Ok-clause-counted : goal.returns-in-Ok-clause-counted
returns-in-Ok-clause-counted g c = λ s stands.
    let state = g.D.Disk.state in
    let a = state c.args.disk.now in
    let b = state c.ask_line.new.disk in
    subst (λ (l : AskedLine). MatchResult c.ask_line.result
    (λ _. Counted s (l ∷ []) c.args.tally.now c.ask_line.new.tally a b c.ask_line.new.tables)
    (λ f. CountedSome f (bounds_of c.args.tables.now).file s (l ∷ []) a b))
    (asked_parts (generator c.args.trial.now) c.deref.result.now
    (c.deref.ensures.value ∙ c.in-Ok.ensures.line))
    (c.ask_line.ensures.counted s stands)

pub returns-in-Err-clause-counted : goal.returns-in-Err-clause-counted
returns-in-Err-clause-counted g c = λ s stands.
    let a = g.D.Disk.state c.args.disk.now in
    subst (λ (f : RunFault). CountedSome f (bounds_of c.args.tables.now).file s
    (asked_by (next_line (generator c.args.trial.now)) ∷ []) a a)
    (sym c.in-Err.ensures.err)
    (none_begun a c.args.tables.now (bounds_of c.args.tables.now).file s (asked_by (next_line (generator c.args.trial.now)) ∷ []) stands)
