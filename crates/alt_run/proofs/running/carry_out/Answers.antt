use Rattle.std.proofs.Common.{OnOk, sym, subst}
use Rattle.alt_tables.specs.HandDeclaredLimits.{Limits}
use Rattle.alt_talks.specs.Works.{HasFewEntries}
use Rattle.alt_run.specs.Behind.{AfterJob, ComesWithin, SaysSummary}
use Rattle.std.specs.Prelude.{MatchResult}
use Rattle.alt_run.specs.Endings.{Done, BrokenFrom}
use Rattle.alt_run.specs.Words.{IsServable}
use Rattle.alt_run.specs.declared.words.Job.{Job}
use Rattle.alt_run.proofs.Bringing.{both_ok}
use Rattle.alt_run.proofs.Opening.{from_broken}
use Rattle.alt_tables.specs.Stands.{bounds_of}
use Rattle.alt_run.proofs.running.carry_out.Goals as goal

pub returns-in-Replay-clause-done : goal.returns-in-Replay-clause-done
returns-in-Replay-clause-done g c = λ files given s stands.
    let state = g.S.Disk.state in
    let a = state c.args.shell.now in
    let d = state c.replay.new.shell in
    let next = (bounds_of c.args.tables.now).file in
    from_broken files next c.args.job s a d given c.replay.result
    (subst (λ (j : Job). MatchResult c.replay.result (λ _. Done j s a d)
    (λ f. BrokenFrom next f j s a d)) (sym c.in-Replay.is) (c.replay.ensures.answered s stands))

pub returns-in-Serve-clause-done : goal.returns-in-Serve-clause-done
returns-in-Serve-clause-done g c = λ files given s stands.
    let state = g.S.Disk.state in
    let a = state c.args.shell.now in
    let d = state c.serve.new.shell in
    let next = (bounds_of c.args.tables.now).file in
    from_broken files next c.args.job s a d given c.serve.result
    (subst (λ (j : Job). MatchResult c.serve.result (λ _. Done j s a d)
    (λ f. BrokenFrom next f j s a d)) (sym c.in-Serve.is) (c.serve.ensures.served s stands))

pub returns-in-Trial-clause-done : goal.returns-in-Trial-clause-done
returns-in-Trial-clause-done g c = λ files given s stands.
    let state = g.S.Disk.state in
    let a = state c.args.shell.now in
    let d = state c.carry_out_trial.new.shell in
    let next = (bounds_of c.args.tables.now).file in
    from_broken files next c.args.job s a d given c.carry_out_trial.result
    (subst (λ (j : Job). MatchResult c.carry_out_trial.result (λ _. Done j s a d)
    (λ f. BrokenFrom next f j s a d)) (sym c.in-Trial.is) (c.carry_out_trial.ensures.tried s stands))

pub serve-requires-clause-some : goal.serve-requires-clause-some
serve-requires-clause-some g c = subst IsServable c.in-Serve.is c.requires.some

pub returns-in-Trial-clause-after : goal.returns-in-Trial-clause-after
returns-in-Trial-clause-after g c =
    let state = g.S.Disk.state in
    let a = state c.args.shell.now in
    let d = state c.carry_out_trial.new.shell in
    subst (λ (j : Job). OnOk c.carry_out_trial.result (AfterJob j c.args.limits.flush a d))
    (sym c.in-Trial.is)
    (both_ok (HasFewEntries c.args.limits.flush d) (SaysSummary c.in-Trial.count a d) c.carry_out_trial.result
    (subst (λ (limits : Limits). OnOk c.carry_out_trial.result (HasFewEntries limits.flush d))
    c.requires.known
    (c.carry_out_trial.ensures.few (subst IsServable c.in-Trial.is c.requires.some)))
    c.carry_out_trial.ensures.said)

pub returns-in-Serve-clause-after : goal.returns-in-Serve-clause-after
returns-in-Serve-clause-after g c =
    let state = g.S.Disk.state in
    let a = state c.args.shell.now in
    let d = state c.serve.new.shell in
    subst (λ (j : Job). OnOk c.serve.result (AfterJob j c.args.limits.flush a d))
    (sym c.in-Serve.is) c.serve.ensures.came

pub returns-in-Replay-clause-most : goal.returns-in-Replay-clause-most
returns-in-Replay-clause-most g c =
    let state = g.S.Disk.state in
    subst (λ (j : Job). ComesWithin j (state c.args.shell.now) (state c.replay.new.shell))
    (sym c.in-Replay.is) tt

pub returns-in-Serve-clause-most : goal.returns-in-Serve-clause-most
returns-in-Serve-clause-most g c =
    let state = g.S.Disk.state in
    subst (λ (j : Job). ComesWithin j (state c.args.shell.now) (state c.serve.new.shell))
    (sym c.in-Serve.is) c.serve.ensures.most

pub returns-in-Trial-clause-most : goal.returns-in-Trial-clause-most
returns-in-Trial-clause-most g c =
    let state = g.S.Disk.state in
    subst (λ (j : Job). ComesWithin j (state c.args.shell.now) (state c.carry_out_trial.new.shell))
    (sym c.in-Trial.is) tt
