use Rattle.std.proofs.Common.{◌∙◌, ◌∷◌, [], ℕ, List, refl, sym, subst, append-nil}
use Rattle.alt_disk.specs.Disk.{DiskState}
use Rattle.alt_shell.specs.Log.{entry, said, told_count}
use Rattle.alt_run.specs.Trials.{IsSummary, trial_asks, trial_turns}
use Rattle.alt_run.proofs.Bringing.{few_kept}
use Rattle.alt_run.proofs.Trying.{trial_memory, trial_said, trial_cut}
use Rattle.alt_run.proofs.trial.tell.Goals as goal

pub returns-in_default-clause-told : goal.returns-in_default-clause-told
returns-in_default-clause-told g c = λ old s seed tables none next empty goes counted.
    let mid = g.S.Disk.state c.args.shell.now in
    trial_memory old mid mid tables s seed c.args.count none c.args.tally goes counted next

pub returns-in-Ok-say-clause-told : goal.returns-in-Ok-say-clause-told
returns-in-Ok-say-clause-told g c = λ old s seed tables none next empty goes counted.
    let state = g.S.Disk.state in
    trial_said old (state c.args.shell.now) (state c.say.new.self) tables s seed c.args.count none
    c.args.tally goes counted c.as_bytes.result.now
    (c.as_bytes.ensures.value ∙ c.in-Ok.ensures.counted (trial_turns s (trial_asks seed c.args.count))
    (counted.counts [] empty))
    c.in-Ok-say.ensures.call c.in-Ok-say.ensures.said c.in-Ok-say.ensures.moments

pub returns-clause-told : goal.returns-clause-told
returns-clause-told g c = λ old s seed tables none next empty goes counted.
    let state = g.S.Disk.state in
    trial_cut old (state c.args.shell.now) (state c.say.new.self) tables s seed c.args.count none
    c.args.tally goes counted c.as_bytes.result.now
    (c.as_bytes.ensures.value ∙ c.in-Ok.ensures.counted (trial_turns s (trial_asks seed c.args.count))
    (counted.counts [] empty))
    c.in-Err.ensures.call c.in-Err.ensures.moments c.in-Err.ensures.said next

pub returns-in-Ok-say-clause-few : goal.returns-in-Ok-say-clause-few
returns-in-Ok-say-clause-few g c = λ flush few.
    let state = g.S.Disk.state in
    few_kept flush (state c.args.shell.now) (state c.say.new.self) c.in-Ok-say.ensures.call.keeps few

pub returns-in-Ok-say-clause-said : goal.returns-in-Ok-say-clause-said
returns-in-Ok-say-clause-said g c =
    let state = g.S.Disk.state in
    let mid : DiskState = state c.args.shell.now in
    let new : DiskState = state c.say.new.self in
    let bytes : List ℕ = c.as_bytes.result.now in
    record {
      text = bytes;
      is = subst (IsSummary c.args.count) (sym c.as_bytes.ensures.value) c.in-Ok.ensures.form;
      entries = entry new.moment (told_count mid.beside) (said bytes) ∷ [];
      grows = c.in-Ok-say.ensures.said;
      said = append-nil bytes;
      rests = record { silent = refl; goes_on = refl; inside = refl };
    }
