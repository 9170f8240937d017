use Rattle.std.proofs.Common.{List, ℕ, Option, subst, sym, ◌∙◌}
use Rattle.alt_shell.specs.Log.{StillGrows, notes_of}
use Rattle.alt_run.specs.Endings.{HasDone, note_of}
use Rattle.alt_run.specs.Words.{command_of, bytes_of}
use Rattle.alt_run.specs.declared.words.Command.{Command}
use Rattle.alt_run.proofs.NotedEnding.{noted_done, noted_whole, words_end, completes, makes_all}
use Rattle.alt_run.proofs.Bringing.{after_noted, within_noted}
use Rattle.alt_run.proofs.Initing.{quiet_behind}
use Rattle.alt_run.proofs.Staying.{kept_past, kept_trust, stays_whole}
use Rattle.alt_run.proofs.running.run.Goals as goal

pub returns-clause-ended : goal.returns-clause-ended
returns-clause-ended g c =
    let state = g.S.Disk.state in (
      c.noted-ending.result,
      record {
        by_ending = c.status_of.ensures;
        done = noted_done (state c.args.shell.now) (state c.ended.new.shell)
            (state c.noted-ending.new.shell) (command_of (bytes_of c.args.words.now)) c.ended.result
            c.noted-ending.result
            c.noted-ending.ensures.ending c.noted-ending.ensures.silent c.noted-ending.ensures.unasked
            c.noted-ending.ensures.aside c.ended.ensures.done;
        noted = subst (λ (notes : Option (List ℕ)). StillGrows notes
            (notes_of (state c.noted-ending.new.shell).beside) (note_of c.noted-ending.result))
            c.ended.ensures.passes.notes c.noted-ending.ensures.noted;
      },
    )

pub returns-clause-complete : goal.returns-clause-complete
returns-clause-complete g c = λ job limits is trusted readable well.
    let state = g.S.Disk.state in
    let old = state c.args.shell.now in
    let new = state c.noted-ending.new.shell in
    completes old new job c.noted-ending.result c.status_of.result c.status_of.ensures
    (subst (λ (j : Option Command). HasDone j c.noted-ending.result old new) is
    (noted_done old (state c.ended.new.shell) new (command_of (bytes_of c.args.words.now)) c.ended.result
    c.noted-ending.result c.noted-ending.ensures.ending c.noted-ending.ensures.silent
    c.noted-ending.ensures.unasked c.noted-ending.ensures.aside c.ended.ensures.done))
    trusted readable well

pub returns-clause-made : goal.returns-clause-made
returns-clause-made g c = λ job trusted none well.
    let state = g.S.Disk.state in
    let old = state c.args.shell.now in
    let new = state c.noted-ending.new.shell in
    makes_all old new c.noted-ending.result c.status_of.result c.status_of.ensures
    (subst (λ (j : Option Command). HasDone j c.noted-ending.result old new) job
    (noted_done old (state c.ended.new.shell) new (command_of (bytes_of c.args.words.now)) c.ended.result
    c.noted-ending.result c.noted-ending.ensures.ending c.noted-ending.ensures.silent
    c.noted-ending.ensures.unasked c.noted-ending.ensures.aside c.ended.ensures.done))
    trusted none well

pub returns-clause-after : goal.returns-clause-after
returns-clause-after g c = λ job limits is e.
    let state = g.S.Disk.state in
    after_noted limits.flush job (state c.args.shell.now) (state c.ended.new.shell)
    (state c.noted-ending.new.shell) c.noted-ending.ensures.silent
    c.noted-ending.ensures.aside.keeps
    (c.ended.ensures.after job limits is (noted_whole c.ended.result c.noted-ending.result
    c.noted-ending.ensures.ending (sym c.status_of.ensures ∙ e)))

pub returns-clause-words : goal.returns-clause-words
returns-clause-words g c =
    let state = g.S.Disk.state in
    let old = state c.args.shell.now in
    let new = state c.noted-ending.new.shell in
    let both = words_end old new (command_of (bytes_of c.args.words.now)) c.noted-ending.result
    (noted_done old (state c.ended.new.shell) new (command_of (bytes_of c.args.words.now)) c.ended.result
    c.noted-ending.result c.noted-ending.ensures.ending c.noted-ending.ensures.silent
    c.noted-ending.ensures.unasked c.noted-ending.ensures.aside c.ended.ensures.done) in (
      λ e. both.0 (sym c.status_of.ensures ∙ e),
      λ e. c.status_of.ensures ∙ both.1 e,
    )

pub returns-clause-untouched : goal.returns-clause-untouched
returns-clause-untouched g c = λ is tells f there.
    let state = g.S.Disk.state in
    quiet_behind (state c.args.shell.now) (state c.ended.new.shell) (state c.noted-ending.new.shell)
    c.noted-ending.ensures.aside (c.ended.ensures.untouched is tells f there)

pub returns-clause-whole : goal.returns-clause-whole
returns-clause-whole g c =
    let state = g.S.Disk.state in
    let old = state c.args.shell.now in
    let mid = state c.ended.new.shell in
    let new = state c.noted-ending.new.shell in
    stays_whole old new (command_of (bytes_of c.args.words.now)) c.noted-ending.result
    (kept_trust old mid new c.ended.ensures.passes c.noted-ending.ensures.aside)
    (kept_past old mid new c.ended.ensures.passes c.noted-ending.ensures.aside)
    (g.met.S.Disk.reads_as_image c.args.shell.now)
    (noted_done old mid new (command_of (bytes_of c.args.words.now)) c.ended.result
    c.noted-ending.result c.noted-ending.ensures.ending c.noted-ending.ensures.silent
    c.noted-ending.ensures.unasked c.noted-ending.ensures.aside c.ended.ensures.done)
    (λ is tells f there. quiet_behind old mid new c.noted-ending.ensures.aside
    (c.ended.ensures.untouched is tells f there))

pub returns-clause-most : goal.returns-clause-most
returns-clause-most g c = λ job limits is.
    let state = g.S.Disk.state in
    within_noted job (state c.args.shell.now) (state c.ended.new.shell)
    (state c.noted-ending.new.shell) c.noted-ending.ensures.silent (c.ended.ensures.most job limits is)
