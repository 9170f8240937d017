use Rattle.std.proofs.Common.{true, false, refl, sym, subst, arith, Bool}
use Rattle.alt_talks.specs.Runs.{Stretch}
use Rattle.alt_talks.specs.private.Rungs.{Utters}
use Rattle.alt_talks.proofs.Stretching.{stretch_none}
use Rattle.alt_talks.proofs.TalkLogs.{stretch_one}
use Rattle.alt_talks.proofs.Uttering.{utters_said, utters_failed, utters_none}
use Rattle.alt_talks.proofs.Arriving.{came_none, came_event, came_say_failed}
use Rattle.alt_shell.specs.Log.{entry, said, told_count}
use Rattle.alt_talks.proofs.saying.utter.Goals as goal

pub returns-then-mute-clause-said : goal.returns-then-mute-clause-said
returns-then-mute-clause-said g c =
    let old = g.S.Disk.state c.args.shell.now in
    subst (λ (m : Bool). Stretch old old (λ _ _. Utters m c.args.text.now m))
    (sym c.if-mute.true)
    (stretch_none old {P = λ _ _. Utters true c.args.text.now true} (utters_none c.args.text.now))

pub returns-in-Ok-clause-said : goal.returns-in-Ok-clause-said
returns-in-Ok-clause-said g c =
    let state = g.S.Disk.state in
    let old = state c.args.shell.now in
    let new = state c.say.new.self in
    let keeps = c.in-Ok.ensures.call.keeps in
    subst (λ (m : Bool). Stretch old new (λ _ _. Utters m c.args.text.now m))
    (sym c.if-mute.false)
    (stretch_one old new (λ _ _. Utters false c.args.text.now false) _
    c.in-Ok.ensures.said c.in-Ok.ensures.moments (keeps.later, omega arith, tt) keeps
    (utters_said c.args.text.now _ _))

pub returns-in-Err-clause-said : goal.returns-in-Err-clause-said
returns-in-Err-clause-said g c =
    let state = g.S.Disk.state in
    let old = state c.args.shell.now in
    let new = state c.say.new.self in
    subst (λ (m : Bool). Stretch old new (λ _ _. Utters m c.args.text.now true))
    (sym c.if-mute.false)
    (utters_failed old new c.args.text.now c.requires.talking
    (c.requires.hears c.if-mute.false) c.in-Err.ensures.said c.in-Err.ensures.moments
    c.in-Err.ensures.call.keeps)

pub returns-then-mute-clause-none : goal.returns-then-mute-clause-none
returns-then-mute-clause-none g c =
    came_none (g.S.Disk.state c.args.shell.now)

pub returns-in-Ok-clause-none : goal.returns-in-Ok-clause-none
returns-in-Ok-clause-none g c =
    let state = g.S.Disk.state in
    let a = state c.args.shell.now in
    let b = state c.say.new.self in
    came_event a b (entry b.moment (told_count a.beside) (said c.args.text.now)) refl
    c.in-Ok.ensures.said

pub returns-in-Err-clause-none : goal.returns-in-Err-clause-none
returns-in-Err-clause-none g c =
    let state = g.S.Disk.state in
    came_say_failed (state c.args.shell.now) (state c.say.new.self) c.args.text.now
    c.in-Err.ensures.said
