use Rattle.std.proofs.Common.{◌∙◌, List, ℕ, [], ◌∷◌, Some, true, Bool, refl, sym, subst}
use Rattle.alt_shell.specs.Log.{Log}
use Rattle.alt_talks.specs.Runs.{Stretch}
use Rattle.alt_talks.specs.private.Rungs.{KnowsLastMoment, Utters}
use Rattle.alt_talks.specs.Stops.{AreWithin}
use Rattle.alt_talks.specs.TalkRules.{talk_rules}
use Rattle.alt_talks.specs.private.RungStops.{AnswersOn, AnswersSomeOn}
use Rattle.alt_talks.specs.Talks.{refused}
use Rattle.alt_talks.specs.declared.fault.RunFault.TheVariants.{NoMemory}
use Rattle.alt_talks.proofs.Stretching.{stretch_none}
use Rattle.alt_talks.proofs.Stopping.{trusts-kept}
use Rattle.alt_talks.proofs.TalkLaws.{lawful, rules-refusal}
use Rattle.alt_talks.proofs.AnswerLeaving.{left_nothing, left_untold, told_alone, told_then, refused_on}
use Rattle.alt_talks.proofs.Timing.{told_one}
use Rattle.alt_talks.proofs.Uttering.{does_refused_mute, quiet_none, some_refused}
use Rattle.alt_talks.proofs.Arriving.{came_none, came_silent, came_then}
use Rattle.alt_talks.proofs.saying.refuse.Goals as goal

pub returns-then-mute-clause-answered : goal.returns-then-mute-clause-answered
returns-then-mute-clause-answered g c = λ s here.
    let a = g.S.Disk.state c.args.shell.now in
    let k = c.args.number in
    let l = c.args.last.now in
    subst (λ (m : Bool). Stretch a a (KnowsLastMoment l l (AnswersOn talk_rules s m (refused k ∷ []) s m)))
    (sym c.if-mute.true)
    (stretch_none a {P = KnowsLastMoment l l (AnswersOn talk_rules s true (refused k ∷ []) s true)} (
      (
        record { does = does_refused_mute talk_rules s k; quiet = quiet_none },
        left_nothing a s [] tt here,
      ),
      refl,
    ))

pub returns-in-Ok-clause-answered : goal.returns-in-Ok-clause-answered
returns-in-Ok-clause-answered g c = λ s here.
    let state = g.S.Disk.state in
    let a = state c.args.shell.now in
    let b = state c.now-moment.new.self in
    let d = state c.utter.new.shell in
    let m = c.args.mute.now in
    let n = c.utter.new.mute in
    let at = c.now-moment.result in
    let k = c.args.number in
    let keeps = c.now-moment.ensures.call.keeps in
    let same = c.deref.ensures.value ∙ c.in-Ok.ensures ∙ sym (rules-refusal k at) in
    told_then a b d {Q = λ _ _. Utters m c.deref.result.now n}
    {R = KnowsLastMoment c.args.last.now (Some at) (AnswersOn talk_rules s m (refused k ∷ []) s n)} at
    c.now-moment.ensures.log c.now-moment.ensures.told keeps.later (trusts-kept a b keeps)
    (λ (fs : Log) (ns : List ℕ) (within : AreWithin b.moment d.moment fs) u. (
      refused_on talk_rules lawful a b d s m n k at fs ns c.if-mute.false c.now-moment.ensures.call
          c.utter.ensures.keeps here within
          (subst (λ (bs : List ℕ). Utters m bs n fs ns) same u),
      told_one c.args.last.now at ns u.timeless,
    ))
    c.utter.ensures.said

pub returns-in-Err-clause-answered : goal.returns-in-Err-clause-answered
returns-in-Err-clause-answered g c = λ s here next.
    let state = g.S.Disk.state in
    let a = state c.args.shell.now in
    let b = state c.now-moment.new.self in
    let m = c.args.mute.now in
    let at = c.now-moment.result in
    let k = c.args.number in
    let keeps = c.now-moment.ensures.call.keeps in
    told_alone a b {R = AnswersSomeOn talk_rules NoMemory next s m (refused k ∷ [])} at
    c.now-moment.ensures.log c.now-moment.ensures.told keeps.later (trusts-kept a b keeps) (
      some_refused talk_rules next s m k at [] (at ∷ []) (record { nothing = refl; one = refl }),
      left_untold talk_rules lawful a b s (refused k ∷ []) (at ∷ []) keeps here,
    )

pub returns-then-mute-clause-none : goal.returns-then-mute-clause-none
returns-then-mute-clause-none g c =
    came_none (g.S.Disk.state c.args.shell.now)

pub returns-in-Ok-clause-none : goal.returns-in-Ok-clause-none
returns-in-Ok-clause-none g c =
    let state = g.S.Disk.state in
    let a = state c.args.shell.now in
    let b = state c.now-moment.new.self in
    came_then a b (state c.utter.new.shell) 0 0 (came_silent a b c.now-moment.ensures.log)
    c.utter.ensures.none

pub returns-in-Err-clause-none : goal.returns-in-Err-clause-none
returns-in-Err-clause-none g c =
    let state = g.S.Disk.state in
    came_silent (state c.args.shell.now) (state c.now-moment.new.self) c.now-moment.ensures.log
