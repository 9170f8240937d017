use Rattle.std.proofs.Common.{◌≡◌, ◌≤◌, ◌∙◌, length, [], ◌∷◌, ℕ, List, true, false, refl, sym, ap, subst, append-nil}
use Rattle.std.specs.Prelude.{MatchResult}
use Rattle.alt_shell.specs.Log.{Log}
use Rattle.alt_talks.specs.declared.fault.RunFault.TheVariants.{NoMemory}
use Rattle.alt_http.specs.Judged.{IsScan}
use Rattle.alt_http.specs.Reading.{scan_of}
use Rattle.alt_http.proofs.Answering.{scan_of-is, scan_of-within}
use Rattle.alt_machine.specs.State.{State}
use Rattle.alt_tables.specs.Stands.{Stands, bounds_of}
use Rattle.alt_talks.specs.TalkStops.{deeds}
use Rattle.alt_talks.specs.private.RungStops.{AnswersOn, AnswersSomeOn, MovesSomeOn, StepsOn}
use Rattle.alt_talks.specs.Runs.{Counting, LeadsOn, Stretch}
use Rattle.alt_talks.specs.private.Rungs.{KnowsLastMoment}
use Rattle.alt_talks.specs.TalkRules.{talk_rules}
use Rattle.alt_talks.specs.TalkViews.{scanned}
use Rattle.alt_talks.specs.private.InHand.{place_of_talk}
use Rattle.alt_talks.specs.Talks.{refused, unread, bad, at, turns}
use Rattle.alt_talks.proofs.Stopping.{stands_kept}
use Rattle.alt_tables.proofs.Left.{stands_left}
use Rattle.alt_talks.proofs.FileFaults.{reach_least}
use Rattle.alt_talks.proofs.Stretching.{stretch_none, stretch_as}
use Rattle.alt_talks.proofs.TalkDeeds.{deeds_say}
use Rattle.alt_talks.proofs.AnswerLeaving.{left_nothing}
use Rattle.alt_talks.proofs.TurnLeaving.{moves_some_on, steps_bad_on, steps_unread_on}
use Rattle.alt_talks.proofs.Stepping.{moves_some}
use Rattle.alt_talks.proofs.TalkCuts.{at_bad}
use Rattle.alt_talks.proofs.TalkLaws.{lawful, rules-scan, known_refusal}
use Rattle.alt_talks.proofs.TalkReach.{reach_none}
use Rattle.alt_talks.proofs.Uttering.{answers_some_none}
use Rattle.alt_talks.proofs.Arriving.{came_none}
use Rattle.alt_talks.proofs.turns.one.Goals as goal

pub returns-in-Err-clause-stepped : goal.returns-in-Err-clause-stepped
returns-in-Err-clause-stepped g c = λ s stands.
    let p = place_of_talk c.args.talk.now in
    let m = c.args.talk.now.mute in
    let a = g.S.Disk.state c.args.shell.now in
    let next = (bounds_of c.args.tables.now).file in
    stretch_none a {P = MovesSomeOn talk_rules NoMemory next p s m} (
      moves_some talk_rules NoMemory next p s m [] [] _ [] (sym (append-nil _)) (answers_some_none talk_rules next s m _),
      left_nothing a s (deeds talk_rules s (turns talk_rules p.left p.greeted p.bytes) [])
          (deeds_say talk_rules lawful s (turns talk_rules p.left p.greeted p.bytes) [])
          (λ trusted image is. stands_left a c.args.tables.now s stands image is),
    )

pub returns-in-More-clause-stepped : goal.returns-in-More-clause-stepped
returns-in-More-clause-stepped g c = λ s stands.
    let a = g.S.Disk.state c.args.shell.now in
    let p = place_of_talk c.args.talk.now in
    let m = c.args.talk.now.mute in
    let e : talk_rules.scan p.bytes ≡ unread =
    rules-scan p.bytes ∙ ap scanned (sym c.in-Ok.ensures.answer ∙ c.in-More.is) in
    let after = at p.left p.greeted c.scan.new.self in
    let l = c.args.talk.now.last in
    reach_none a c.args.tables.now s (λ t. KnowsLastMoment l l (StepsOn talk_rules false p s m after t m)) stands (
      subst (λ (bs : List ℕ). StepsOn talk_rules false p s m (at p.left p.greeted bs) s m a a [] [])
          (sym c.in-Ok.ensures.stays)
          (steps_unread_on talk_rules a p s m e
          (λ trusted image is. stands_left a c.args.tables.now s stands image is)),
      refl,
    )

pub refuse-requires-clause-low : goal.refuse-requires-clause-low
refuse-requires-clause-low g c =
    (known_refusal c.args.talk.now.front _ c.in-Refused.number
    (subst (IsScan c.args.talk.now.front) (sym c.in-Ok.ensures.answer)
    (scan_of-is c.args.talk.now.front)) c.in-Refused.is).0

pub refuse-requires-clause-high : goal.refuse-requires-clause-high
refuse-requires-clause-high g c =
    (known_refusal c.args.talk.now.front _ c.in-Refused.number
    (subst (IsScan c.args.talk.now.front) (sym c.in-Ok.ensures.answer)
    (scan_of-is c.args.talk.now.front)) c.in-Refused.is).1

pub returns-in-Err-refuse-clause-stepped : goal.returns-in-Err-refuse-clause-stepped
returns-in-Err-refuse-clause-stepped g c = λ s stands.
    let state = g.S.Disk.state in
    let a = state c.args.shell.now in
    let b = state c.refuse.new.shell in
    let p = place_of_talk c.args.talk.now in
    let m = c.args.talk.now.mute in
    let k = c.in-Refused.number in
    let fault = c.in-Err-refuse.fault in
    let e : talk_rules.scan p.bytes ≡ bad k =
    rules-scan p.bytes ∙ ap scanned (sym c.in-Ok.ensures.answer ∙ c.in-Refused.is) in
    let next = (bounds_of c.args.tables.now).file in
    stretch_as a b {P = AnswersSomeOn talk_rules fault next s m (refused k ∷ [])}
    {Q = MovesSomeOn talk_rules fault next p s m}
    (λ (es : Log) (ms : List ℕ) within x. moves_some_on talk_rules lawful a b fault next p s m es ms
    (refused k ∷ []) [] (at_bad talk_rules p.left p.greeted p.bytes k c.requires.going e).0 x)
    (c.in-Err-refuse.ensures.answered s
    (λ trusted image is. stands_left a c.args.tables.now s stands image is) next)

pub returns-in-Ok-refuse-clause-stepped : goal.returns-in-Ok-refuse-clause-stepped
returns-in-Ok-refuse-clause-stepped g c = λ s stands.
    let state = g.S.Disk.state in
    let a = state c.args.shell.now in
    let b = state c.refuse.new.shell in
    let p = place_of_talk c.args.talk.now in
    let m = c.args.talk.now.mute in
    let n = c.refuse.new.mute in
    let l = c.args.talk.now.last in
    let h = c.refuse.new.last in
    let k = c.in-Refused.number in
    let e : talk_rules.scan p.bytes ≡ bad k =
    rules-scan p.bytes ∙ ap scanned (sym c.in-Ok.ensures.answer ∙ c.in-Refused.is) in
    let next = (bounds_of c.args.tables.now).file in
    record {
      to = s;
      stands = stands_kept a b c.in-Ok-refuse.ensures.keeps c.args.tables.now s stands;
      calls = stretch_as a b {P = KnowsLastMoment l h (AnswersOn talk_rules s m (refused k ∷ []) s n)}
          {Q = Counting next next
          (KnowsLastMoment l h (StepsOn talk_rules true p s m (at 0 p.greeted c.scan.new.self) s n))}
          (λ (es : Log) (ms : List ℕ) within x. (
            (
              subst (λ (bs : List ℕ). StepsOn talk_rules true p s m (at 0 p.greeted bs) s n a b es ms)
                  (sym c.in-Ok.ensures.stays)
                  (steps_bad_on talk_rules lawful a b p s s m n k es ms c.requires.going e x.0),
              x.1,
            ),
            reach_least next ms,
          ))
          (c.in-Ok-refuse.ensures.answered s
          (λ trusted image is. stands_left a c.args.tables.now s stands image is));
    }

pub found-requires-clause-head : goal.found-requires-clause-head
found-requires-clause-head g c =
    ap scan_of c.in-Ok.ensures.stays ∙ sym c.in-Ok.ensures.answer ∙ c.in-Head.is

pub found-requires-clause-lies : goal.found-requires-clause-lies
found-requires-clause-lies g c = subst (λ (bs : List ℕ). c.in-Head.taken ≤ length bs)
    (sym c.in-Ok.ensures.stays)
    (scan_of-within c.args.talk.now.front _ _ _ _ _ (sym c.in-Ok.ensures.answer ∙ c.in-Head.is)).1

pub returns-in-Head-clause-stepped : goal.returns-in-Head-clause-stepped
returns-in-Head-clause-stepped g c =
    let state = g.S.Disk.state in
    let a = state c.args.shell.now in
    let b = state c.found.new.shell in
    let p = place_of_talk c.args.talk.now in
    let q = place_of_talk c.found.new.talk in
    let m = c.args.talk.now.mute in
    let n = c.found.new.talk.mute in
    let next = (bounds_of c.args.tables.now).file in
    subst (λ (bs : List ℕ). (s : State) → Stands a c.args.tables.now s → MatchResult c.found.result
    (λ more. LeadsOn next a b c.found.new.tables
    (λ t. KnowsLastMoment c.args.talk.now.last c.found.new.talk.last
    (StepsOn talk_rules more (at p.left p.greeted bs) s m q t n)))
    (λ f. Stretch a b (MovesSomeOn talk_rules f next (at p.left p.greeted bs) s m)))
    c.in-Ok.ensures.stays c.found.ensures.stepped

pub returns-in-Err-clause-none : goal.returns-in-Err-clause-none
returns-in-Err-clause-none g c =
    came_none (g.S.Disk.state c.args.shell.now)

pub returns-in-More-clause-none : goal.returns-in-More-clause-none
returns-in-More-clause-none g c =
    came_none (g.S.Disk.state c.args.shell.now)

pub returns-in-Err-refuse-clause-none : goal.returns-in-Err-refuse-clause-none
returns-in-Err-refuse-clause-none g c =
    c.in-Err-refuse.ensures.none

pub returns-in-Ok-refuse-clause-none : goal.returns-in-Ok-refuse-clause-none
returns-in-Ok-refuse-clause-none g c =
    c.in-Ok-refuse.ensures.none

pub returns-in-Head-clause-none : goal.returns-in-Head-clause-none
returns-in-Head-clause-none g c =
    c.found.ensures.none
