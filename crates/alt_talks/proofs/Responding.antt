-- A request that was carried out and answered, and what follows it.
use Rattle.std.proofs.Common.{◌≡◌, ◌∙◌, ◌≤◌, ◌+◌, ⊎_elim, ℕ, List, [], ◌∷◌, length, Bool, true, false, Option, Some, None, sym, subst, arith}
use Rattle.std.proofs.lemmas.Bool.{not-true}
use Rattle.std.specs.Prelude.{not}
use Rattle.alt_disk.specs.Disk.{DiskState}
use Rattle.alt_machine.specs.Outcomes.{last_state}
use Rattle.alt_machine.specs.State.{State}
use Rattle.alt_machine.specs.Wanted.{Lack, wanted}
use Rattle.alt_shell.specs.Calls.{Keeps}
use Rattle.alt_shell.specs.Log.{Log}
use Rattle.alt_tables.specs.FilesLeft.{most_files}
use Rattle.alt_talks.specs.Faults.{IsAnswerFault, IsFileFault, reach}
use Rattle.alt_talks.specs.Own.{FollowsNot, own_behind}
use Rattle.alt_talks.specs.Runs.{OfStretch, Stretch}
use Rattle.alt_talks.specs.private.Rungs.{KnowsLastMoment, Utters}
use Rattle.alt_talks.specs.Stops.{AreWithin}
use Rattle.alt_talks.specs.Stretches.{Does, RefusedHeadIsTimed}
use Rattle.alt_talks.specs.Talks.{asked, has_refused, Rules, Request}
use Rattle.alt_talks.specs.private.Lawful.{Lawful}
use Rattle.alt_talks.specs.TalkRules.{talk_rules, left_by, outcome_of}
use Rattle.alt_talks.specs.TalkStops.{LeavesNow}
use Rattle.alt_talks.specs.private.RungStops.{AnswersOn, AnswersSomeOn}
use Rattle.alt_talks.specs.Turns.{or_next}
use Rattle.alt_talks.specs.Works.{Follows}
use Rattle.alt_talks.specs.declared.fault.RunFault.{RunFault}
use Rattle.alt_talks.proofs.FileFaults.{IsTurnFault, file_more, reach_one}
use Rattle.alt_talks.proofs.Owning.{answer_behind, answer_first, enough_both}
use Rattle.alt_talks.proofs.Stretching.{stretch_goes}
use Rattle.alt_talks.proofs.TalkLaws.{lawful, rules-alone, rules-atoms, rules-left, rules-own, rules-wants}
use Rattle.alt_talks.proofs.Timing.{told_one}
use Rattle.alt_talks.proofs.AnswerLeaving.{Asked, asked_on, asked_own_on, asked_work_on, told_then}

-- a request takes a moment
pub asked_reach : (r : Rules) (s t : State) (m n : Bool) (q : Request) (es : Log) (ms : List ℕ)
    (next k : ℕ) → Does r s m (asked q ∷ []) t n es ms → k ≤ next + most_files → k ≤ reach next ms
asked_reach r s t m n q es ms next k a le =
    let one = ⊎_elim (λ (c : (length ms ≡ 1) × (has_refused (asked q ∷ []) ≡ true
    → RefusedHeadIsTimed r s m (asked q ∷ []) es ms)). c.0) (λ (c : (n ≡ true) × (length ms ≡ 1)). c.1) a.count in
    omega (arith, one, le)

module _ (r : Rules) (w : Lawful r) (old done new last : DiskState) (s : State) (m n : Bool)
    (q : Request) (at : ℕ) (bytes : List ℕ) (front : Asked r old done s q at)
    (here : LeavesNow done (last_state s (r.atoms s q at))) (keeps : Keeps done new)
    (same : bytes ≡ r.reply s q at) (said : Stretch done new (λ _ _. Utters m bytes n))
    (follows : Follows new last (last_state s (r.atoms s q at)) (r.own s q at)) where
  abbrev Spoken : OfStretch
  Spoken = λ _ _ es ms. AreWithin done.moment new.moment es × Utters m (r.reply s q at) n es ms

  -- what was said stays said behind what follows it
  spoken : Stretch done last Spoken
  spoken = stretch_goes done new last {P = λ _ _. Utters m bytes n} {Q = Spoken}
      (λ es ms within u. (within, subst (λ (bs : List ℕ). Utters m bs n es ms) same u))
      said follows.goes

  -- it was done
  pub follow_made : (before : Option ℕ) → r.wants s q at ≡ None
      → Stretch old last (KnowsLastMoment before (Some at) (AnswersOn r s m (asked q ∷ []) (r.next s q at) n))
  follow_made before enough = told_then old done last {Q = Spoken}
      {R = KnowsLastMoment before (Some at) (AnswersOn r s m (asked q ∷ []) (r.next s q at) n)}
      at front.silent front.told front.later front.trusts
      (λ fs ns within x. (
        asked_on r w old done new last s m n q at fs ns front here keeps x.0 follows.leaves x.1 enough,
        told_one before at ns x.1.timeless,
      ))
      spoken

  -- or the step of work in it broke off
  pub work_broke : (fault : RunFault) (next : ℕ) → r.wants s q at ≡ None
      → IsFileFault (next + most_files) fault → n ≡ false
      → Stretch old last (AnswersSomeOn r fault next s m (asked q ∷ []))
  work_broke fault next enough why heard = told_then old done last {Q = Spoken}
      {R = AnswersSomeOn r fault next s m (asked q ∷ [])} at front.silent front.told front.later
      front.trusts
      (λ fs ns within x. asked_work_on r w old done new last s m n q at fs ns front here keeps x.0
      follows.leaves x.1 fault next enough
      (file_more fault (next + most_files) (reach next (at ∷ ns)) (reach_one next at ns) why) heard)
      spoken

  -- or what the server does by itself
  pub own_broke : (fault : RunFault) (next : ℕ)
      → IsAnswerFault next (r.wants s q at) (r.own s q at) fault
      → Stretch old last (AnswersSomeOn r fault next s m (asked q ∷ []))
  own_broke fault next cause = told_then old done last {Q = Spoken}
      {R = AnswersSomeOn r fault next s m (asked q ∷ [])} at front.silent front.told front.later
      front.trusts
      (λ fs ns within x. asked_own_on r w old done new last s m n q at fs ns front here keeps x.0
      follows.leaves x.1 fault next cause)
      spoken

-- ---- by the rules of the server

-- what it does behind a request
pub own_follows : (a b : DiskState) (s : State) (q : Request) (at : ℕ)
    → Follows a b (left_by s q at) (own_behind (left_by s q at)).atoms
    → Follows a b (last_state s (talk_rules.atoms s q at)) (talk_rules.own s q at)
own_follows a b s q at p = subst (λ (u : State). Follows a b u (talk_rules.own s q at))
    (sym (rules-left s q at))
    (subst (λ (xs : List State). Follows a b (left_by s q at) xs) (sym (rules-own s q at)) p)

-- a request that has no answer
pub asked_fault : (s : State) (q : Request) (at next : ℕ) (fault : RunFault)
    → IsAnswerFault next (wanted s (outcome_of s q at)) (outcome_of s q at).atoms fault
    → IsTurnFault next (talk_rules.alone s q at) (talk_rules.wants s q at) (talk_rules.atoms s q at) fault
asked_fault s q at next fault h =
    let first = wanted s (outcome_of s q at) in
    let behind = (own_behind (left_by s q at)).lacks in
    subst (λ (l : Option Lack). IsTurnFault next l (talk_rules.wants s q at) (talk_rules.atoms s q at) fault)
    (sym (rules-alone s q at))
    (subst (λ (l : Option Lack). IsTurnFault next first l (talk_rules.atoms s q at) fault)
    (sym (rules-wants s q at))
    (subst (λ (xs : List State). IsTurnFault next first (or_next first behind) xs fault)
    (sym (rules-atoms s q at))
    (answer_first next first behind (outcome_of s q at).atoms fault h)))

-- that broke off
pub follow_broke : (old done new last : DiskState) (s : State) (m n : Bool)
    (q : Request) (at : ℕ) (bytes : List ℕ) → Asked talk_rules old done s q at
    → LeavesNow done (last_state s (talk_rules.atoms s q at)) → Keeps done new
    → bytes ≡ talk_rules.reply s q at → Stretch done new (λ _ _. Utters m bytes n)
    → Follows new last (left_by s q at) (own_behind (left_by s q at)).atoms
    → (fault : RunFault) (next : ℕ) → wanted s (outcome_of s q at) ≡ None
    → FollowsNot (not n) next (own_behind (left_by s q at)) fault
    → Stretch old last (AnswersSomeOn talk_rules fault next s m (asked q ∷ []))
follow_broke old done new last s m n q at bytes front here keeps same said follows fault next enough why =
    let behind = own_behind (left_by s q at) in ⊎_elim
    (λ cause. own_broke talk_rules lawful old done new last s m n q at bytes front here keeps same said
    (own_follows new last s q at follows) fault next
    (subst (λ (l : Option Lack). IsAnswerFault next l (talk_rules.own s q at) fault)
    (sym (rules-wants s q at))
    (subst (λ (xs : List State). IsAnswerFault next (or_next (wanted s (outcome_of s q at)) behind.lacks)
    xs fault) (sym (rules-own s q at))
    (answer_behind next (wanted s (outcome_of s q at)) behind.lacks behind.atoms fault enough cause))))
    (λ work. work_broke talk_rules lawful old done new last s m n q at bytes front here keeps same said
    (own_follows new last s q at follows) fault next
    (rules-wants s q at ∙ enough_both _ _ enough work.1) work.2 (not-true n work.0))
    why
