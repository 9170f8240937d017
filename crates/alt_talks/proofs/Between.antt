-- A connection that was served, and what the server does behind it.
use Rattle.std.proofs.Common.{◌≡◌, ◌<◌, ◌≤◌, ◌+◌, ◌++◌, ℕ, suc, List, true, Option, None, sym, ap, subst, ◌∙◌, arith}
use Rattle.alt_disk.specs.Disk.{DiskState}
use Rattle.alt_machine.specs.Outcomes.{last_state}
use Rattle.alt_machine.specs.State.{State}
use Rattle.alt_shell.specs.Log.{Log}
use Rattle.alt_tables.specs.EngineInHand.{Bounds}
use Rattle.alt_tables.specs.Stands.{Stands, bounds_of}
use Rattle.alt_tables.specs.declared.tables.Tables.{Tables}
use Rattle.alt_talks.specs.Connections.{after_own}
use Rattle.alt_talks.specs.Faults.{reach}
use Rattle.alt_talks.specs.Own.{BetweenNot, Own, last_told, own_between}
use Rattle.alt_talks.specs.private.Rungs.{after_between, KnowsLastMoment}
use Rattle.alt_talks.specs.Runs.{Counting, LeadsOn, OfStretch, Stretch}
use Rattle.alt_talks.specs.Stops.{AreWithin, AtEach, IsAmong}
use Rattle.alt_talks.specs.TalkRules.{talk_rules}
use Rattle.alt_talks.specs.TalkStops.{LeftBetween, ServedSomeOn}
use Rattle.alt_talks.specs.private.RungStops.{ComesOn}
use Rattle.alt_talks.specs.Works.{Follows}
use Rattle.alt_talks.specs.declared.fault.RunFault.{RunFault}
use Rattle.alt_talks.proofs.FileFaults.{between_more, reach_both}
use Rattle.alt_talks.proofs.StretchLeaving.{Meet}
use Rattle.alt_talks.proofs.Stretching.{stretch_goes, stretch_then}
use Rattle.alt_talks.proofs.TalkAmong.{SofarOn, served_between_on, sofar_more_on}
use Rattle.alt_talks.proofs.TalkLaws.{lawful, rules-between}
use Rattle.alt_talks.proofs.Timing.{told_both}

-- the number of the next connection, as it is counted
pub by_next : (n : ℕ) (P : ℕ → Type 0) → P (n + 1) → P (suc n)
by_next n P h = let same : n + 1 ≡ suc n = omega arith in subst P same h

module _ (per n next : ℕ) (a b c d : DiskState) (t1 t2 : Tables) (s : State) (before moment : Option ℕ)
    (p : LeadsOn next a b t1 (λ t. KnowsLastMoment None before (SofarOn talk_rules per n s t)))
    (go : (t : State) → Stands b t1 t
    → LeadsOn (bounds_of t1).file b c t2 (λ u. KnowsLastMoment before moment (ComesOn talk_rules per true t u)))
    (follows : (u : State) → Stands c t2 u → Follows c d u (own_between (suc n) moment u).atoms) where
  abbrev halfway : ℕ
  halfway = (bounds_of t1).file

  abbrev now : ℕ
  now = (bounds_of t2).file

  abbrev came : LeadsOn halfway b c t2 (λ u. KnowsLastMoment before moment (ComesOn talk_rules per true p.to u))
  came = go p.to p.stands

  abbrev left : State
  left = came.to

  -- what the server does, by its rules
  follows_rules : AtEach c d (λ _ image. LeftBetween talk_rules (suc n) moment left image)
  follows_rules = subst (λ (o : Own). AtEach c d (λ _ image. IsAmong image left o.atoms))
      (sym (rules-between (suc n) moment left)) (follows left came.stands).leaves

  abbrev Came : OfStretch
  Came = λ _ _ es ms. AreWithin b.moment c.moment es
      × Counting halfway now (KnowsLastMoment before moment (ComesOn talk_rules per true p.to left)) b c es ms

  -- the connection, as it is told behind what the server does
  told_came : Stretch b d Came
  told_came = stretch_goes b c d
      {P = Counting halfway now (KnowsLastMoment before moment (ComesOn talk_rules per true p.to left))}
      {Q = Came} (λ es ms within x. (within, x)) came.calls (follows left came.stands).goes

  -- one after the other
  then_came : {R : OfStretch} → ((es fs : Log) (ms ns : List ℕ) → Meet a b c es fs
      → SofarOn talk_rules per n s p.to a b es ms → ComesOn talk_rules per true p.to left b c fs ns
      → moment ≡ last_told None (ms ++ ns) → now ≤ reach next (ms ++ ns)
      → R a d (es ++ fs) (ms ++ ns)) → Stretch a d R
  then_came {R} law = stretch_then a b d
      {P = Counting next halfway (KnowsLastMoment None before (SofarOn talk_rules per n s p.to))}
      {Q = Came} {R = R}
      (λ es fs ms ns meet x y. law es fs ms ns
      (record { before = meet.before; behind = y.0; trusts = meet.trusts }) x.0.0 y.1.0.0
      (told_both None before moment ms ns x.0.1 y.1.0.1)
      (reach_both now halfway next ms ns x.1 y.1.1))
      p.calls told_came

  -- it was done
  pub sofar_followed : (t3 : Tables) → bounds_of t3 ≡ bounds_of t2
      → ((u : State) → Stands c t2 u → (own_between (suc n) moment u).lacks ≡ None)
      → ((u : State) → Stands c t2 u → Stands d t3 (after_between (suc n) moment u))
      → LeadsOn next a d t3 (λ v. KnowsLastMoment None moment (SofarOn talk_rules per (n + 1) s v))
  sofar_followed t3 same enough stands = record {
    to = after_own talk_rules (suc n) moment left;
    stands = subst (λ (o : Own). Stands d t3 (last_state left o.atoms))
        (sym (rules-between (suc n) moment left)) (stands left came.stands);
    calls = then_came
        {R = Counting next (bounds_of t3).file
        (KnowsLastMoment None moment (SofarOn talk_rules per (n + 1) s (after_own talk_rules (suc n) moment left)))}
        (λ es fs ms ns meet x y told few. (
          (
            sofar_more_on talk_rules lawful per a b c s p.to n es fs ms ns meet x d left moment told y
                came.calls.trusts follows_rules
                (ap (λ (o : Own). o.lacks) (rules-between (suc n) moment left) ∙ enough left came.stands),
            told,
          ),
          subst (λ (b : Bounds). b.file ≤ reach next (ms ++ ns)) (sym same) few,
        ));
  }

  -- or it broke off
  pub served_followed : (count : ℕ) (fault : RunFault) → n < count
      → ((u : State) → Stands c t2 u → BetweenNot now (own_between (suc n) moment u) fault)
      → Stretch a d (ServedSomeOn talk_rules per count fault next s)
  served_followed count fault few cause = then_came {R = ServedSomeOn talk_rules per count fault next s}
      (λ es fs ms ns meet x y told low.
      served_between_on talk_rules lawful per a b c s p.to n es fs ms ns meet x d left moment told y
      came.calls.trusts follows_rules count fault next few
      (between_more now (reach next (ms ++ ns)) _ fault low
      (subst (λ (o : Own). BetweenNot now o fault) (sym (rules-between (suc n) moment left))
      (cause left came.stands))))
