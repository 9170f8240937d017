-- States that were reached, one stretch of a connection after another.
use Rattle.std.proofs.Common.{◌≤◌, [], ◌++◌, ℕ, List}
use Rattle.std.specs.Prelude.{Result, Ok, Err, MatchResult}
use Rattle.alt_disk.specs.Disk.{DiskState}
use Rattle.alt_machine.specs.State.{State}
use Rattle.alt_shell.specs.Log.{Log}
use Rattle.alt_tables.specs.Stands.{Stands, bounds_of}
use Rattle.alt_tables.specs.declared.tables.Tables.{Tables}
use Rattle.alt_talks.specs.TalkRules.{talk_rules}
use Rattle.alt_talks.specs.TalkStops.{ServedOn, ServedSomeOn, LeavesNow}
use Rattle.alt_talks.specs.Faults.{reach}
use Rattle.alt_talks.specs.Runs.{Counting, LeadsOn, OfStretch, Stretch}
use Rattle.alt_talks.specs.declared.fault.RunFault.{RunFault}
use Rattle.alt_talks.proofs.FileFaults.{reach_both, reach_least}
use Rattle.alt_talks.proofs.Stretching.{stretch_none, stretch_as, stretch_then}
use Rattle.alt_talks.proofs.StretchLeaving.{Meet}
use Rattle.alt_tables.proofs.Left.{stands_left}

-- nothing was done
pub reach_none : (a : DiskState) (tables : Tables) (s : State) (P : State → OfStretch)
    → Stands a tables s → P s a a [] [] → LeadsOn (bounds_of tables).file a a tables P
reach_none a tables s P stands p =
    let n = (bounds_of tables).file in
    record {
      to = s;
      stands = stands;
      calls = stretch_none a {P = Counting n n (P s)} (p, reach_least n []);
    }

-- the same stretch, told otherwise
pub reach_as : (a b : DiskState) (next : ℕ) (tables : Tables) (P Q : State → OfStretch)
    → ((t : State) (es : Log) (ms : List ℕ) → P t a b es ms → Q t a b es ms)
    → LeadsOn next a b tables P → LeadsOn next a b tables Q
reach_as a b next tables P Q law p =
    let k = (bounds_of tables).file in
    record {
      to = p.to;
      stands = p.stands;
      calls = stretch_as a b {P = Counting next k (P p.to)} {Q = Counting next k (Q p.to)}
          (λ es ms within x. (law p.to es ms x.0, x.1)) p.calls;
    }

-- one stretch and then another
pub reach_then : (a b c : DiskState) (next : ℕ) (t1 t2 : Tables) (P : State → OfStretch)
    (Q : State → State → OfStretch) (R : State → OfStretch)
    → ((t u : State) (es fs : Log) (ms ns : List ℕ) → Meet a b c es fs → P t a b es ms
    → Q t u b c fs ns → R u a c (es ++ fs) (ms ++ ns))
    → LeadsOn next a b t1 P
    → ((t : State) → Stands b t1 t → LeadsOn (bounds_of t1).file b c t2 (Q t))
    → LeadsOn next a c t2 R
reach_then a b c next t1 t2 P Q R law p go =
    let q = go p.to p.stands in
    let n = (bounds_of t1).file in
    let k = (bounds_of t2).file in
    record {
      to = q.to;
      stands = q.stands;
      calls = stretch_then a b c {P = Counting next n (P p.to)} {Q = Counting n k (Q p.to q.to)}
          {R = Counting next k (R q.to)}
          (λ es fs ms ns meet x y. (
            law p.to q.to es fs ms ns meet x.0 y.0,
            reach_both k n next ms ns x.1 y.1,
          )) p.calls q.calls;
    }

-- one stretch and then a break, with the next file that may be behind the first
pub reach_break : (a b c : DiskState) (next : ℕ) (t1 : Tables) (P : State → OfStretch)
    (Q : ℕ → State → OfStretch) (R : OfStretch)
    → ((n k : ℕ) (t : State) (es : Log) (ms : List ℕ) → n ≤ k → Q n t b c es ms → Q k t b c es ms)
    → ((t : State) (es fs : Log) (ms ns : List ℕ) → Meet a b c es fs → P t a b es ms
    → Q (reach next ms) t b c fs ns → R a c (es ++ fs) (ms ++ ns))
    → LeadsOn next a b t1 P
    → ((t : State) → Stands b t1 t → Stretch b c (Q (bounds_of t1).file t)) → Stretch a c R
reach_break a b c next t1 P Q R wider law p go =
    let n = (bounds_of t1).file in
    stretch_then a b c {P = Counting next n (P p.to)} {Q = Q n p.to} {R = R}
    (λ es fs ms ns meet x y. law p.to es fs ms ns meet x.0
    (wider n (reach next ms) p.to fs ns x.1 y)) p.calls (go p.to p.stands)

-- connections that were served, whichever state that left: a stop now leaves it
pub run_served : {T : Type 0} (result : Result T RunFault) (a d : DiskState) (tables : Tables)
    (per count next : ℕ) (s : State)
    → MatchResult result (λ _. LeadsOn next a d tables (λ t. ServedOn talk_rules per count s t))
    (λ f. Stretch a d (ServedSomeOn talk_rules per count f next s))
    → MatchResult result
    (λ _. Stretch a d (λ old new es ms. (t : State) × ServedOn talk_rules per count s t old new es ms
    × LeavesNow new t))
    (λ f. Stretch a d (ServedSomeOn talk_rules per count f next s))
run_served (Ok x) a d tables per count next s h =
    stretch_as a d
    {P = Counting next (bounds_of tables).file (ServedOn talk_rules per count s h.to)}
    {Q = λ old new es ms. (t : State) × ServedOn talk_rules per count s t old new es ms × LeavesNow new t}
    (λ es ms within y. (
      h.to,
      y.0,
      λ trusted image is_image. stands_left d tables h.to h.stands image is_image,
    )) h.calls
run_served (Err e) a d tables per count next s h = h
