-- Faults of work that wants a file.
use Rattle.std.proofs.Common.{◌≡◌, ◌≤◌, ◌⊎◌, ◌+◌, ◌-◌, ◌^◌, ◌∷◌, ◌++◌, ℕ, List, length, Option, None, inl, inr, sym, subst, arith, length-append}
use Rattle.alt_faults.specs.Faults.{Damage, OnlySpent}
use Rattle.alt_faults.proofs.Telling.{tells-more}
use Rattle.alt_machine.specs.State.{State}
use Rattle.alt_machine.specs.Wanted.{Lack}
use Rattle.alt_tables.specs.FilesLeft.{most_files}
use Rattle.alt_tables.specs.Faults.{IsWorkFault as IsTableFault, told_by_tables}
use Rattle.alt_tables.specs.DeclaredTableFault.{TableFault}
use Rattle.alt_talks.specs.Own.{BetweenNot, Own}
use Rattle.alt_talks.specs.Faults.{IsAnswerFault, IsCausedBy, IsFileFault, reach, told_by_run}
use Rattle.alt_talks.specs.declared.fault.RunFault.{RunFault}

-- the fault of the tables, as one of the run
pub file_told : (given : TableFault) (fault : RunFault) (n : ℕ)
    → told_by_run fault ≡ told_by_tables given → IsTableFault n given → IsFileFault n fault
file_told given fault n same h =
    subst (OnlySpent (λ k. (k ≡ 2 ^ 32 - 1) × (2 ^ 32 ≤ n))) (sym same) h

-- more numbers reach it too
pub file_more : (fault : RunFault) (m n : ℕ) → m ≤ n → IsFileFault m fault → IsFileFault n fault
file_more fault m n le h = tells-more (λ k. (k ≡ 2 ^ 32 - 1) × (2 ^ 32 ≤ m))
    (λ k. (k ≡ 2 ^ 32 - 1) × (2 ^ 32 ≤ n)) (λ (d : Damage). ⊥) (λ (d : Damage). ⊥)
    (λ k x. (x.0, let low = x.1 in omega (arith, low, le))) (λ d x. x) (told_by_run fault) h

-- Why a turn has no answer that makes these writes: for what it lacks with what follows it, or, where it lacks nothing alone, for that file.
abbrev pub IsTurnFault : ℕ → Option Lack → Option Lack → List State → RunFault → Type 0
IsTurnFault file alone lack atoms fault =
    IsCausedBy lack fault ⊎ ((alone ≡ None) × (1 ≤ length atoms) × IsFileFault file fault)

-- so has a request no answer
pub answer_more : (m n : ℕ) (lack : Option Lack) (atoms : List State) (fault : RunFault) → m ≤ n
    → IsAnswerFault m lack atoms fault → IsAnswerFault n lack atoms fault
answer_more m n lack atoms fault le (inl h) = inl h
answer_more m n lack atoms fault le (inr h) = inr (h.0, h.1, file_more fault m n le h.2)

-- so what follows a connection breaks off for
pub between_more : (m n : ℕ) (own : Own) (fault : RunFault) → m ≤ n → BetweenNot m own fault
    → BetweenNot n own fault
between_more m n own fault le (inl h) = inl h
between_more m n own fault le (inr h) = inr (h.0, file_more fault m n le h.1)

-- moments and then more moments
pub reach_then : (next : ℕ) (ms ns : List ℕ) → reach (reach next ms) ns ≤ reach next (ms ++ ns)
reach_then next ms ns = let l = length-append ms ns in omega (arith, l)

-- one is enough
pub reach_one : (next m : ℕ) (ns : List ℕ) → next + most_files ≤ reach next (m ∷ ns)
reach_one next m ns = omega arith

-- none is too
pub reach_least : (next : ℕ) (ms : List ℕ) → next ≤ reach next ms
reach_least next ms = omega arith

-- moments, and then more from where those led
pub reach_both : (k n next : ℕ) (ms ns : List ℕ) → n ≤ reach next ms → k ≤ reach n ns
    → k ≤ reach next (ms ++ ns)
reach_both k n next ms ns low high = let l = length-append ms ns in omega (arith, l, low, high)

-- what comes before changes nothing of it
pub reach_behind : (n next : ℕ) (ms ns : List ℕ) → n ≤ reach next ns → n ≤ reach next (ms ++ ns)
reach_behind n next ms ns le = let l = length-append ms ns in omega (arith, l, le)

-- from a greater number on as many reach further
pub reach_wider : (m n : ℕ) (ms : List ℕ) → m ≤ n → reach m ms ≤ reach n ms
reach_wider m n ms le = omega (arith, le)
