-- A request that was carried out, or has no answer.
use Rattle.std.proofs.Common.{◌≡◌, ◌≤◌, ⊎_elim, inl, inr, ℕ, zero, suc, List, [], ◌∷◌, length, Option, None, Some, option_map, ap, subst, sym, arith}
use Rattle.alt_disk.specs.Disk.{DiskState}
use Rattle.alt_machine.specs.Outcomes.{Outcome, Wants, state_after}
use Rattle.alt_machine.specs.State.{State}
use Rattle.alt_machine.specs.Step.{step}
use Rattle.alt_machine.specs.Wanted.{Lack, lack_among, wanted}
use Rattle.alt_machine.specs.declared.Operation.{Operation}
use Rattle.alt_machine.proofs.Steps.{one_atom}
use Rattle.alt_talks.specs.Stops.{Image, IsAmong, IsUncut, AtEach}
use Rattle.alt_tables.specs.Faults.{BreakOff, IsLastFile, WantFile, told_by_tables}
use Rattle.alt_tables.specs.Images.{Leaves, StandsFor}
use Rattle.alt_tables.specs.Stands.{Stands}
use Rattle.alt_tables.specs.DeclaredTableFault.{TableFault}
use Rattle.alt_tables.specs.DeclaredTableFault.TheVariants.{Spent, Damaged, BadRow, Failed, NoMemory}
use Rattle.alt_faults.specs.Faults.{OnlySpent}
use Rattle.alt_talks.specs.Faults.{IsAnswerFault, told_by_run}
use Rattle.alt_talks.specs.declared.fault.RunFault.{RunFault}
use Rattle.alt_tables.specs.declared.tables.Tables.{Tables}
use Rattle.alt_tables.proofs.Left.{leaves_images}

-- this is the number that it lacks
abbrev Lacks : Wants → State → List State → ℕ → Type 0
Lacks wants s atoms n = option_map (λ (l : Lack). l.number) (lack_among wants s atoms) ≡ Some n

-- what is left of one state at most that is made lasting is that before it or that after it
uncut_some : (image : Image) (s : State) (atoms : List State) → length atoms ≤ 1 → (k : ℕ)
    → StandsFor image (state_after k s atoms) → IsUncut image s atoms
uncut_some image s atoms few zero stands = inl stands
uncut_some image s [] few (suc k) stands = inl stands
uncut_some image s (t ∷ []) few (suc zero) stands = inr stands
uncut_some image s (t ∷ []) few (suc (suc k)) stands = inr stands
uncut_some image s (t ∷ u ∷ ts) few (suc k) stands = absurd (omega (arith, few))

-- what a request leaves at each moment stands for the state before it or for that after it
pub uncut_leaves : (a b : DiskState) (tables : Tables) (s : State) (o : Option Operation)
    (body : List ℕ) (moment : ℕ) → Stands a tables s → Leaves a b s (step s o body moment).atoms
    → AtEach a b (λ _ image. IsUncut image s (step s o body moment).atoms)
uncut_leaves a b tables s o body moment stands leaves trusted =
    let p = leaves_images a b tables s (step s o body moment).atoms stands leaves in
    record {
      later = p.later;
      past = p.past;
      file = λ g outside. absurd (outside tt);
      fates = λ t g outside low high. absurd (outside tt);
      each = λ t image low high is_image.
          let some = p.each t image low high is_image in
          uncut_some image s (step s o body moment).atoms (one_atom s o body moment) some.0 some.1;
    }

-- what is left of any writes is that before one of them or that after the last
pub among_leaves : (a b : DiskState) (tables : Tables) (s : State) (atoms : List State)
    → Stands a tables s → Leaves a b s atoms → AtEach a b (λ _ image. IsAmong image s atoms)
among_leaves a b tables s atoms stands leaves trusted =
    let p = leaves_images a b tables s atoms stands leaves in
    record {
      later = p.later;
      past = p.past;
      file = λ g outside. absurd (outside tt);
      fates = λ t g outside low high. absurd (outside tt);
      each = p.each;
    }

-- what broke off writes is why they aren't made: a lack, or, where there are any and they lack nothing, that of a file
pub caused_of : (file : ℕ) (now : State → Type 0) (wants : Wants) (s : State) (atoms : List State)
    (given : TableFault) (fault : RunFault) → told_by_run fault ≡ told_by_tables given
    → BreakOff file now wants s atoms given
    → IsAnswerFault file (lack_among wants s atoms) atoms fault
caused_of file now wants s atoms (Spent n) fault same h = ⊎_elim
    (λ (lacks : lack_among wants s atoms ≡ Some (record { number = n; before = h.0 })).
    inl (subst (OnlySpent (Lacks wants s atoms)) (sym same)
    (ap (option_map (λ (l : Lack). l.number)) lacks)))
    (λ (last : (h.0 ≡ 0) × (lack_among wants s atoms ≡ None) × WantFile file atoms n).
    inr (last.1, last.2.0, subst (OnlySpent (IsLastFile file)) (sym same) last.2.1)) h.1
caused_of file now wants s atoms (Damaged f at) fault same h = absurd h
caused_of file now wants s atoms (BadRow family key) fault same h = absurd h
caused_of file now wants s atoms Failed fault same h =
    inl (subst (OnlySpent (Lacks wants s atoms)) (sym same) tt)
caused_of file now wants s atoms NoMemory fault same h =
    inl (subst (OnlySpent (Lacks wants s atoms)) (sym same) tt)

-- so it is of a request
pub caused : (file : ℕ) (now : State → Type 0) (s : State) (outcome : Outcome) (given : TableFault)
    (fault : RunFault) → told_by_run fault ≡ told_by_tables given
    → BreakOff file now outcome.wants s outcome.atoms given
    → IsAnswerFault file (wanted s outcome) outcome.atoms fault
caused file now s outcome given fault same h =
    caused_of file now outcome.wants s outcome.atoms given fault same h
