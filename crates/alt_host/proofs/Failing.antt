-- A call of the shell that failed: outside a talk and in one.
use Rattle.std.proofs.Common.{◌≡◌, ◌≤◌, ℕ, Bool, true, false, refl, arith}
use Rattle.alt_base.specs.Counts.{Rose, next_moment}
use Rattle.alt_host.specs.Host.{shell_by_counts}
use Rattle.alt_shell.specs.Calls.{Keeps, ShellCall}

keeps : (m n f g : ℕ) (b c : Bool) (x y t u s v : ℕ) → m ≤ n → f ≤ g
    → Keeps (shell_by_counts m f b x t s) (shell_by_counts n g c y u v)
keeps m n f g b c x y t u s v later faults = record {
  tells = refl;
  honest = refl;
  anchors = refl;
  reads = refl;
  later = later;
  faults = faults;
  file = λ h. refl;
  past = λ i h l. refl;
  fates = λ i h l k. refl;
}

not_true : {A : Type 0} → false ≡ true → A
not_true e = absurd (let f : ⊥ = cc in f)

not_false : {A : Type 0} → true ≡ false → A
not_false e = absurd (let f : ⊥ = cc in f)

-- outside a talk
pub failed_outside : (m n f g x t s : ℕ) → n ≡ next_moment m → f ≤ g → Rose f g
    → ShellCall (shell_by_counts m f false x t s) (shell_by_counts n g false x t s) false
failed_outside m n f g x t s moment later rose = record {
  keeps = keeps m n f g false false x x t t s s (omega (arith, moment)) later;
  moment = moment;
  cause = λ _. rose;
  well = λ e. not_true e;
  inside = λ e. not_true e;
  outside = λ _. refl;
  later = omega arith;
  last = λ _. refl;
  silent = λ _ _. refl;
}

-- in a talk
pub failed_inside : (m n f x y t u s v : ℕ) → n ≡ next_moment m → x ≤ y → Rose x y
    → ShellCall (shell_by_counts m f true x t s) (shell_by_counts n f true y u v) false
failed_inside m n f x y t u s v moment later rose = record {
  keeps = keeps m n f f true true x y t u s v (omega (arith, moment)) (omega arith);
  moment = moment;
  cause = λ _. rose;
  well = λ e. not_true e;
  inside = λ _. refl;
  outside = λ e. not_false e;
  later = later;
  last = λ _. refl;
  silent = λ _ e. not_false e;
}
