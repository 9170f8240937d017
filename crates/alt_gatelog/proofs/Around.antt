-- What a stop leaves around a write and its sync.
use Rattle.std.proofs.Common.{◌≡◌, ◌⊎◌, ◌<◌, ◌≤◌, ◌+◌, ◌-◌, ◌^◌, arith, sym, ⊎_elim, inl, inr, length, ℕ, List, Result, Ok, Err, OnOk, is_ok, Bool, true, false, refl, ◌∙◌, subst}
use Rattle.alt_disk.specs.Fates.{Fates, Fits, wrote}
use Rattle.std.proofs.lemmas.Bool.{false≢true}
use Rattle.alt_base.specs.Counts.{next_moment}
use Rattle.alt_disk.specs.Disk.{DiskState, Tick, Call, Written, Synced, now, contents, overwritten}
use Rattle.alt_disk.proofs.Runs.{RunSoFar, begun, after_call, after_sync}
use Rattle.alt_gatelog.specs.InHand.{AroundWrite, Lasts}

module _ (s0 : DiskState) (f at : ℕ) (bytes : List ℕ) where
  -- after the write
  pub around_write : (s1 : DiskState) (ok : Bool) → Call s0 s1 ok → Written s0 s1 f at bytes ok
      → RunSoFar s0 s1 f (AroundWrite s0 f at (length bytes))
  around_write s1 ok call written = after_call s0 s0 s1 f (AroundWrite s0 f at (length bytes)) ok
      (begun s0 f (AroundWrite s0 f at (length bytes)) (λ left fits. inl fits)) call written.others
      (λ left fits. ⊎_elim
      (λ (done : now s1 f ≡ wrote at (length bytes) (now s0 f)). inr
      (subst (λ (s : Fates). Fits s left) done fits))
      (λ (not_done : (ok ≡ false) × (now s1 f ≡ now s0 f)). inl
      (subst (λ (s : Fates). Fits s left) not_done.1 fits))
      written.fates)

  -- and the sync
  pub around_sync : (s1 s2 : DiskState) (ok : Bool) → Call s0 s1 true
      → Written s0 s1 f at bytes true → Call s1 s2 ok → Synced s1 s2 f ok
      → RunSoFar s0 s2 f (AroundWrite s0 f at (length bytes))
  around_sync s1 s2 ok call written then synced =
      after_sync s0 s1 s2 f (AroundWrite s0 f at (length bytes)) ok
      (around_write s1 true call written) then synced (λ left p. p)

  -- after both the bytes last
  pub lasts_after : (s1 s2 : DiskState) → Written s0 s1 f at bytes true → Synced s1 s2 f true
      → s2.file f ≡ s1.file f → Lasts s2 f (overwritten (contents s0 f) at bytes)
  lasts_after s1 s2 written synced same = record {
    file = same ∙ written.file refl;
    kept = synced.there (overwritten (contents s0 f) at bytes) refl (written.file refl);
  }

-- what holds where the answer is Ok
pub when_ok : {T E X : Type 0} (r : Result T E) → (is_ok r ≡ true → X) → OnOk r X
when_ok (Ok x) leads = leads refl
when_ok (Err e) leads = tt

-- a moment is below the last or is it
below_or_last : (m : ℕ) → (m < 2 ^ 64 - 1) ⊎ (2 ^ 64 - 1 ≤ m)
below_or_last m = grind arith

-- below the last moment the next one is one more
next_is : (m n : ℕ) → m < 2 ^ 64 - 1 → n ≡ next_moment m → n ≡ m + 1
next_is m n below is = grind arith

-- a call that succeeded took one moment
pub tick_one : (a b : DiskState) → Tick a b true → b.moment ≡ a.moment + 1
tick_one a b tick = ⊎_elim
    (λ (below : a.moment < 2 ^ 64 - 1). next_is a.moment b.moment below tick.moment)
    (λ (last : 2 ^ 64 - 1 ≤ a.moment). absurd (false≢true (sym (tick.ended last).0)))
    (below_or_last a.moment)

-- and two took two
pub tick_two : (a b c : DiskState) → Tick a b true → Tick b c true → c.moment ≡ a.moment + 2
tick_two a b c first then = let one = tick_one a b first in let two = tick_one b c then in
    omega (arith, one, two)
