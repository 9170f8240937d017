-- What a stop leaves while files are synced.
use Rattle.std.proofs.Common.{◌≡◌, ◌≢◌, ◌⊎◌, ◌≤◌, ◌<◌, ◌+◌, ◌==◌, ◌∷◌, ◌++◌, ⊎_elim, ℕ, Bool, true, false, List, [], length, take, get_or, Option, Some, refl, sym, ap, subst, ◌∙◌, arith}
use Rattle.std.proofs.lemmas.Bool.Decides.{nat_tests}
use Rattle.std.proofs.lemmas.List.{take_more, take_all}
use Rattle.std.proofs.lemmas.Bool.{cases_eq}
use Rattle.std.specs.Prelude.{is_some, ◌||◌}
use Rattle.std.specs.List.{list_any}
use Rattle.alt_base.proofs.Numbers.{at_or_before, one_up_to_other}
use Rattle.alt_disk.specs.Fates.{Fates, Fits, synced}
use Rattle.alt_disk.specs.Disk.{DiskState, Call, Synced, IsNames, now}
use Rattle.alt_disk.specs.Runs.{Quiet}
use Rattle.alt_hand.specs.Syncing.{Narrows, AreSynced, AllSynced}

-- before the first call
pub narrows_start : (s : DiskState) → Narrows s s
narrows_start s = record {
  later = omega arith;
  past = λ t g le. refl;
  each = λ t g left low high fits. let same : t ≡ s.moment = omega (arith, low, high) in
      subst (λ (m : ℕ). Fits (s.fates m g) left) same fits;
}

-- a call more
narrows_call : (a b c : DiskState) (ok : Bool) → Narrows a b → Call b c ok
    → ((g : ℕ) (left : Option (List ℕ)) → Fits (now c g) left → Fits (now b g) left) → Narrows a c
narrows_call a b c ok so_far call narrow = record {
  later = omega (arith, so_far.later, call.goes.later);
  past = λ t g le. call.goes.past t g (omega (arith, le, so_far.later)) ∙ so_far.past t g le;
  each = λ t g left low high fits. ⊎_elim
      (λ (before : t ≤ b.moment). so_far.each t g left low before
      (subst (λ (s : Fates). Fits s left) (call.goes.past t g before) fits))
      (λ (at_end : t ≡ c.moment). so_far.each b.moment g left so_far.later (omega arith)
      (narrow g left (subst (λ (m : ℕ). Fits (c.fates m g) left) at_end fits)))
      (at_or_before t b.moment c.moment high call.step call.goes.later);
}

-- a sync leaves only what might have been left before
pub narrows_sync : (a b c : DiskState) (f : ℕ) (ok : Bool) → Narrows a b → Call b c ok
    → Synced b c f ok → Narrows a c
narrows_sync a b c f ok so_far call sync = narrows_call a b c ok so_far call (λ g left fits. ⊎_elim
    (λ (same : g ≡ f). subst (λ (x : ℕ). Fits (now b x) left) (sym same)
    (sync.narrows left (subst (λ (x : ℕ). Fits (now c x) left) same fits)))
    (λ (other : g ≢ f). subst (λ (s : Fates). Fits s left) (sync.others.fates g other) fits)
    (cases_eq g f))

-- calls that leave every file
pub narrows_quiet : (a b c : DiskState) → Narrows a b → Quiet b c → Narrows a c
narrows_quiet a b c so_far quiet = record {
  later = omega (arith, so_far.later, quiet.later);
  past = λ t g le. quiet.past t g (omega (arith, le, so_far.later)) ∙ so_far.past t g le;
  each = λ t g left low high fits. ⊎_elim
      (λ (before : t ≤ b.moment). so_far.each t g left low before
      (subst (λ (s : Fates). Fits s left) (quiet.past t g before) fits))
      (λ (from : b.moment ≤ t). so_far.each b.moment g left so_far.later (omega arith)
      (subst (λ (s : Fates). Fits s left) (quiet.fates t g from high) fits))
      (one_up_to_other t b.moment);
}

-- calls after calls that narrow
pub narrows_then : (a b c : DiskState) → Narrows a b → Narrows b c → Narrows a c
narrows_then a b c first then = record {
  later = omega (arith, first.later, then.later);
  past = λ t g le. then.past t g (omega (arith, le, first.later)) ∙ first.past t g le;
  each = λ t g left low high fits. ⊎_elim
      (λ (before : t ≤ b.moment). first.each t g left low before
      (subst (λ (s : Fates). Fits s left) (then.past t g before) fits))
      (λ (from : b.moment ≤ t). first.each b.moment g left first.later (omega arith)
      (then.each t g left from high fits))
      (one_up_to_other t b.moment);
}

-- a number that isn't the last of a list is one of those before it
any_push : (p : ℕ → Bool) (xs : List ℕ) (x : ℕ) → p x ≡ false → list_any p (xs ++ x ∷ []) ≡ true
    → list_any p xs ≡ true
any_push p [] x other listed = sym (ap (λ b. b || false) other) ∙ listed
any_push p (y ∷ ys) x other listed = by (p y) (any_push p ys x other) listed
  where
    by : (b : Bool) → (list_any p (ys ++ x ∷ []) ≡ true → list_any p ys ≡ true)
        → (b || list_any p (ys ++ x ∷ [])) ≡ true → (b || list_any p ys) ≡ true
    by true rest listed = refl
    by false rest listed = rest listed

-- no file was synced yet
pub synced_none : (s : DiskState) (list : List ℕ) → AreSynced s (take 0 list)
synced_none s list f bytes listed there = let n : false ≡ true = listed in cc n

-- one file more
pub synced_more : (b c : DiskState) (list : List ℕ) (i x : ℕ) → i < length list
    → x ≡ get_or list i 0 → AreSynced b (take i list) → ((f : ℕ) → c.file f ≡ b.file f)
    → Synced b c x true → AreSynced c (take (i + 1) list)
synced_more b c list i x within at before same sync f bytes listed there = ⊎_elim
    (λ (is : f ≡ x). subst (λ (g : ℕ). now c g ≡ synced bytes) (sym is)
    (sync.there bytes refl (subst (λ (g : ℕ). b.file g ≡ Some bytes) is (sym (same f) ∙ there))))
    (λ (other : f ≢ x).
    let apart : (f == x) ≡ false = grind (arith, nat_tests, other) in
    sync.others.fates f other ∙ before f bytes
    (any_push (λ g. f == g) (take i list) x apart
    (sym (ap (list_any (λ g. f == g)) (take_more list i 0 within
    ∙ ap (λ (y : ℕ). take i list ++ y ∷ []) (sym at))) ∙ listed))
    (sym (same f) ∙ there))
    (cases_eq f x)

-- all of them
pub synced_all : (s : DiskState) (list : List ℕ) (i : ℕ) → length list ≤ i
    → AreSynced s (take i list) → AreSynced s list
synced_all s list i past synced_so = subst (AreSynced s) (take_all i list past) synced_so

-- the files that are there are those of the list of names
pub synced_named : (s : DiskState) (list : List ℕ) (file : ℕ → Option (List ℕ)) → IsNames list file
    → ((f : ℕ) → s.file f ≡ file f) → AreSynced s list → AllSynced s
synced_named s list file names same listed f bytes there =
    listed f bytes (names.exact f ∙ ap is_some (sym (same f) ∙ there)) there

-- files that were synced stay so while calls leave every file
pub synced_quiet : (a b : DiskState) → AllSynced a → Quiet a b → AllSynced b
synced_quiet a b all quiet f bytes there = quiet.fates b.moment f quiet.later (omega arith)
    ∙ all f bytes (sym (quiet.file f) ∙ there)
