-- What a stretch of a shell's own calls keeps of the disk, put together from single calls.
use Rattle.std.proofs.Common.{◌≡◌, ◌≤◌, ◌+◌, ℕ, Bool, refl, ap, ◌∙◌, arith, ◌⊎◌, inl, inr}
use Rattle.std.proofs.lemmas.Bool.{cases_lt}
use Rattle.alt_base.specs.Counts.{next_moment}
use Rattle.alt_disk.specs.Disk.{DiskState, Silent, Faulted, now, with_beside}
use Rattle.alt_shell.specs.Calls.{Keeps}
use Rattle.alt_shell.specs.Log.{Log}

-- the next moment is at most one later
pub next_moment-step : (t : ℕ) → next_moment t ≤ t + 1
next_moment-step t = omega arith

-- and not earlier
pub next_moment-later : (t : ℕ) → t ≤ next_moment t
next_moment-later t = omega arith

-- a moment between this one and one that is at most one later is this one or that one
between : (a b t : ℕ) → a ≤ t → t ≤ b → b ≤ a + 1 → (t ≡ a) ⊎ (t ≡ b)
between a b t lo hi step =
    elim (cases_lt a t) [
      | inl above ↦ inr (let e : t ≡ b = omega arith in e)
      | inr below ↦ inl (let e : t ≡ a = omega arith in e)
    ]

-- what stays at two moments, one after the other, stays at each between them
fates_stay : (old new : DiskState) → ((t g : ℕ) → t ≤ old.moment → new.fates t g ≡ old.fates t g)
    → ((g : ℕ) → now new g ≡ now old g) → new.moment ≤ old.moment + 1
    → (t g : ℕ) → old.moment ≤ t → t ≤ new.moment → new.fates t g ≡ now old g
fates_stay old new past same step t g lo hi =
    elim (between old.moment new.moment t lo hi step) [
      | inl e ↦ past t g (let h : t ≤ old.moment = omega (arith, e) in h)
          ∙ ap (λ (u : ℕ). old.fates u g) e
      | inr e ↦ ap (λ (u : ℕ). new.fates u g) e ∙ same g
    ]

-- a silent call on the disk below leaves all of it
pub keeps-silent : (old new : DiskState) (ok : Bool) (before after : Log) → Silent old new ok
    → Keeps (with_beside before old) (with_beside after new)
keeps-silent old new ok before after h =
    let goes = h.tick.call.goes in
    let step : new.moment ≤ old.moment + 1 = let e = h.tick.moment in omega (arith, e) in
    record {
      tells = goes.tells;
      honest = goes.honest;
      anchors = goes.anchors;
      reads = h.tick.reads;
      later = goes.later;
      faults = goes.faults;
      file = h.same.file;
      past = goes.past;
      fates = fates_stay old new goes.past h.same.fates step;
    }

-- so does a fault
pub keeps-faulted : (old new : DiskState) (before after : Log) → Faulted old new
    → Keeps (with_beside before old) (with_beside after new)
keeps-faulted old new before after h =
    let goes = h.goes in
    let step : new.moment ≤ old.moment + 1 = let e = h.moment in omega (arith, e) in
    record {
      tells = goes.tells;
      honest = goes.honest;
      anchors = goes.anchors;
      reads = h.reads;
      later = goes.later;
      faults = goes.faults;
      file = h.same.file;
      past = goes.past;
      fates = fates_stay old new goes.past h.same.fates step;
    }

-- no call keeps all
pub keeps-none : (s : DiskState) → Keeps s s
keeps-none s = record {
  tells = refl;
  honest = refl;
  anchors = refl;
  reads = refl;
  later = omega arith;
  faults = omega arith;
  file = λ g. refl;
  past = λ t g h. refl;
  fates = λ t g lo hi. ap (λ (u : ℕ). s.fates u g) (let e : t ≡ s.moment = omega arith in e);
}

-- two stretches, one after the other
pub keeps-then : (a b c : DiskState) → Keeps a b → Keeps b c → Keeps a c
keeps-then a b c p q = record {
  tells = q.tells ∙ p.tells;
  honest = q.honest ∙ p.honest;
  anchors = q.anchors ∙ p.anchors;
  reads = q.reads ∙ p.reads;
  later = let h = p.later in let k = q.later in omega (arith, h, k);
  faults = let h = p.faults in let k = q.faults in omega (arith, h, k);
  file = λ g. q.file g ∙ p.file g;
  past = λ t g h. q.past t g (let k = p.later in omega (arith, k, h)) ∙ p.past t g h;
  fates = λ t g lo hi. elim (cases_lt b.moment t) [
    | inl above ↦ q.fates t g (omega (arith, above)) hi ∙ p.fates b.moment g p.later (omega arith)
    | inr below ↦ q.past t g below ∙ p.fates t g lo below
  ];
}
