-- How a run of calls begins, goes on, and is seen as one of several files.
use Rattle.std.proofs.Common.{◌&&◌, IsTrue, ◌≡◌, ◌≢◌, ◌⊎◌, ◌≤◌, ⊎_elim, ℕ, Bool, List, Option, refl, sym, ◌∙◌, ap, subst, arith}
use Rattle.alt_base.proofs.Numbers.{at_or_before, one_up_to_other}
use Rattle.alt_disk.specs.Fates.{Fates, Fits}
use Rattle.alt_disk.specs.Disk.{DiskState, Goes, Call, Others, Same, Synced, IsTrusted, now}
use Rattle.alt_disk.specs.Runs.{Run, Spans, Quiet}

-- A run so far, and what a stop now leaves of its file.
pub record RunSoFar (old new : DiskState) (f : ℕ) (P : ℕ → Option (List ℕ) → Type 0) : Type 0 where
  pub run : Run old new f P
  pub here : (left : Option (List ℕ)) → Fits (now new f) left → P new.moment left

-- calls keep whether the contents can be relied on
pub trusted_on : (a b : DiskState) → Goes a b → IsTrusted a → IsTrusted b
trusted_on a b goes trusted = subst (λ (v : Bool). IsTrue v)
    (sym (λ i. goes.tells i && goes.honest i)) trusted

-- in both directions
pub trusted_back : (a b : DiskState) → Goes a b → IsTrusted b → IsTrusted a
trusted_back a b goes trusted = subst (λ (v : Bool). IsTrue v)
    (λ i. goes.tells i && goes.honest i) trusted

-- a disk that can be relied on tells its contents
pub tells_of : (s : DiskState) → IsTrusted s → IsTrue s.tells
tells_of s trusted = grind (arith, trusted)

-- before the first call
pub started : (s : DiskState) (f : ℕ) (P : ℕ → Option (List ℕ) → Type 0)
    → ((left : Option (List ℕ)) → Fits (now s f) left → P s.moment left) → Run s s f P
started s f P here = record {
  later = omega arith;
  past = λ t g le. refl;
  file = λ g ne. refl;
  fates = λ t g ne low high. let same : t ≡ s.moment = omega (arith, low, high) in
      ap (λ (m : ℕ). s.fates m g) same;
  each = λ t left low high fits.
      let same : t ≡ s.moment = omega (arith, low, high) in
      subst (λ (m : ℕ). P m left) (sym same) (here left
      (subst (λ (m : ℕ). Fits (s.fates m f) left) same fits));
}

-- one call more
pub run_on : (a b c : DiskState) (f : ℕ) (P : ℕ → Option (List ℕ) → Type 0) (ok : Bool)
    → Run a b f P → Call b c ok → Others b c f
    → ((left : Option (List ℕ)) → Fits (now c f) left → P c.moment left) → Run a c f P
run_on a b c f P ok so_far call others here = record {
  later = omega (arith, so_far.later, call.goes.later);
  past = λ t g le. call.goes.past t g (omega (arith, le, so_far.later)) ∙ so_far.past t g le;
  file = λ g ne. others.file g ne ∙ so_far.file g ne;
  fates = λ t g ne low high. ⊎_elim
      (λ (before : t ≤ b.moment). call.goes.past t g before ∙ so_far.fates t g ne low before)
      (λ (at_end : t ≡ c.moment). ap (λ (m : ℕ). c.fates m g) at_end ∙ others.fates g ne
      ∙ so_far.fates b.moment g ne so_far.later (omega arith))
      (at_or_before t b.moment c.moment high call.step call.goes.later);
  each = λ t left low high fits. ⊎_elim
      (λ (before : t ≤ b.moment). so_far.each t left low before
      (subst (λ (s : Fates). Fits s left) (call.goes.past t f before) fits))
      (λ (at_end : t ≡ c.moment). subst (λ (m : ℕ). P m left) (sym at_end)
      (here left (subst (λ (m : ℕ). Fits (c.fates m f) left) at_end fits)))
      (at_or_before t b.moment c.moment high call.step call.goes.later);
}

-- a run that begins
pub begun : (s : DiskState) (f : ℕ) (P : ℕ → Option (List ℕ) → Type 0)
    → ((left : Option (List ℕ)) → Fits (now s f) left → P s.moment left) → RunSoFar s s f P
begun s f P here = record { run = started s f P here; here = here }

-- and goes on by a call
pub after_call : (a b c : DiskState) (f : ℕ) (P : ℕ → Option (List ℕ) → Type 0) (ok : Bool)
    → RunSoFar a b f P → Call b c ok → Others b c f
    → ((left : Option (List ℕ)) → Fits (now c f) left → P c.moment left) → RunSoFar a c f P
after_call a b c f P ok so_far call others here =
    record { run = run_on a b c f P ok so_far.run call others here; here = here }

-- a sync keeps whatever each stop leaves
pub after_sync : (a b c : DiskState) (f : ℕ) (P : ℕ → Option (List ℕ) → Type 0) (ok : Bool)
    → RunSoFar a b f P → Call b c ok → Synced b c f ok
    → ((left : Option (List ℕ)) → P b.moment left → P c.moment left) → RunSoFar a c f P
after_sync a b c f P ok so_far call synced stays =
    after_call a b c f P ok so_far call synced.others
    (λ left fits. stays left (so_far.here left (synced.narrows left fits)))

-- one run after another on the same file
pub run_then : (a b c : DiskState) (f : ℕ) (P Q : ℕ → Option (List ℕ) → Type 0) → Run a b f P
    → Run b c f Q → ((t : ℕ) (left : Option (List ℕ)) → Q t left → P t left) → Run a c f P
run_then a b c f P Q first then leads = record {
  later = omega (arith, first.later, then.later);
  past = λ t g le. then.past t g (omega (arith, le, first.later)) ∙ first.past t g le;
  file = λ g other. then.file g other ∙ first.file g other;
  fates = λ t g other low high. ⊎_elim
      (λ (before : t ≤ b.moment). then.past t g before ∙ first.fates t g other low before)
      (λ (from : b.moment ≤ t). then.fates t g other from high
      ∙ first.fates b.moment g other first.later (omega arith))
      (one_up_to_other t b.moment);
  each = λ t left low high fits. ⊎_elim
      (λ (before : t ≤ b.moment). first.each t left low before
      (subst (λ (s : Fates). Fits s left) (then.past t f before) fits))
      (λ (from : b.moment ≤ t). leads t left (then.each t left from high fits))
      (one_up_to_other t b.moment);
}

-- what a run promises may be weakened
pub run_weaker : (a b : DiskState) (f : ℕ) (P Q : ℕ → Option (List ℕ) → Type 0) → Run a b f Q
    → ((t : ℕ) (left : Option (List ℕ)) → Q t left → P t left) → Run a b f P
run_weaker a b f P Q run leads = record {
  later = run.later;
  past = run.past;
  file = run.file;
  fates = run.fates;
  each = λ t left low high fits. leads t left (run.each t left low high fits);
}

-- a run on one file, as whole images
pub run_spans : (a b : DiskState) (f : ℕ) (Q : ℕ → Option (List ℕ) → Type 0) (touched : ℕ → Type 0)
    (P : ℕ → (ℕ → Option (List ℕ)) → Type 0) → Run a b f Q → touched f
    → ((t : ℕ) (image : ℕ → Option (List ℕ)) → Q t (image f)
    → ((g : ℕ) → g ≢ f → Fits (now a g) (image g)) → P t image) → Spans a b touched P
run_spans a b f Q touched P run is_touched leads = record {
  later = run.later;
  past = run.past;
  file = λ g outside. run.file g (λ same. outside (subst touched (sym same) is_touched));
  fates = λ t g outside low high. run.fates t g
      (λ same. outside (subst touched (sym same) is_touched)) low high;
  each = λ t image low high is_image. leads t image (run.each t (image f) low high (is_image f))
      (λ g other. subst (λ (s : Fates). Fits s (image g)) (run.fates t g other low high)
      (is_image g));
}

-- one after the other
pub spans_on : (a b c : DiskState) (touched : ℕ → Type 0) (P : ℕ → (ℕ → Option (List ℕ)) → Type 0)
    → Spans a b touched P → Spans b c touched P → Spans a c touched P
spans_on a b c touched P first then = record {
  later = omega (arith, first.later, then.later);
  past = λ t g le. then.past t g (omega (arith, le, first.later)) ∙ first.past t g le;
  file = λ g outside. then.file g outside ∙ first.file g outside;
  fates = λ t g outside low high. ⊎_elim
      (λ (before : t ≤ b.moment). then.past t g before ∙ first.fates t g outside low before)
      (λ (from : b.moment ≤ t). then.fates t g outside from high
      ∙ first.fates b.moment g outside first.later (omega arith))
      (one_up_to_other t b.moment);
  each = λ t image low high is_image. ⊎_elim
      (λ (before : t ≤ b.moment). first.each t image low before
      (λ f. subst (λ (s : Fates). Fits s (image f)) (then.past t f before) (is_image f)))
      (λ (from : b.moment ≤ t). then.each t image from high is_image)
      (one_up_to_other t b.moment);
}

-- what calls promise of images may be weakened, and the files that they may touch added to
pub spans_weaker : (a b : DiskState) (touched more : ℕ → Type 0)
    (P Q : ℕ → (ℕ → Option (List ℕ)) → Type 0) → Spans a b touched Q
    → ((g : ℕ) → touched g → more g)
    → ((t : ℕ) (image : ℕ → Option (List ℕ)) → Q t image → P t image) → Spans a b more P
spans_weaker a b touched more P Q spans wider leads = record {
  later = spans.later;
  past = spans.past;
  file = λ g outside. spans.file g (λ is. outside (wider g is));
  fates = λ t g outside low high. spans.fates t g (λ is. outside (wider g is)) low high;
  each = λ t image low high is_image. leads t image (spans.each t image low high is_image);
}

-- no call leaves every file
pub quiet_start : (s : DiskState) → Quiet s s
quiet_start s = record {
  later = omega arith;
  past = λ t g le. refl;
  file = λ g. refl;
  fates = λ t g low high. let same : t ≡ s.moment = omega (arith, low, high) in
      ap (λ (m : ℕ). s.fates m g) same;
}

-- nor does one more that leaves them
pub quiet_on : (a b c : DiskState) (ok : Bool) → Quiet a b → Call b c ok → Same b c → Quiet a c
quiet_on a b c ok so_far call same = record {
  later = omega (arith, so_far.later, call.goes.later);
  past = λ t g le. call.goes.past t g (omega (arith, le, so_far.later)) ∙ so_far.past t g le;
  file = λ g. same.file g ∙ so_far.file g;
  fates = λ t g low high. ⊎_elim
      (λ (before : t ≤ b.moment). call.goes.past t g before ∙ so_far.fates t g low before)
      (λ (at_end : t ≡ c.moment). ap (λ (m : ℕ). c.fates m g) at_end ∙ same.fates g
      ∙ so_far.fates b.moment g so_far.later (omega arith))
      (at_or_before t b.moment c.moment high call.step call.goes.later);
}

-- quiet calls after quiet ones
pub quiet_then : (a b c : DiskState) → Quiet a b → Quiet b c → Quiet a c
quiet_then a b c first then = record {
  later = omega (arith, first.later, then.later);
  past = λ t g le. then.past t g (omega (arith, le, first.later)) ∙ first.past t g le;
  file = λ g. then.file g ∙ first.file g;
  fates = λ t g low high. ⊎_elim
      (λ (before : t ≤ b.moment). then.past t g before ∙ first.fates t g low before)
      (λ (from : b.moment ≤ t). then.fates t g from high
      ∙ first.fates b.moment g first.later (omega arith))
      (one_up_to_other t b.moment);
}

-- after quiet calls all files stand as before
pub quiet_same : (a b : DiskState) → Quiet a b → Same a b
quiet_same a b quiet = record {
  file = quiet.file;
  fates =
      λ g. quiet.fates b.moment g quiet.later (omega arith);
}

-- quiet calls seen as calls that touch nothing: each image on the way is one from before
pub quiet_spans : (a b : DiskState) (touched : ℕ → Type 0) (P : ℕ → (ℕ → Option (List ℕ)) → Type 0)
    → Quiet a b
    → ((t : ℕ) (image : ℕ → Option (List ℕ)) → ((f : ℕ) → Fits (now a f) (image f)) → P t image)
    → Spans a b touched P
quiet_spans a b touched P quiet leads = record {
  later = quiet.later;
  past = quiet.past;
  file = λ g outside. quiet.file g;
  fates = λ t g outside low high. quiet.fates t g low high;
  each = λ t image low high is_image. leads t image
      (λ f. subst (λ (s : Fates). Fits s (image f)) (quiet.fates t f low high) (is_image f));
}
