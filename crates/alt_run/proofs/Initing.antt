-- A store that was made, and one that was there.
use Rattle.std.proofs.Common.{◌≡◌, ◌≢◌, ◌≤◌, ℕ, List, [], ◌∷◌, Option, None, IsTrue, true, codes, refl, sym, ap, subst, ◌∙◌, arith, ◌⊎◌, inl, inr, ◌++◌, take, drop, take-append-drop, append-nil, Bool, false}
use Rattle.alt_disk.specs.Fates.{Fates, Fits}
use Rattle.alt_disk.specs.Disk.{DiskState, Goes, IsImage, IsTrusted}
use Rattle.alt_disk.specs.Runs.{Quiet}
use Rattle.alt_disk.proofs.Runs.{trusted_on}
use Rattle.alt_layout.specs.Files.{IsLayout}
use Rattle.alt_layout.specs.Layout.{no_rows}
use Rattle.alt_tables.specs.HandMaking.{NamesFirst}
use Rattle.alt_tables.specs.HandDeclaredMakeFault.{MakeFault}
use Rattle.alt_tables.specs.HandDeclaredMakeFault.TheVariants.{NotEmpty}
use Rattle.alt_shell.specs.Calls.{Adds, Aside, ShellCall, Untold, RoseBy}
use Rattle.alt_shell.specs.Log.{Log, Grows, moments_of, entry, told_count, said, say_failed, says_failed, says_missed, talks}
use Rattle.alt_shell.proofs.Telling.{Grows-then, Grows-nil, Tells-nil}
use Rattle.alt_run.specs.Endings.{MakesStore, IsFirstFileThere, SaysNothing, SaysSome}
use Rattle.alt_talks.specs.Runs.{Stretch}
use Rattle.alt_talks.proofs.Stopping.{trusts-kept, within-wider}
use Rattle.alt_base.specs.Counts.{Rose}
use Rattle.alt_tables.proofs.Starting.{image_made}

pub makes : (a b c : DiskState) → Goes a b → ShellCall b c true → Adds b c (said (codes "ok\n"))
    → moments_of c.beside ≡ moments_of b.beside
    → (IsTrue a.tells → (f : ℕ) → a.file f ≡ None)
    → (IsTrusted a → (image : ℕ → Option (List ℕ)) → IsImage b b.moment image
    → IsLayout image no_rows)
    → Stretch a c MakesStore
makes a b c goes call added m none images = record {
  entries = entry c.moment (told_count b.beside) (said (codes "ok\n")) ∷ [];
  told = [];
  grows = Grows-then a.beside b.beside c.beside []
      (entry c.moment (told_count b.beside) (said (codes "ok\n")) ∷ [])
      (subst (λ (log : Log). Grows a.beside log []) (sym goes.beside) (Grows-nil a.beside)) added;
  tells = Tells-nil (moments_of a.beside) (moments_of c.beside) (m ∙ ap moments_of goes.beside);
  within = within-wider a.moment b.moment c.moment c.moment
      (entry c.moment (told_count b.beside) (said (codes "ok\n")) ∷ [])
      (call.keeps.later, omega arith, tt) goes.later (omega arith);
  later = let k = call.keeps.later in omega (arith, k, goes.later);
  trusts = λ trusted. trusts-kept b c call.keeps (trusted_on a b goes trusted);
  holds = record {
    said = refl;
    untaken = refl;
    inside = refl;
    unasked = refl;
    none = none;
    stands = λ trusted image is_image. image_made image (images trusted image
        (λ f. subst (λ (x : Fates). Fits x (image f))
        (call.keeps.fates c.moment f call.keeps.later (omega arith)) (is_image f)));
  };
}

-- a say that failed outside a talk is a failure of the device
pub rose_say : (a b c : DiskState) → talks a.beside ≡ false → Goes a b → ShellCall b c false
    → Rose a.faults c.faults
rose_say a b c quiet goes call =
    let rose : Rose b.faults c.faults =
    subst (λ (v : Bool). RoseBy v b c) (ap talks goes.beside ∙ quiet) (call.cause refl) in
    omega (arith, rose, goes.faults)

-- files that calls left are left behind a note
pub quiet_behind : (a b c : DiskState) → Aside b c → Quiet a b → Quiet a c
quiet_behind a b c aside p = record {
  later = let k = aside.keeps.later in omega (arith, p.later, k);
  past = λ t g le. aside.keeps.past t g (omega (arith, le, p.later)) ∙ p.past t g le;
  file = λ g. aside.keeps.file g ∙ p.file g;
  fates = λ t g low high.
      let m = aside.moment in
      let before : t ≤ b.moment = omega (arith, high, m) in
      aside.keeps.past t g before ∙ p.fates t g low before;
}

-- calls of a disk alone say nothing and don't ask the clock
pub silent_by : (a b : DiskState) → Goes a b → SaysNothing a b
silent_by a b goes = record {
  silent = subst (λ (log : Log). Grows a.beside log []) (sym goes.beside) (Grows-nil a.beside);
  unasked = ap moments_of goes.beside;
}

-- so nothing of the text was said
pub none_said : (a b : DiskState) → Goes a b → SaysSome a b
none_said a b goes = let silent = silent_by a b goes in record {
  entries = [];
  grows = silent.silent;
  said = (codes "ok\n", refl);
  untaken = refl;
  inside = refl;
  unasked = silent.unasked;
  stands = λ more. absurd (omega (arith, more));
}

-- behind them the text was said in part
pub some_said : (a b c : DiskState) → Goes a b → ShellCall b c false
    → moments_of c.beside ≡ moments_of b.beside
    → (IsTrusted a → (image : ℕ → Option (List ℕ)) → IsImage b b.moment image
    → IsLayout image no_rows)
    → (((n : ℕ) × Adds b c (say_failed (take n (codes "ok\n"))))
    ⊎ Untold b c says_failed says_missed) → SaysSome a c
some_said a b c goes call m images (inl part) =
    let text : List ℕ = codes "ok\n" in
    let some : List ℕ = take part.0 text in
    let one : ℕ × List ℕ = entry c.moment (told_count b.beside) (say_failed some) in record {
      entries = one ∷ [];
      grows = Grows-then a.beside b.beside c.beside [] (one ∷ []) (silent_by a b goes).silent part.1;
      said = (
        drop part.0 text,
        sym (take-append-drop part.0 text)
            ∙ ap (λ (bs : List ℕ). bs ++ drop part.0 text) (sym (append-nil some)),
      );
      untaken = refl;
      inside = refl;
      unasked = m ∙ (silent_by a b goes).unasked;
      stands = λ more trusted image is_image. image_made image (images trusted image
          (λ f. subst (λ (x : Fates). Fits x (image f))
          (call.keeps.fates c.moment f call.keeps.later (omega arith)) (is_image f)));
    }
some_said a b c goes call m images (inr untold) = record {
  entries = [];
  grows = Grows-then a.beside b.beside c.beside [] [] (silent_by a b goes).silent untold.log;
  said = (codes "ok\n", refl);
  untaken = refl;
  inside = refl;
  unasked = m ∙ (silent_by a b goes).unasked;
  stands = λ more. absurd (omega (arith, more));
}

-- where files were there, the first was named and all of them were left
pub none_made : (a b : DiskState) (fault : MakeFault) (first : ℕ) → Goes a b
    → fault ≡ NotEmpty first
    → (IsTrue a.tells → NamesFirst a.file fault)
    → (IsTrue a.tells → (f : ℕ) → a.file f ≢ None → Quiet a b)
    → SaysNothing a b × (IsTrue a.tells → IsFirstFileThere a.file first × Quiet a b)
none_made a b fault first goes same names left = (
  silent_by a b goes,
  λ tells.
      let named : NamesFirst a.file (NotEmpty first) = subst (NamesFirst a.file) same (names tells) in
      (record { there = named.0; none = named.1 }, left tells first named.0),
)
