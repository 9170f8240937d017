-- Entries of a connection, one stretch after another.
use Rattle.std.proofs.Common.{◌≡◌, ◌≤◌, ℕ, List, [], ◌∷◌, ◌++◌, Bool, true, false, Option, refl, ap, subst, ◌∙◌, append-nil, arith}
use Rattle.std.proofs.Math.Bool.{or-true}
use Rattle.std.specs.Prelude.{◌||◌}
use Rattle.std.specs.List.{list_any}
use Rattle.alt_base.proofs.Bools.{or_grouped}
use Rattle.alt_disk.specs.Disk.{DiskState}
use Rattle.alt_shell.specs.Calls.{Keeps}
use Rattle.alt_shell.specs.Log.{Log, Grows, TellsMoments, moments_of, event_of, Event, is_say_failed, is_bound, says_failed, crosses}
use Rattle.alt_shell.proofs.Telling.{Grows-then, Tells-then, Tells-nil}
use Rattle.alt_talks.specs.Runs.{OfStretch, Stretch}
use Rattle.alt_talks.specs.Stops.{AreWithin}
use Rattle.alt_talks.specs.Stretches.{is_last_take, no_more_bytes, is_say, says_something, Hushes}
use Rattle.alt_talks.proofs.Stopping.{trusts-kept, within-then, within-wider}

any-append : (test : Option Event → Bool) (es fs : Log)
    → list_any (λ (e : ℕ × List ℕ). test (event_of e.1)) (es ++ fs)
    ≡ (list_any (λ (e : ℕ × List ℕ). test (event_of e.1)) es
    || list_any (λ (e : ℕ × List ℕ). test (event_of e.1)) fs)
any-append test [] fs = refl
any-append test (e ∷ es) fs = ap (λ b. test (event_of e.1) || b) (any-append test es fs)
    ∙ or_grouped (test (event_of e.1)) (list_any (λ (e : ℕ × List ℕ). test (event_of e.1)) es)
    (list_any (λ (e : ℕ × List ℕ). test (event_of e.1)) fs)

pub over-append : (es fs : Log) → no_more_bytes (es ++ fs) ≡ (no_more_bytes es || no_more_bytes fs)
over-append es fs = any-append is_last_take es fs

pub broken-append : (es fs : Log) → says_failed (es ++ fs) ≡ (says_failed es || says_failed fs)
broken-append es fs = any-append is_say_failed es fs

pub crosses-append : (es fs : Log) → crosses (es ++ fs) ≡ (crosses es || crosses fs)
crosses-append es fs = any-append is_bound es fs

pub says-append : (es fs : Log) → says_something (es ++ fs) ≡ (says_something es || says_something fs)
says-append es fs = any-append is_say es fs

-- nothing is said behind a say that failed in the first entries, nor behind one in the others
pub hushes-append : (es fs : Log) → Hushes es → Hushes fs → (says_failed es ≡ true → says_something fs ≡ false)
    → Hushes (es ++ fs)
hushes-append [] fs h k still = k
hushes-append (e ∷ es) fs h k still = (
  λ f. says-append es fs ∙ ap (λ b. b || says_something fs) (h.0 f)
      ∙ still (ap (λ b. b || says_failed es) f),
  hushes-append es fs h.1 k
      (λ f. still (ap (λ b. is_say_failed (event_of e.1) || b) f
      ∙ or-true (is_say_failed (event_of e.1)))),
)

-- one call, which told no moment and left all files
pub stretch_one : (a b : DiskState) (P : OfStretch) (es : Log) → Grows a.beside b.beside es
    → moments_of b.beside ≡ moments_of a.beside → AreWithin a.moment b.moment es → Keeps a b
    → P a b es [] → Stretch a b P
stretch_one a b P es g m within keeps p = record {
  entries = es;
  told = [];
  grows = g;
  tells = Tells-nil (moments_of a.beside) (moments_of b.beside) m;
  within = within;
  later = keeps.later;
  trusts = trusts-kept a b keeps;
  holds = p;
}

-- the clock told a moment
pub record Clocked (moment : ℕ) (es : Log) (ms : List ℕ) : Type 0 where
  pub nothing : es ≡ []
  pub one : ms ≡ moment ∷ []

-- a call with one entry, and then more calls
pub took_then : (a b c : DiskState) (x : ℕ × List ℕ) (P Q : OfStretch)
    → Grows a.beside b.beside (x ∷ []) → moments_of b.beside ≡ moments_of a.beside
    → a.moment ≤ x.0 → x.0 ≤ b.moment → Keeps a b
    → ((es : Log) (ms : List ℕ) → AreWithin b.moment c.moment es → P b c es ms → Q a c (x ∷ es) ms)
    → Stretch b c P → Stretch a c Q
took_then a b c x P Q g m low high keeps join p = record {
  entries = x ∷ p.entries;
  told = p.told;
  grows = Grows-then a.beside b.beside c.beside (x ∷ []) p.entries g p.grows;
  tells = Tells-then (moments_of a.beside) (moments_of b.beside) (moments_of c.beside) [] p.told
      (Tells-nil (moments_of a.beside) (moments_of b.beside) m) p.tells;
  within = (
    low,
    omega (arith, high, p.later),
    within-wider a.moment b.moment c.moment c.moment p.entries p.within keeps.later (omega arith),
  );
  later = let k = keeps.later in omega (arith, k, p.later);
  trusts = λ trusted. p.trusts (trusts-kept a b keeps trusted);
  holds = join p.entries p.told p.within p.holds;
}

-- calls, and then one call with one entry, which takes no moment
pub then_one : (a b c : DiskState) (x : ℕ × List ℕ) (P Q : OfStretch)
    → Grows b.beside c.beside (x ∷ []) → moments_of c.beside ≡ moments_of b.beside
    → b.moment ≤ x.0 → x.0 ≤ c.moment → Keeps b c
    → ((es : Log) (ms : List ℕ) → P a b es ms → Q a c (es ++ x ∷ []) ms)
    → Stretch a b P → Stretch a c Q
then_one a b c x P Q g m low high keeps join p = record {
  entries = p.entries ++ x ∷ [];
  told = p.told;
  grows = Grows-then a.beside b.beside c.beside p.entries (x ∷ []) p.grows g;
  tells = subst (λ (ms : List ℕ). TellsMoments (moments_of a.beside) (moments_of c.beside) ms)
      (append-nil p.told)
      (Tells-then (moments_of a.beside) (moments_of b.beside) (moments_of c.beside) p.told [] p.tells
      (Tells-nil (moments_of b.beside) (moments_of c.beside) m));
  within = within-then a.moment b.moment c.moment p.entries (x ∷ []) p.within (low, high, tt) p.later
      keeps.later;
  later = let k = keeps.later in omega (arith, k, p.later);
  trusts = λ trusted. trusts-kept b c keeps (p.trusts trusted);
  holds = join p.entries p.told p.holds;
}
