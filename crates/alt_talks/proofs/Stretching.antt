-- Logs and stretches, one after the other.
use Rattle.std.proofs.Common.{◌≡◌, ℕ, List, [], ◌∷◌, ◌++◌, Option, refl, sym, ap, subst, ◌∙◌, append-nil, arith}
use Rattle.std.specs.Prelude.{◌||◌}
use Rattle.std.proofs.lemmas.Grind.{flat_map-append}
use Rattle.alt_base.proofs.Bools.{or_grouped}
use Rattle.alt_disk.specs.Disk.{DiskState, Goes}
use Rattle.alt_disk.proofs.Runs.{trusted_on}
use Rattle.alt_shell.specs.Calls.{Aside}
use Rattle.alt_shell.specs.Log.{Log, Grows, TellsMoments, moments_of, event_of, bytes_said, bytes_taken, is_end, taken, said_in, ended}
use Rattle.alt_talks.specs.Runs.{OfStretch, Stretch}
use Rattle.alt_talks.specs.Stops.{AreWithin}
use Rattle.alt_shell.proofs.Telling.{Grows-then, Grows-nil, Tells-then, Tells-nil}
use Rattle.alt_talks.proofs.Stopping.{within-then, within-wider, trusts-kept}
use Rattle.alt_talks.proofs.StretchLeaving.{Meet}

-- ---- logs one after the other

pub said_in-append : (es fs : Log) → said_in (es ++ fs) ≡ said_in es ++ said_in fs
said_in-append es fs = flat_map-append (λ (e : ℕ × List ℕ). bytes_said (event_of e.1)) es fs

pub taken-append : (es fs : Log) → taken (es ++ fs) ≡ taken es ++ taken fs
taken-append es fs = flat_map-append (λ (e : ℕ × List ℕ). bytes_taken (event_of e.1)) es fs

pub ended-append : (es fs : Log) → ended (es ++ fs) ≡ (ended es || ended fs)
ended-append [] fs = refl
ended-append (e ∷ es) fs = ap (λ b. is_end (event_of e.1) || b) (ended-append es fs)
    ∙ or_grouped (is_end (event_of e.1)) (ended es) (ended fs)

-- ---- calls

pub stretch_none : (a : DiskState) {P : OfStretch} → P a a [] [] → Stretch a a P
stretch_none a h = record {
  entries = [];
  told = [];
  grows = Grows-nil a.beside;
  tells = Tells-nil (moments_of a.beside) (moments_of a.beside) refl;
  within = tt;
  later = omega arith;
  trusts = λ trusted. trusted;
  holds = h;
}

-- one stretch and then another
pub stretch_then : (a b c : DiskState) {P Q R : OfStretch}
    → ((es fs : Log) (ms ns : List ℕ) → Meet a b c es fs → P a b es ms → Q b c fs ns
    → R a c (es ++ fs) (ms ++ ns))
    → Stretch a b P → Stretch b c Q → Stretch a c R
stretch_then a b c law p q = record {
  entries = p.entries ++ q.entries;
  told = p.told ++ q.told;
  grows = Grows-then a.beside b.beside c.beside p.entries q.entries p.grows q.grows;
  tells = Tells-then (moments_of a.beside) (moments_of b.beside) (moments_of c.beside) p.told q.told
      p.tells q.tells;
  within = within-then a.moment b.moment c.moment p.entries q.entries p.within q.within p.later
      q.later;
  later = omega (arith, p.later, q.later);
  trusts = λ trusted. q.trusts (p.trusts trusted);
  holds = law p.entries q.entries p.told q.told
      (record { before = p.within; behind = q.within; trusts = p.trusts }) p.holds q.holds;
}

pub stretch_as : (a b : DiskState) {P Q : OfStretch}
    → ((es : Log) (ms : List ℕ) → AreWithin a.moment b.moment es → P a b es ms → Q a b es ms)
    → Stretch a b P → Stretch a b Q
stretch_as a b law p = record {
  entries = p.entries;
  told = p.told;
  grows = p.grows;
  tells = p.tells;
  within = p.within;
  later = p.later;
  trusts = p.trusts;
  holds = law p.entries p.told p.within p.holds;
}

-- calls that say nothing more, ask nothing more, and leave all files
pub stretch_quiet : (a b c : DiskState) {P : OfStretch}
    → ((es : Log) (ms : List ℕ) → P a b es ms → P a c es ms)
    → Stretch a b P → Aside b c → Grows b.beside c.beside []
    → moments_of c.beside ≡ moments_of b.beside → Stretch a c P
stretch_quiet a b c {P} law p aside g m = record {
  entries = p.entries;
  told = p.told;
  grows = subst (λ (es : Log). Grows a.beside c.beside es) (append-nil p.entries)
      (Grows-then a.beside b.beside c.beside p.entries [] p.grows g);
  tells = subst (λ (ms : Option (List ℕ)). TellsMoments (moments_of a.beside) ms p.told) (sym m) p.tells;
  within = subst (λ (n : ℕ). AreWithin a.moment n p.entries) (sym aside.moment) p.within;
  later = let same = aside.moment in omega (arith, same, p.later);
  trusts = λ trusted. trusts-kept b c aside.keeps (p.trusts trusted);
  holds = law p.entries p.told p.holds;
}

-- calls of the disk alone say nothing more and ask nothing more
pub stretch_goes : (a b c : DiskState) {P Q : OfStretch}
    → ((es : Log) (ms : List ℕ) → AreWithin a.moment b.moment es → P a b es ms → Q a c es ms)
    → Stretch a b P → Goes b c → Stretch a c Q
stretch_goes a b c law p goes = record {
  entries = p.entries;
  told = p.told;
  grows = subst (λ (log : Log). Grows a.beside log p.entries) (sym goes.beside) p.grows;
  tells = subst (λ (log : Log). TellsMoments (moments_of a.beside) (moments_of log) p.told)
      (sym goes.beside) p.tells;
  within = within-wider a.moment a.moment b.moment c.moment p.entries p.within (omega arith)
      goes.later;
  later = omega (arith, p.later, goes.later);
  trusts = λ trusted. trusted_on b c goes (p.trusts trusted);
  holds = law p.entries p.told p.within p.holds;
}
