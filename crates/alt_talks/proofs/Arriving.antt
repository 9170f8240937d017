-- How many connections came, one stretch of calls after another.
use Rattle.std.proofs.Common.{◌≡◌, ◌+◌, ◌⊎◌, ◌∙◌, inl, inr, ℕ, List, [], ◌∷◌, ◌++◌, refl, sym, subst, append_assoc, append-nil, arith, take}
use Rattle.std.proofs.lemmas.List.Sums.{sum_by-append}
use Rattle.alt_disk.specs.Disk.{DiskState, Goes}
use Rattle.alt_shell.specs.Calls.{Adds, Untold}
use Rattle.alt_shell.specs.Log.{Log, Grows, entry, event_of, told_count, accepted, hung_up, none_came, say_failed, take_failed, takes_failed, takes_missed, says_failed, says_missed}
use Rattle.alt_shell.proofs.Telling.{Grows-nil, Grows-then}
use Rattle.alt_talks.specs.Arrivals.{Came, CameAll, CameAtMost, NoneWill, arrivals, came_by}

pub arrivals-append : (es fs : Log) → arrivals (es ++ fs) ≡ arrivals es + arrivals fs
arrivals-append es fs = sum_by-append (λ (e : ℕ × List ℕ). came_by (event_of e.1)) es fs

-- no call
pub came_none : (a : DiskState) → Came 0 a a
came_none a = record { entries = []; grows = Grows-nil a.beside; many = refl }

-- one stretch and then another
pub came_then : (a b c : DiskState) (n m : ℕ) → Came n a b → Came m b c → Came (n + m) a c
came_then a b c n m p q = record {
  entries = p.entries ++ q.entries;
  grows = Grows-then a.beside b.beside c.beside p.entries q.entries p.grows q.grows;
  many = arrivals-append p.entries q.entries ∙ (λ i. p.many i + q.many i);
}

-- calls that tell nothing
pub came_silent : (a b : DiskState) → Grows a.beside b.beside [] → Came 0 a b
came_silent a b g = record { entries = []; grows = g; many = refl }

-- calls of the disk alone
pub came_goes : (a b : DiskState) → Goes a b → Came 0 a b
came_goes a b goes = came_silent a b (subst (λ (log : Log). Grows a.beside log []) (sym goes.beside)
    (Grows-nil a.beside))

-- one call, which told of no connection that came
pub came_event : (a b : DiskState) (x : ℕ × List ℕ) → came_by (event_of x.1) ≡ 0
    → Grows a.beside b.beside (x ∷ []) → Came 0 a b
came_event a b x none g =
    record { entries = x ∷ []; grows = g; many = omega (arith, none) }

-- a say that failed
pub came_say_failed : (a b : DiskState) (bytes : List ℕ)
    → ((n : ℕ) × Adds a b (say_failed (take n bytes))) ⊎ Untold a b says_failed says_missed
    → Came 0 a b
came_say_failed a b bytes (inl x) =
    came_event a b (entry b.moment (told_count a.beside) (say_failed (take x.0 bytes))) refl x.1
came_say_failed a b bytes (inr x) = came_silent a b x.log

-- a take that failed
pub came_take_failed : (a b : DiskState)
    → Adds a b take_failed ⊎ Untold a b takes_failed takes_missed → Came 0 a b
came_take_failed a b (inl x) =
    came_event a b (entry b.moment (told_count a.beside) take_failed) refl x
came_take_failed a b (inr x) = came_silent a b x.log

-- a connection came, was served and hung up
pub came_served : (a b d e : DiskState) → Adds a b accepted → Came 0 b d → Adds d e hung_up
    → Came 1 a e
came_served a b d e came inside hung = came_then a d e 1 0
    (came_then a b d 1 0 (record { entries = _; grows = came; many = refl }) inside)
    (came_event d e (entry e.moment (told_count d.beside) hung_up) refl hung)

-- none will come
pub none_will : (a b : DiskState) → Adds a b none_came → NoneWill 0 a b
none_will a b none = record {
  before = [];
  at = b.moment;
  clocked = told_count a.beside;
  grows = none;
  many = refl;
}

-- nor behind those that came
pub none_will-behind : (a b c : DiskState) (n m : ℕ) → Came n a b → NoneWill m b c
    → NoneWill (n + m) a c
none_will-behind a b c n m p q = record {
  before = p.entries ++ q.before;
  at = q.at;
  clocked = q.clocked;
  grows = subst (λ (es : Log). Grows a.beside c.beside es)
      (sym (append_assoc p.entries q.before (entry q.at q.clocked none_came ∷ [])))
      (Grows-then a.beside b.beside c.beside p.entries
      (q.before ++ entry q.at q.clocked none_came ∷ []) p.grows q.grows);
  many = arrivals-append p.entries q.before ∙ (λ i. p.many i + q.many i);
}

-- so many came by then
pub none_will-came : (a b : DiskState) (n : ℕ) → NoneWill n a b → Came n a b
none_will-came a b n p = record {
  entries = p.before ++ entry p.at p.clocked none_came ∷ [];
  grows = p.grows;
  many = let last = arrivals-append p.before (entry p.at p.clocked none_came ∷ []) in
      let many = p.many in omega (arith, last, many);
}

-- and then nothing more is told
none_will-before : (a b c : DiskState) (n : ℕ) → NoneWill n a b → Grows b.beside c.beside []
    → NoneWill n a c
none_will-before a b c n p g = record {
  before = p.before;
  at = p.at;
  clocked = p.clocked;
  grows = subst (λ (es : Log). Grows a.beside c.beside es)
      (append-nil (p.before ++ entry p.at p.clocked none_came ∷ []))
      (Grows-then a.beside b.beside c.beside (p.before ++ entry p.at p.clocked none_came ∷ []) []
      p.grows g);
  many = p.many;
}

-- calls that tell nothing before others
came_behind : (a b c : DiskState) (n : ℕ) → Grows a.beside b.beside [] → Came n b c → Came n a c
came_behind a b c n g p = record {
  entries = p.entries;
  grows = Grows-then a.beside b.beside c.beside [] p.entries g p.grows;
  many = p.many;
}

-- and behind them
came_before : (a b c : DiskState) (n : ℕ) → Came n a b → Grows b.beside c.beside [] → Came n a c
came_before a b c n p g = record {
  entries = p.entries;
  grows = subst (λ (es : Log). Grows a.beside c.beside es) (append-nil p.entries)
      (Grows-then a.beside b.beside c.beside p.entries [] p.grows g);
  many = p.many;
}

-- all that were to come did, behind calls that tell nothing
pub all_behind : (count : ℕ) (a b c : DiskState) → Grows a.beside b.beside [] → CameAll count b c
    → CameAll count a c
all_behind count a b c g (inl p) = inl (came_behind a b c count g p)
all_behind count a b c g (inr p) = inr (
  p.0,
  p.1,
  record {
    before = p.2.before;
    at = p.2.at;
    clocked = p.2.clocked;
    grows = Grows-then a.beside b.beside c.beside []
        (p.2.before ++ entry p.2.at p.2.clocked none_came ∷ []) g p.2.grows;
    many = p.2.many;
  },
)

-- and before them
pub all_before : (count : ℕ) (a b c : DiskState) → CameAll count a b → Grows b.beside c.beside []
    → CameAll count a c
all_before count a b c (inl p) g = inl (came_before a b c count p g)
all_before count a b c (inr p) g = inr (p.0, p.1, none_will-before a b c p.0 p.2 g)

-- calls that tell nothing bring no connection
pub most_silent : (most : ℕ) (a b : DiskState) → Grows a.beside b.beside [] → CameAtMost most a b
most_silent most a b g = (0, omega arith, came_silent a b g)

-- nor do they behind others, or before them
pub most_behind : (most : ℕ) (a b c : DiskState) → Grows a.beside b.beside [] → CameAtMost most b c
    → CameAtMost most a c
most_behind most a b c g p = (p.0, p.1, came_behind a b c p.0 g p.2)

pub most_before : (most : ℕ) (a b c : DiskState) → CameAtMost most a b → Grows b.beside c.beside []
    → CameAtMost most a c
most_before most a b c p g = (p.0, p.1, came_before a b c p.0 p.2 g)
