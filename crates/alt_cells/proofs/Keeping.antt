-- Calls on sources, one after another.
use Rattle.std.proofs.Common.{◌≤◌, ℕ, Bool, refl, subst, ◌∙◌, arith}
use Rattle.alt_base.specs.Counts.{Rose}
use Rattle.alt_disk.specs.Disk.{DiskState, Goes}
use Rattle.alt_disk.proofs.Calls.{goes_refl, goes_on}
use Rattle.alt_disk.proofs.Runs.{quiet_start, quiet_then}
use Rattle.alt_cells.specs.declared.source.SourceFault.{SourceFault}
use Rattle.alt_cells.specs.declared.source.SourceFault.TheVariants.{Damaged, Failed, NoMemory}
use Rattle.alt_cells.specs.Walks.{KeepsSource, Fails, HasCause}
use Rattle.alt_disk.proofs.Staying.{tells_on}

-- what rose in a later call rose in both
rose_then : (a b c : ℕ) → a ≤ b → Rose b c → Rose a c
rose_then a b c le rose = grind arith

-- a later call's cause is one of both calls
pub cause_then : (reads : ℕ → Bool) (a b c : DiskState) (fault : SourceFault) → Goes a b
    → HasCause reads b c fault → HasCause reads a c fault
cause_then reads a b c (Damaged f at) goes cause = cause
cause_then reads a b c Failed goes cause = rose_then _ _ _ goes.faults cause
cause_then reads a b c NoMemory goes cause = tt

module _ {S M : Type 0} (Holds : DiskState → S → M → Type 0) (reads_of : S → ℕ → Bool) where
  -- no call, and two calls one after another, of which the second may fail
  pub keeps_refl : (s : DiskState) (x : S) → KeepsSource Holds reads_of s s x x
  keeps_refl s x = record {
    holds = λ t m h. h;
    reads = refl;
    goes = goes_refl s;
    quiet =
        λ t. quiet_start s;
  }

  -- what one call keeps and the next keeps, both together keep
  pub keeps_then : (a b c : DiskState) (x y z : S) → KeepsSource Holds reads_of a b x y
      → KeepsSource Holds reads_of b c y z → KeepsSource Holds reads_of a c x z
  keeps_then a b c x y z first then = record {
    holds = λ t m h. then.holds (tells_on a b first.goes t) m (first.holds t m h);
    reads = then.reads ∙ first.reads;
    goes = goes_on a b c first.goes then.goes;
    quiet = λ t. quiet_then a b c (first.quiet t) (then.quiet (tells_on a b first.goes t));
  }

  -- where a call keeps and the next one fails, both together fail so
  pub fails_then : (a b c : DiskState) (x y : S) (fault : SourceFault)
      → KeepsSource Holds reads_of a b x y → Fails Holds reads_of b c y fault
      → Fails Holds reads_of a c x fault
  fails_then a b c x y fault first fails = record {
    cause = cause_then (reads_of x) a b c fault first.goes
        (subst (λ reads. HasCause reads b c fault) first.reads fails.cause);
    sound = λ tells m h. fails.sound (tells_on a b first.goes tells) m (first.holds tells m h);
  }
