-- The halves of a call of a shell in memory: its start, which takes its moment, and then what it does or how it fails.
use Rattle.std.specs.Prelude.{◌≡◌, ◌≤◌, ◌⊎◌, [], Bool, true, false}
use Rattle.alt_base.specs.Counts.{next_moment}
use Rattle.alt_disk.specs.Disk.{DiskState}
use Rattle.alt_shell.specs.declared.kept.Stream.{Stream}
use Rattle.alt_shell.specs.Calls.{Keeps, Adds, RoseBy, StaysIn}
use Rattle.alt_shell.specs.Kept.{failed_of, fails_of, missed_of, other_of}
use Rattle.alt_shell.specs.Log.{Log, Grows, entries_of, tested, talks, talk_of, talk_faults}

-- A call has taken its moment, and nothing else has changed.
pub record Starts (old new : DiskState) : Type 0 where
  pub keeps : Keeps old new
  pub moment : new.moment ≡ next_moment old.moment
  pub beside : new.beside ≡ old.beside
  pub faults : new.faults ≡ old.faults

-- Of the disk all stays but the count of faults.
pub record Stays (old new : DiskState) : Type 0 where
  pub keeps : Keeps old new
  pub moment : new.moment ≡ old.moment

-- why a failure isn't told: one of its kind was, in this talk or ever, or it was made at the last moment
abbrev pub WhyUntold : Bool → Log → Bool → Stream → Type 0
WhyUntold true log last stream = missed_of stream log ≡ true
WhyUntold false log last stream =
    (tested (fails_of stream) (entries_of log) ≡ true) ⊎ (last ≡ true)

-- A call of this kind fails after its start, which was at the last moment or not.
pub record CallFails (old new : DiskState) (last : Bool) (stream : Stream) : Type 0 where
  pub stays : Stays old new
  pub told : Adds old new (failed_of stream)
      ⊎ (Grows old.beside new.beside [] × WhyUntold (talks old.beside) old.beside last stream)
  pub silent : last ≡ true → talks old.beside ≡ false → new.beside ≡ old.beside
  pub rose : RoseBy (talks old.beside) old new
  pub inside : talks old.beside ≡ true → new.faults ≡ old.faults
  pub outside : talks old.beside ≡ false → talk_of new.beside ≡ talk_of old.beside
  pub later : talk_faults old.beside ≤ talk_faults new.beside
  pub talk : StaysIn old new false (missed_of stream) (missed_of (other_of stream))
