-- Calls that a part of a run made: what is told of them, what they keep, and where they lead.
use Rattle.std.specs.Prelude.{◌≡◌, ◌≤◌, ℕ, List}
use Rattle.alt_disk.specs.Disk.{DiskState, IsTrusted}
use Rattle.alt_machine.specs.State.{State}
use Rattle.alt_shell.specs.Log.{Log, Grows, TellsMoments, moments_of, notes_of, talks}
use Rattle.alt_tables.specs.Stands.{Stands, bounds_of}
use Rattle.alt_tables.specs.declared.tables.Tables.{Tables}
use Rattle.alt_talks.specs.Faults.{reach}
use Rattle.alt_talks.specs.Stops.{AreWithin}

-- what is said of a stretch of calls: of the disk before and after it, its entries, and the moments told in it
abbrev pub OfStretch : Type 1
OfStretch = DiskState → DiskState → Log → List ℕ → Type 0

-- The calls of a stretch, as far as they are told: they have P. Each ended at a moment of the stretch.
pub record Stretch (old new : DiskState) (P : OfStretch) : Type 0 where
  pub entries : Log
  pub told : List ℕ
  pub grows : Grows old.beside new.beside entries
  pub tells : TellsMoments (moments_of old.beside) (moments_of new.beside) told
  pub within : AreWithin old.moment new.moment entries
  pub later : old.moment ≤ new.moment
  pub trusts : IsTrusted old → IsTrusted new
  pub holds : P old new entries told

-- What every stretch of a run keeps: what the disk says of itself, what a stop left at the moments before, what was noted, and whether
-- the shell talks.
pub record Passes (old new : DiskState) : Type 0 where
  pub tells : new.tells ≡ old.tells
  pub honest : new.honest ≡ old.honest
  pub anchors : new.anchors ≡ old.anchors
  pub later : old.moment ≤ new.moment
  pub faults : old.faults ≤ new.faults
  pub past : (t f : ℕ) → t ≤ old.moment → new.fates t f ≡ old.fates t f
  pub notes : notes_of new.beside ≡ notes_of old.beside
  pub talking : talks new.beside ≡ talks old.beside

-- The state for which the tables stand now, and the calls by which it was reached, which have P of it.
pub record Leads (old new : DiskState) (tables : Tables) (P : State → OfStretch) : Type 0 where
  pub to : State
  pub stands : Stands new tables to
  pub calls : Stretch old new (P to)

-- P of calls on connections, where each request has a moment, and a task behind it. The number of the next file was the first one before them,
-- and is the second one now: the tasks took no more than they take at most.
abbrev pub Counting : ℕ → ℕ → OfStretch → OfStretch
Counting next now P old new entries told = P old new entries told × (now ≤ reach next told)

-- so of calls that led to tables
abbrev pub LeadsOn : ℕ → DiskState → DiskState → Tables → (State → OfStretch) → Type 0
LeadsOn next old new tables P =
    Leads old new tables (λ t. Counting next (bounds_of tables).file (P t))
