-- What a disk of numbered files is to its user: what a read gives, what a stop may leave at each moment, its counts; and what
-- each call keeps and changes of them.
use Rattle.std.specs.Prelude.{◌≡◌, ◌≢◌, ◌⊎◌, ◌≤◌, ◌+◌, ◌-◌, ◌^◌, min, ℕ, Bool, true, false, ◌&&◌, ◌==◌, IsTrue, List, [], ◌++◌, length, take, drop, Option, Some, None, is_some, Result, Ok, Err}
use Rattle.std.specs.Ordering.{nat_cmp}
use Rattle.std.specs.List.Sorted.{IsStrictlySortedBy}
use Rattle.std.specs.List.{list_any}
use Rattle.alt_base.specs.Counts.{Rose, next_moment}
use Rattle.alt_disk.specs.Fates.{Fates, Fits, synced, wrote, removed, half_removed}
use Rattle.alt_disk.specs.declared.disk.DiskFault.{DiskFault}
use Rattle.alt_disk.specs.declared.disk.DiskFault.TheVariants.{Failed, NoMemory}

-- The disk as its user sees it. `file` is what reads give of each file, `fates` what a stop at each moment may leave of it;
-- both mean nothing where the disk doesn't tell them. `beside` is what a shell keeps beside the files, with its moments.
-- `cached` says of a read, by its file, its place and the buffer's length, whether a cache before the disk answers it; a disk
-- without a cache has none. `anchors` are the borrows behind which the disk stands.
pub record DiskState : Type 0 where
  pub tells : Bool
  pub honest : Bool
  pub file : ℕ → Option (List ℕ)
  pub fates : ℕ → ℕ → Fates
  pub moment : ℕ
  pub faults : ℕ
  pub reads : ℕ
  pub beside : List (ℕ × List ℕ)
  pub cached : ℕ → ℕ → ℕ → Bool
  pub anchors : List ℕ

-- it is honest and tells its contents
abbrev pub IsTrusted : DiskState → Type 0
IsTrusted s = IsTrue (s.tells && s.honest)

-- the bytes of a file, none where it is missing
abbrev pub bytes_or_none : Option (List ℕ) → List ℕ
bytes_or_none None = []
bytes_or_none (Some bytes) = bytes

-- what reads give of a file
abbrev pub contents : DiskState → ℕ → List ℕ
contents s f = bytes_or_none (s.file f)

-- what a stop now may leave of a file
abbrev pub now : DiskState → ℕ → Fates
now s f = s.fates s.moment f

-- files as a stop at a moment may leave them
abbrev pub IsImage : DiskState → ℕ → (ℕ → Option (List ℕ)) → Type 0
IsImage s t image = (f : ℕ) → Fits (s.fates t f) (image f)

-- a stop now leaves of a file what reads give
abbrev pub IsSettled : DiskState → ℕ → Type 0
IsSettled s f = (left : Option (List ℕ)) → Fits (now s f) left → left ≡ s.file f

-- the disk with another list beside its files
abbrev pub with_beside : List (ℕ × List ℕ) → DiskState → DiskState
with_beside beside s = record s { beside = beside }

-- what any run of calls keeps, on every disk: what it says of itself, what is beside it, and the images of the past
pub record Goes (old new : DiskState) : Type 0 where
  pub tells : new.tells ≡ old.tells
  pub honest : new.honest ≡ old.honest
  pub beside : new.beside ≡ old.beside
  pub anchors : new.anchors ≡ old.anchors
  pub later : old.moment ≤ new.moment
  pub faults : old.faults ≤ new.faults
  pub past : (t f : ℕ) → t ≤ old.moment → new.fates t f ≡ old.fates t f

-- all files stay, in reads and in the images
pub record Same (old new : DiskState) : Type 0 where
  pub file : (g : ℕ) → new.file g ≡ old.file g
  pub fates : (g : ℕ) → now new g ≡ now old g

-- the files but one stay, in reads and in the images
pub record Others (old new : DiskState) (f : ℕ) : Type 0 where
  pub file : (g : ℕ) → g ≢ f → new.file g ≡ old.file g
  pub fates : (g : ℕ) → g ≢ f → now new g ≡ now old g

-- One call of any kind, which answered something else than Failed where `ok`. The moment goes on by at most one, Failed comes
-- only where the faults rose, and any other answer leaves their count.
pub record Call (old new : DiskState) (ok : Bool) : Type 0 where
  pub goes : Goes old new
  pub step : new.moment ≤ next_moment old.moment
  pub cause : ok ≡ false → Rose old.faults new.faults
  pub well : ok ≡ true → new.faults ≡ old.faults

-- One call that isn't a read: it takes exactly one moment. At the last one it fails, and changes nothing but the faults.
pub record Tick (old new : DiskState) (ok : Bool) : Type 0 where
  pub call : Call old new ok
  pub moment : new.moment ≡ next_moment old.moment
  pub reads : new.reads ≡ old.reads
  pub ended : 2 ^ 64 - 1 ≤ old.moment → (ok ≡ false) × Same old new

-- One call that isn't a read and leaves all files, whatever it answers.
pub record Silent (old new : DiskState) (ok : Bool) : Type 0 where
  pub tick : Tick old new ok
  pub same : Same old new

-- One read of a file from a place on, of so many bytes at most. At the last moment it counts no more, and fails unless a cache
-- answers it.
pub record ReadCall (old new : DiskState) (f at most : ℕ) (ok : Bool) : Type 0 where
  pub call : Call old new ok
  pub reads : (old.reads ≤ new.reads) × (new.reads ≤ old.reads + 1)
  pub ended : 2 ^ 64 - 1 ≤ old.moment
      → (new.reads ≡ old.reads) × (old.cached f at most ≡ false → ok ≡ false)

-- a fault and nothing else
pub record Faulted (old new : DiskState) : Type 0 where
  pub goes : Goes old new
  pub moment : new.moment ≡ old.moment
  pub reads : new.reads ≡ old.reads
  pub same : Same old new
  pub rose : Rose old.faults new.faults

-- the numbers of the files there, each once and rising
pub record IsNames (list : List ℕ) (file : ℕ → Option (List ℕ)) : Type 0 where
  pub rising : IsStrictlySortedBy nat_cmp list
  pub exact : (f : ℕ) → list_any (λ g. f == g) list ≡ is_some (file f)

-- an answer other than Failed
abbrev pub call_answered : Result Unit DiskFault → Bool
call_answered (Ok done) = true
call_answered (Err Failed) = false
call_answered (Err NoMemory) = true

-- what a read gives: as many bytes as stand from the place on, up to the buffer, and in its front exactly those
pub record Read (bytes : List ℕ) (at : ℕ) (old new : List ℕ) (count : ℕ) : Type 0 where
  pub count_is : count ≡ min (length old) (length bytes - at)
  pub front : take count new ≡ take count (drop at bytes)

-- bytes put in at a place, over what is there
abbrev pub overwritten : List ℕ → ℕ → List ℕ → List ℕ
overwritten old at bytes = take at old ++ bytes ++ drop (at + length bytes) old

-- What a write does to an honest disk: at Ok the file reads as before with the bytes put in. After one that failed it reads as
-- before in front of the place, and for a stop it counts as written, or it was not begun.
pub record Written (old new : DiskState) (f at : ℕ) (bytes : List ℕ) (ok : Bool) : Type 0 where
  pub others : Others old new f
  pub file : ok ≡ true → new.file f ≡ Some (overwritten (contents old f) at bytes)
  pub before : ok ≡ false → take at (contents new f) ≡ take at (contents old f)
  pub fates : (now new f ≡ wrote at (length bytes) (now old f))
      ⊎ ((ok ≡ false) × (now new f ≡ now old f))

-- What a sync does to an honest disk: at Ok a stop leaves of a file that is there what reads give. One that failed makes
-- nothing last.
pub record Synced (old new : DiskState) (f : ℕ) (ok : Bool) : Type 0 where
  pub others : Others old new f
  pub narrows : (file : Option (List ℕ)) → Fits (now new f) file → Fits (now old f) file
  pub there : (bytes : List ℕ) → ok ≡ true → old.file f ≡ Some bytes → now new f ≡ synced bytes
  pub failed : ok ≡ false → now new f ≡ now old f

-- What a removal does to an honest disk: at Ok the file is gone, and a stop may bring it back. One that failed was made or not.
pub record Removed (old new : DiskState) (f : ℕ) (ok : Bool) : Type 0 where
  pub others : Others old new f
  pub done : (bytes : List ℕ) → ok ≡ true → old.file f ≡ Some bytes
      → now new f ≡ removed (now old f)
  pub failed : ok ≡ false
      → ((new.file f ≡ old.file f) × ((now new f ≡ now old f)
      ⊎ (now new f ≡ half_removed (now old f))))
      ⊎ ((new.file f ≡ None) × (now new f ≡ removed (now old f)))
