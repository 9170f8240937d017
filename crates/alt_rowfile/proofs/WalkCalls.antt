-- What calls on a walk keep, and why they fail.
use Rattle.std.proofs.Common.{◌≡◌, ◌==◌, refl, sym, ap, subst, ℕ, IsTrue, Err, List}
use Rattle.std.specs.Prelude.{Result, Ok, IfErr}
use Rattle.std.specs.Result.{IsErrOf}
use Rattle.std.proofs.lemmas.Bool.{false≢true}
use Rattle.std.specs.FinMap.{entries}
use Rattle.alt_base.specs.Counts.{Rose}
use Rattle.alt_disk.specs.Disk.{DiskState, Goes}
use Rattle.alt_disk.specs.Runs.{Quiet}
use Rattle.alt_cells.specs.Walks.{KeepsSource, Fails, HasCause, IsDamaged, answered_by}
use Rattle.alt_cells.specs.declared.source.SourceFault.{SourceFault}
use Rattle.alt_cells.specs.declared.source.SourceFault.TheVariants.{Damaged, Failed, NoMemory}
use Rattle.alt_rowblocks.specs.Format.{Entry}
use Rattle.alt_rowfile.specs.InHand.{ReadsRows}
use Rattle.alt_rowfile.specs.Damage.{IsDamageIn}
use Rattle.alt_rowfile.specs.Walking.{walk_reads, walk_holds, reads_on, itself}
use Rattle.alt_rowfile.specs.declared.walk.RowFileWalk.{RowFileWalk}

-- a walk over the same file stands for the same rows, and reads the same file
pub walk_keeps : (s t : DiskState) (w v : RowFileWalk) → v.file ≡ w.file → Goes s t
    → (IsTrue s.tells → Quiet s t) → KeepsSource walk_holds walk_reads s t w v
walk_keeps s t w v same goes quiet = record {
  holds = λ told rows h. subst (λ f. ReadsRows t f.now (entries rows)) (sym same)
      (reads_on s t w.file.now (entries rows) (λ g is. (quiet told).file g) h);
  reads = ap (λ file. (λ (g : ℕ). g == file.now.file)) same;
  goes = goes;
  quiet = quiet;
}

module _ {T : Type 0} where
  -- a fault that comes of a failed call, or of this file, has its cause
  cause_of : (s t : DiskState) (w : RowFileWalk) (fault : SourceFault)
      → (IsErrOf {T = T} (Err fault) Failed → Rose s.faults t.faults)
      → IsDamageIn s w.file.now fault → HasCause (walk_reads w) s t fault
  cause_of s t w (Damaged f at) c damage =
      subst (λ n. IsTrue (n == w.file.now.file)) (sym damage.0) (itself w.file.now.file)
  cause_of s t w Failed c damage = c refl
  cause_of s t w NoMemory c damage = tt

  -- a call failed by the disk or for want of memory
  pub walk_fails : (s t : DiskState) (w : RowFileWalk) (fault : SourceFault)
      → (IsErrOf {T = T} (Err fault) Failed → Rose s.faults t.faults)
      → (IsTrue s.tells → (rows : List Entry) → ReadsRows s w.file.now rows → IsDamaged fault → ⊥)
      → IsDamageIn s w.file.now fault → Fails walk_holds walk_reads s t w fault
  walk_fails s t w fault cause sound damage = record {
    cause = cause_of s t w fault cause damage;
    sound = λ tells rows h damaged. sound tells (entries rows) h damaged;
  }

  -- any other answer leaves the count of faults
  pub well_failed : {P : Type 0} (fault : SourceFault)
      → ((IsErrOf {T = T} (Err fault) Failed → ⊥) → P) → IsTrue (answered_by {A = T} (Err fault))
      → P
  well_failed (Damaged f at) w told = w (λ e. cc e)
  well_failed Failed w told = absurd (false≢true told)
  well_failed NoMemory w told = w (λ e. cc e)

  -- the same where it isn't known yet whether it failed
  pub result_fails : (s t : DiskState) (w : RowFileWalk) (r : Result T SourceFault)
      → (IsErrOf r Failed → Rose s.faults t.faults)
      → (IsTrue s.tells → (rows : List Entry) → ReadsRows s w.file.now rows
      → IfErr r (λ fault. IsDamaged fault → ⊥))
      → IfErr r (IsDamageIn s w.file.now) → IfErr r (Fails walk_holds walk_reads s t w)
  result_fails s t w (Ok v) cause sound damage = damage
  result_fails s t w (Err fault) cause sound damage = walk_fails s t w fault cause sound damage

  -- and any other answer leaves the count of faults
  pub result_well : {P : Type 0} (r : Result T SourceFault) → ((IsErrOf r Failed → ⊥) → P)
      → IsTrue (answered_by r) → P
  result_well (Ok v) w told = w (λ e. cc e)
  result_well (Err fault) w told = well_failed fault w told
