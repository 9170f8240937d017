-- What a recovery finds before it removes files, and what it removes. Private contracts alone cite `Found` and the words of faults.
use Rattle.std.specs.Prelude.{◌≡◌, ℕ, List}
use Rattle.std.specs.FinMap.{empty}
use Rattle.alt_disk.specs.Disk.{DiskState}
use Rattle.alt_disk.specs.declared.disk.DiskFault.{DiskFault}
use Rattle.alt_disk.specs.declared.disk.DiskFault.TheVariants as disk
use Rattle.alt_families.specs.Families.{files_in, rows_in}
use Rattle.alt_gatelog.specs.InHand.{file_of_gate_log as log_file}
use Rattle.alt_gatelog.specs.declared.fault.LogFault.{LogFault}
use Rattle.alt_gatelog.specs.declared.fault.LogFault.TheVariants as log
use Rattle.alt_layout.specs.Families.{Held, files_of, flushed_of, layout_of, with_later}
use Rattle.alt_layout.specs.Files.{EndsWith, Stored, all_of}
use Rattle.alt_layout.specs.Fresh.{versions_file}
use Rattle.alt_layout.specs.Layout.{Layout}
use Rattle.alt_manifest.specs.InHand.{file_of_manifest as manifest_file, version_of, ReadsVersion as ManifestReads}
use Rattle.alt_manifest.specs.declared.version.Version.{Version}
use Rattle.alt_rowfile.specs.declared.fault.RowFileFault.{RowFileFault}
use Rattle.alt_rowfile.specs.declared.fault.RowFileFault.TheVariants as rows
use Rattle.alt_writes.specs.Writes.{Write}
use Rattle.alt_hand.specs.Faults.{told_by_recovery}
use Rattle.alt_faults.specs.Faults.{IsOutside}
use Rattle.alt_hand.specs.InHand.{AreOpen, IsLength, LogHolds, family_of}
use Rattle.alt_hand.specs.declared.hand.Hand.{Hand}
use Rattle.alt_hand.specs.declared.recover.RecoverFault.{RecoverFault}
use Rattle.alt_hand.specs.declared.recover.RecoverFault.TheVariants.{Damaged, DigestDiffers, Failed, NoMemory}

-- The engine is that of this layout as the disk reads, but that files may be there from its next one on, which is the version's.
pub record Found (s : DiskState) (e : Hand) (l : Layout) : Type 0 where
  pub held : Held
  pub parts : List (List Write)
  pub writes : List Write
  pub versions : ManifestReads s e.manifest
  pub first : manifest_file e.manifest ≡ versions_file
  pub stored : Stored s.file (version_of e.manifest) held parts
  pub ends : EndsWith (version_of e.manifest) parts (log_file e.log) writes
  pub log : LogHolds s e.log writes
  pub is : l ≡ layout_of (version_of e.manifest) held (all_of parts)
  pub next : e.next ≡ l.next_number
  pub length : IsLength s.file (version_of e.manifest).segments e.length
  pub file : e.next_file ≡ (version_of e.manifest).next_file
  pub memory : (family : ℕ) → rows_in (family_of e family)
      ≡ with_later (flushed_of (version_of e.manifest).families family) family empty (all_of parts)
  pub opened : (family : ℕ) → AreOpen s held (files_of (version_of e.manifest).families family)
      (files_in (family_of e family))

-- The version in hand.
abbrev pub version_in : Hand → Version
version_in e = version_of e.manifest

-- The fault tells of no damage.
abbrev pub IsSound : RecoverFault → Type 0
IsSound f = IsOutside (told_by_recovery f)

-- Faults of a log, of a row file and of the disk, as one of the recovery.
abbrev pub log_fault : LogFault → RecoverFault
log_fault (log.Damaged file at) = Damaged file at
log_fault log.Failed = Failed
log_fault log.NoMemory = NoMemory

abbrev pub rows_fault : RowFileFault → RecoverFault
rows_fault (rows.Damaged file at) = Damaged file at
rows_fault (rows.DigestDiffers file kept found) = DigestDiffers file kept found
rows_fault rows.Failed = Failed
rows_fault rows.NoMemory = NoMemory

abbrev pub disk_fault : DiskFault → RecoverFault
disk_fault disk.Failed = Failed
disk_fault disk.NoMemory = NoMemory
