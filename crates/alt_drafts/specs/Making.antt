-- Why a store is not made, and what is left while it is.
use Rattle.std.specs.Prelude.{◌≡◌, ◌≢◌, ◌<◌, ℕ, List, [], Option, None}
use Rattle.alt_disk.specs.Disk.{DiskState, now}
use Rattle.alt_disk.specs.Fates.{Fits}
use Rattle.alt_disk.specs.declared.disk.DiskFault.{DiskFault}
use Rattle.alt_disk.specs.declared.disk.DiskFault.TheVariants as disk_fault
use Rattle.alt_gatelog.specs.Log.{IsLog}
use Rattle.alt_gatelog.specs.declared.form.Form.TheVariants.{Two}
use Rattle.alt_layout.specs.Fresh.{versions_file, entries_file}
use Rattle.alt_manifest.specs.Versions.{HasVersion}
use Rattle.alt_manifest.specs.declared.version.Version.{Version}
use Rattle.alt_drafts.specs.declared.make.MakeFault.{MakeFault}
use Rattle.alt_drafts.specs.declared.make.MakeFault.TheVariants.{NotEmpty, Failed, NoMemory}

-- a fault of the disk, as one of the making
abbrev pub made_fault : DiskFault → MakeFault
made_fault disk_fault.Failed = Failed
made_fault disk_fault.NoMemory = NoMemory

-- where it says that the disk isn't empty, it names the first file that is there
abbrev pub NamesFirst : (ℕ → Option (List ℕ)) → MakeFault → Type 0
NamesFirst file (NotEmpty first) = (file first ≢ None) × ((f : ℕ) → f < first → file f ≡ None)
NamesFirst file Failed = Unit {0}
NamesFirst file NoMemory = Unit {0}

-- no stop now leaves a file of versions
abbrev pub LeavesNoVersions : DiskState → Type 0
LeavesNoVersions s = (left : Option (List ℕ)) → Fits (now s versions_file) left → left ≡ None

-- files with a version have the segment that it names, which has no entry
abbrev pub HasSegment : ℕ → (ℕ → Option (List ℕ)) → Type 0
HasSegment moment image =
    (v : Version) → HasVersion v (image versions_file) → IsLog Two [] (image entries_file)
