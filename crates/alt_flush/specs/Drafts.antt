-- A draft of the next version: what its files hold on the disk, and the steps by which it comes from the last version.
use Rattle.std.specs.Prelude.{◌≡◌, ◌≤◌, ◌+◌, ◌-◌, ◌==◌, ℕ, List, [], ◌∷◌, ◌++◌, if◌then◌else◌, nat_lt, None}
use Rattle.alt_disk.specs.Disk.{DiskState, IsSettled}
use Rattle.alt_writes.specs.Writes.{Write}
use Rattle.alt_manifest.specs.Versions.{IsIn, IsVersion, files_named}
use Rattle.alt_manifest.specs.declared.version.FamilyVersion.{FamilyVersion}
use Rattle.alt_manifest.specs.declared.version.Version.{Version}
use Rattle.alt_layout.specs.Families.{Held, next_after}
use Rattle.alt_layout.specs.Files.{IsOf, Stored, all_of}
use Rattle.alt_layout.specs.Flushes.{version_with}

-- The files that a draft names lie on the disk, hold these rows and writes, and a stop now leaves what they read as; from its next file on there is none;
-- and its next number is that of the next write.
pub record Drafted (s : DiskState) (u : Version) (held : Held)
    (parts : List (List Write)) : Type 0 where
  pub is : IsVersion u
  pub stored : Stored s.file u held parts
  pub settled : (f : ℕ) → IsIn (files_named u) f → IsSettled s f
  pub fresh : (f : ℕ) → u.next_file ≤ f → s.file f ≡ None
  pub next : u.next_number ≡ next_after u.next_number (all_of parts)

-- ---- The steps.

-- The version with these numbers of the next file and the next write.
abbrev pub renumbered : Version → ℕ → ℕ → Version
renumbered v file next = record {
  next_file = file;
  next_number = next;
  segments = v.segments;
  families = v.families;
}

-- The draft in which the family's rows in memory are in its next file.
abbrev pub with_flush : Version → ℕ → Version
with_flush u family = version_with u family u.next_file u.next_number

-- The families with this one at its place, flushed up to this number and without files.
abbrev pub with_none : ℕ → ℕ → List FamilyVersion → List FamilyVersion
with_none family flushed [] = record { family = family; flushed = flushed; files = [] } ∷ []
with_none family flushed (f ∷ fs) =
    if f.family == family
    then record { family = f.family; flushed = flushed; files = [] } ∷ fs
    else (if nat_lt family f.family
    then record { family = family; flushed = flushed; files = [] } ∷ f ∷ fs
    else f ∷ with_none family flushed fs)

-- The draft in which the family has no files, and no write so far counts for it.
abbrev pub without_family : Version → ℕ → Version
without_family u family = record {
  next_file = u.next_file;
  next_number = u.next_number;
  segments = u.segments;
  families = with_none family (u.next_number - 1) u.families;
}

-- The family in front of others, where it has files.
abbrev pub kept_before : FamilyVersion → List ℕ → List FamilyVersion → List FamilyVersion
kept_before f [] rest = rest
kept_before f (g ∷ gs) rest = f ∷ rest

-- Those of the families that have files.
abbrev pub with_files : List FamilyVersion → List FamilyVersion
with_files [] = []
with_files (f ∷ fs) = kept_before f f.files (with_files fs)

-- The draft over a new segment alone, its next file; families without files are left out.
abbrev pub over_new_log : Version → Version
over_new_log u = record {
  next_file = u.next_file + 1;
  next_number = u.next_number;
  segments = u.next_file ∷ [];
  families = with_files u.families;
}

-- The draft with one segment more behind the others, its next file.
abbrev pub with_segment : Version → Version
with_segment u = record {
  next_file = u.next_file + 1;
  next_number = u.next_number;
  segments = u.segments ++ u.next_file ∷ [];
  families = u.families;
}

-- ---- What is touched, and what is left over.

-- The file is this one or a later one.
abbrev pub From : ℕ → ℕ → Type 0
From file g = file ≤ g

-- One of these files that doesn't belong to the store of this version.
abbrev pub IsLeftOver : List ℕ → Version → ℕ → Type 0
IsLeftOver files v f = IsIn files f × (IsOf v f → ⊥)
