-- A draft of the next version, with the families in hand as they are by it.
use Rattle.std.specs.Prelude.{◌≡◌, ◌≢◌, ◌⊎◌, ◌≤◌, ◌+◌, ◌-◌, ◌^◌, ℕ, Bool, true, false, List, [], ◌∷◌, ◌++◌, length, Option}
use Rattle.std.specs.BTreeMap.{get}
use Rattle.std.specs.FinMap.{empty, entries}
use Rattle.std.specs.Ordering.{nat_cmp}
use Rattle.alt_disk.specs.Disk.{DiskState}
use Rattle.alt_flush.specs.Drafts.{Drafted, without_family}
use Rattle.alt_manifest.specs.Versions.{IsIn, numbers_of}
use Rattle.alt_manifest.specs.declared.version.Version.{Version}
use Rattle.alt_writes.specs.Writes.{Write}
use Rattle.alt_layout.specs.Families.{Held, files_of, flushed_of, layout_of, with_later}
use Rattle.alt_layout.specs.Files.{all_of}
use Rattle.alt_layout.specs.Layout.{Layout}
use Rattle.alt_families.specs.Families.{Families, rows_in, files_in}
use Rattle.alt_families.specs.declared.family.Family.{Family}
use Rattle.alt_rowfile.specs.declared.rowfile.RowFile.{RowFile}
use Rattle.alt_drafts.specs.InHand.{AreOpen}
use Rattle.alt_drafts.specs.declared.fault.EngineFault.{EngineFault}
use Rattle.alt_drafts.specs.Faults.{told_by_engine}
use Rattle.alt_faults.specs.Faults.{OnlySpent}

-- The draft's files lie on the disk, memory has what the log has and none of them, the files in hand are those, and it has this layout.
pub record Makes (s : DiskState) (u : Version) (families : Families) (parts : List (List Write))
    (l : Layout) : Type 0 where
  pub held : Held
  pub drafted : Drafted s u held parts
  pub memory : (family : ℕ) → rows_in (get nat_cmp families family)
      ≡ with_later (flushed_of u.families family) family empty (all_of parts)
  pub opened : (family : ℕ) → AreOpen s held (files_of u.families family)
      (files_in (get nat_cmp families family))
  pub is : l ≡ layout_of u held (all_of parts)

-- ---- Families that aren't live.

-- A layout without the rows of some families that aren't live.
pub record Empties (live : List ℕ) (l m : Layout) : Type 0 where
  pub number : m.next_number ≡ l.next_number
  pub lives : (family : ℕ) → IsIn live family → m.rows family ≡ l.rows family
  pub others : (family : ℕ) → (m.rows family ≡ l.rows family) ⊎ (m.rows family ≡ empty)

-- None of the families is live.
abbrev pub AreDead : List ℕ → List ℕ → Type 0
AreDead live dead = (family : ℕ) → IsIn dead family → IsIn live family → ⊥

-- The draft in which none of these families has files, and no write so far counts for them.
abbrev pub without_families : Version → List ℕ → Version
without_families u [] = u
without_families u (family ∷ families) = without_families (without_family u family) families

-- The version names the family, or it has rows in memory.
abbrev pub IsThere : Version → Option Family → ℕ → Type 0
IsThere v o family = IsIn (numbers_of v.families) family ⊎ (rows_in o ≢ empty)

-- It names the family without files, flushed up to this number.
pub record IsLeftOut (v : Version) (family last : ℕ) : Type 0 where
  pub named : IsIn (numbers_of v.families) family
  pub files : files_of v.families family ≡ []
  pub flushed : flushed_of v.families family ≡ last

-- ---- Rows in memory that become files.

-- There are rows.
abbrev pub is_some_row : {X : Type 0} → List X → Bool
is_some_row [] = false
is_some_row (x ∷ xs) = true

-- A family with rows in memory takes one file, any other none.
abbrev pub files_for : {X : Type 0} → List X → ℕ
files_for [] = 0
files_for (x ∷ xs) = 1

-- A family's rows in memory have become one file more behind its files, or it had none and got none.
pub record MemoryIsFlushed (old new : Option Family) : Type 0 where
  pub rows : rows_in new ≡ empty
  pub made : List RowFile
  pub files : files_in new ≡ files_in old ++ made
  pub count : length made ≡ files_for (entries (rows_in old))

-- How many files the rows in memory of these families take.
abbrev pub files_needed : Families → List ℕ → ℕ
files_needed families [] = 0
files_needed families (f ∷ fs) =
    files_for (entries (rows_in (get nat_cmp families f))) + files_needed families fs

-- A fault that tells a spent number tells of file 2^32 - 1, where the next file is to be this one; and no damage is told.
abbrev pub IsSpentFor : ℕ → EngineFault → Type 0
IsSpentFor next f = OnlySpent (λ number. (number ≡ 2 ^ 32 - 1) × (2 ^ 32 ≤ next))
    (told_by_engine f)
