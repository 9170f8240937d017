-- A merge: the rows that it stands for, and those that are left.
use Rattle.std.specs.Prelude.{◌≡◌, ℕ, Bool, List, [], length, map, Option, None}
use Rattle.alt_disk.specs.Disk.{DiskState}
use Rattle.alt_cells.specs.Walks.{RowMap, RowList, Gives, walk_cmp}
use Rattle.alt_cells.specs.Joined.{all_joined}
use Rattle.alt_cells.specs.Rows.{join_row}
use Rattle.alt_cells.specs.declared.row.RowCells.{RowCells}
use Rattle.alt_merge.specs.declared.head.Head.{Head}
use Rattle.alt_merge.specs.declared.merge.Merge.{Merge}
use Rattle.alt_merge.specs.Costs.{AreFreed, all_width}
use Rattle.alt_merge.specs.Merges.{AreFilledBy, MergeHolds, MergeLeft, InTurn, any_reads, with_head}

-- its sources
abbrev pub sources_of : {S : Type 0} → Merge S → List S
sources_of merge = merge.sources.items

-- what is in hand of each
abbrev pub heads_of : {S : Type 0} → Merge S → List Head
heads_of merge = merge.heads.items

-- whether it goes forward
abbrev pub is_forward : {S : Type 0} → Merge S → Bool
is_forward merge = merge.forward

-- the files that a merge reads: those of its sources
abbrev pub merge_reads : {S : Type 0} → (S → ℕ → Bool) → Merge S → ℕ → Bool
merge_reads reads merge = any_reads reads merge.sources.items

-- a call on a merge costs at most one of each source
abbrev pub merge_width : {S : Type 0} → (S → ℕ) → Merge S → ℕ
merge_width width merge = all_width width merge.sources.items

-- a merge was sought where each of its sources was, one after the other
abbrev pub merge_seeks : {S : Type 0}
    → (DiskState → DiskState → S → Option (List ℕ) → Bool → S → Type 0)
    → DiskState → DiskState → Merge S → Option (List ℕ) → Bool → Merge S → Type 0
merge_seeks Seeks old new before from forward after =
    InTurn (λ a b x y. Seeks a b x from forward y) old new before.sources.items after.sources.items

-- the rows in hand of several sources, joined, in the order of a walk
abbrev pub held_rows : Bool → List Head → RowList
held_rows forward heads =
    all_joined (walk_cmp forward) join_row (map (λ h. with_head h []) heads)

-- Of these the first is given, and the sources whose heads have its key are due then, while the other heads stay; None where no row is in hand.
abbrev pub HeadsGive : Bool → List Head → List Head → Option (List ℕ × RowCells) → Type 0
HeadsGive forward before after given =
    Gives (λ rows. rows ≡ held_rows forward after) (held_rows forward before) given
    × AreFreed given before after

-- A merge gives None where it wasn't sought. Else each source that was due was asked, one after the other, and of what is in hand then it
-- gives the first row.
pub data MergeNext {S : Type 0}
    (Nexts : DiskState → DiskState → S → Option (List ℕ × RowCells) → S → Type 0)
    (old new : DiskState) (before : Merge S) (given : Option (List ℕ × RowCells)) (after : Merge S)
    : Type 0 where
  unsought : (length before.heads.items ≡ length before.sources.items → ⊥) → given ≡ None
      → new ≡ old → after ≡ before → MergeNext Nexts old new before given after
  asked : (filled : List Head)
      → AreFilledBy Nexts old new before.sources.items before.heads.items after.sources.items filled
      → HeadsGive before.forward filled after.heads.items given → after.forward ≡ before.forward
      → MergeNext Nexts old new before given after

-- the same, as a merge's word of what an answer says
abbrev pub merge_nexts : {S : Type 0}
    → (DiskState → DiskState → S → Option (List ℕ × RowCells) → S → Type 0)
    → DiskState → DiskState → Merge S → Option (List ℕ × RowCells) → Merge S → Type 0
merge_nexts Nexts old new before given after = MergeNext Nexts old new before given after

-- the rows that a merge stands for: those of its sources, joined
abbrev pub merge_holds : {S : Type 0} → (DiskState → S → RowMap → Type 0) → DiskState → Merge S
    → RowMap → Type 0
merge_holds Holds s merge rows = MergeHolds (Holds s) merge.sources.items rows

-- the rows that a merge still gives, in the order of its walk
abbrev pub merge_left : {S : Type 0} → (DiskState → S → RowList → Type 0) → DiskState → Merge S
    → RowList → Type 0
merge_left Left s merge rows = MergeLeft (Left s) merge.sources.items merge.heads.items
    merge.forward rows
