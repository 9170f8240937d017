-- Files of a family that need no merge.
use Rattle.std.specs.Prelude.{List, [], ◌∷◌}
use Rattle.alt_disk.specs.Disk.{DiskState}
use Rattle.alt_rowfile.specs.declared.rowfile.RowFile.{RowFile}
use Rattle.alt_merging.specs.Mergings.{FileIsPurged}

-- There is one at most, without tombstones, and so without hidden cells.
abbrev pub AreMerged : DiskState → List RowFile → Type 0
AreMerged s [] = Unit {0}
AreMerged s (f ∷ []) = FileIsPurged s f
AreMerged s (f ∷ g ∷ fs) = ⊥
