-- How many numbers of files a task takes.
use Rattle.std.proofs.Common.{◌≤◌, ◌+◌, ⊎_elim, ℕ, List, [], ◌∷◌, length, arith}
use Rattle.std.specs.BTreeMap.{get}
use Rattle.std.specs.FinMap.{entries}
use Rattle.std.specs.Ordering.{nat_cmp}
use Rattle.alt_families.specs.Families.{Families, rows_in}
use Rattle.alt_merging.specs.HandDrafting.{files_for, files_needed}
use Rattle.alt_merging.specs.HandInHand.{next_file_of}
use Rattle.alt_merging.specs.HandWorking.{AreAllFlushed, IsFirstFull, IsFlushDone, IsLong, IsOneFlushed, LogIsShort}
use Rattle.alt_merging.specs.HandDeclaredHand.{Hand}
use Rattle.alt_engine.specs.Working.{most_files_of_task}

-- the rows in memory of one family take one at most
pub files_for-most : {X : Type 0} (xs : List X) → files_for xs ≤ 1
files_for-most [] = omega arith
files_for-most (x ∷ xs) = omega arith

-- and those of several one each
pub needed-most : (families : Families) (fs : List ℕ) → files_needed families fs ≤ length fs
needed-most families [] = omega arith
needed-most families (f ∷ fs) =
    let first = files_for-most (entries (rows_in (get nat_cmp families f))) in
    let rest = needed-most families fs in omega (arith, first, rest)

-- so does a flush of all, with one for the log
pub taken_all : (live : List ℕ) (old new : Hand) → AreAllFlushed live old new
    → next_file_of new ≤ next_file_of old + most_files_of_task live
taken_all live old new flushed =
    let file = flushed.file in
    let most = needed-most old.families live in omega (arith, file, most)

-- and what a step flushes takes no more
pub taken_due : (live : List ℕ) (old new : Hand) → IsFlushDone live old new
    → next_file_of new ≤ next_file_of old + most_files_of_task live
taken_due live old new done = ⊎_elim
    (λ (all : IsLong old × AreAllFlushed live old new). taken_all live old new all.1)
    (λ (one : LogIsShort old × ((family : ℕ) × IsFirstFull live old family
    × IsOneFlushed live old new family)).
    let file = one.1.2.file in
    let most = files_for-most (entries (rows_in (get nat_cmp old.families one.1.0))) in
    omega (arith, file, most)) done
