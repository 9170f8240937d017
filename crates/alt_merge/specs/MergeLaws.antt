-- What a merge stands for lasts while its sources' files stay as they read.
use Rattle.std.specs.Prelude.{◌||◌, ℕ, Bool, true, false, IsTrue, List, [], ◌∷◌}
use Rattle.std.proofs.Common.{refl, subst}
use Rattle.alt_disk.specs.Disk.{DiskState}
use Rattle.alt_cells.specs.Walks.{RowMap, RowList, SameFiles}
use Rattle.alt_merge.specs.declared.merge.Merge.{Merge}
use Rattle.alt_merge.specs.Merges.{Each2, any_reads}
use Rattle.alt_merge.specs.Whole.{merge_reads, merge_holds, merge_left}

-- a file that the first source reads is read
pub or_left : (a b : Bool) → IsTrue a → IsTrue (a || b)
or_left true b h = refl
or_left false b h = absurd (subst (λ v. elim v as (λ _. Type 0) [ true ↦ ⊥ | false ↦ Unit {0} ]) h
    tt)

-- and one that the others read
pub or_right : (a b : Bool) → IsTrue b → IsTrue (a || b)
or_right true b h = refl
or_right false b h = h

module _ {S M : Type 0} (Is : DiskState → S → M → Type 0) (reads : S → ℕ → Bool)
    (is_on : (old new : DiskState) (x : S) (rows : M) → SameFiles (reads x) old new → Is old x rows
    → Is new x rows) where
  -- what each source stands for lasts while all its files read the same
  each_on : (old new : DiskState) (xs : List S) (ms : List M)
      → SameFiles (any_reads reads xs) old new → Each2 (Is old) xs ms → Each2 (Is new) xs ms
  each_on old new [] [] same each = each
  each_on old new [] (m ∷ ms) same each = each
  each_on old new (x ∷ xs) [] same each = each
  each_on old new (x ∷ xs) (m ∷ ms) same each = (
    is_on old new x m (λ f r. same f (or_left (reads x f) (any_reads reads xs f) r)) each.0,
    each_on old new xs ms (λ f r. same f (or_right (reads x f) (any_reads reads xs f) r))
        each.1,
  )

module _ {S : Type 0} (reads : S → ℕ → Bool) where
  -- the rows that a merge holds last, where those of its sources do
  pub merge_holds_on : (Holds : DiskState → S → RowMap → Type 0)
      → ((old new : DiskState) (x : S) (rows : RowMap) → SameFiles (reads x) old new
      → Holds old x rows → Holds new x rows)
      → (old new : DiskState) (merge : Merge S) (rows : RowMap)
      → SameFiles (merge_reads reads merge) old new → merge_holds Holds old merge rows
      → merge_holds Holds new merge rows
  merge_holds_on Holds on old new merge rows same h =
      record {
        maps = h.maps;
        each = each_on Holds reads on old new merge.sources.items h.maps same
            h.each;
        same = h.same;
      }

  -- and those that are left of it
  pub merge_left_on : (Left : DiskState → S → RowList → Type 0)
      → ((old new : DiskState) (x : S) (rows : RowList) → SameFiles (reads x) old new
      → Left old x rows → Left new x rows)
      → (old new : DiskState) (merge : Merge S) (rows : RowList)
      → SameFiles (merge_reads reads merge) old new → merge_left Left old merge rows
      → merge_left Left new merge rows
  merge_left_on Left on old new merge rows same h =
      record {
        tails = h.tails;
        each = each_on Left reads on old new merge.sources.items h.tails
            same h.each;
        counted = h.counted;
        sorted = h.sorted;
        same = h.same;
      }
