-- What the changes of a write make of the rows that families have in memory.
use Rattle.std.specs.Prelude.{◌≡◌, ◌⊎◌, ℕ, List, [], ◌∷◌}
use Rattle.std.specs.BTreeMap.{get}
use Rattle.std.specs.Ordering.{nat_cmp}
use Rattle.alt_cells.specs.declared.batch.RowChange.{RowChange}
use Rattle.alt_cells.specs.Joined.{joined_map}
use Rattle.alt_cells.specs.Rows.{join_row}
use Rattle.alt_layout.specs.Writes.{changes_in, rows_with}
use Rattle.alt_writes.specs.Writes.{Write}
use Rattle.alt_families.specs.Families.{Families, rows_in, files_in}

-- Each family has the changes of a write of this number joined to its rows in memory, and its files as they were.
pub record IsWrittenTo (old new : Families) (number : ℕ) (changes : List RowChange) : Type 0 where
  pub rows : (f : ℕ) → rows_in (get nat_cmp new f)
      ≡ joined_map join_row (rows_in (get nat_cmp old f)) (changes_in number f changes)
  pub files : (f : ℕ) → files_in (get nat_cmp new f) ≡ files_in (get nat_cmp old f)

-- A write changes rows of the family.
abbrev pub IsChanged : List RowChange → ℕ → Type 0
IsChanged [] family = ⊥
IsChanged (c ∷ cs) family = (family ≡ c.family) ⊎ IsChanged cs family

-- Each family has the changes of writes joined to its rows in memory, one write after another, and its files as they were.
pub record AreWrittenTo (old new : Families) (ws : List Write) : Type 0 where
  pub rows : (f : ℕ) → rows_in (get nat_cmp new f)
      ≡ rows_with f (rows_in (get nat_cmp old f)) ws
  pub files : (f : ℕ) → files_in (get nat_cmp new f) ≡ files_in (get nat_cmp old f)

-- One of several writes changes rows of the family.
abbrev pub AreChanged : List (List RowChange) → ℕ → Type 0
AreChanged [] family = ⊥
AreChanged (b ∷ bs) family = IsChanged b family ⊎ AreChanged bs family
