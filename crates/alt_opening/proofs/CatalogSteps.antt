-- One row of the catalog more: its table is known, or it is the first wrong row.
use Rattle.std.proofs.Common.{◌≡◌, ◌≤◌, refl, sym, subst, inl, ℕ, false, List, [], ◌∷◌, ◌++◌, None}
use Rattle.std.specs.Ordering.{eq_by_cmp}
use Rattle.std.specs.FinMap as map
use Rattle.alt_cells.specs.Changes.{Columns}
use Rattle.alt_cells.specs.Keys.{key_cmp}
use Rattle.alt_layout.specs.Layout.{Layout}
use Rattle.alt_machine.specs.declared.TheConstants.{NUMBERS_END}
use Rattle.alt_machine.specs.State.{Texts}
use Rattle.alt_schema.specs.declared.schema.TableSchema.{TableSchema}
use Rattle.alt_opening.specs.private.Opening.{IsCatalog, IsNextFamily, IsReadUpTo, IsTableAt}
use Rattle.alt_opening.specs.Recovery.{IsFirstWrong}
use Rattle.alt_opening.specs.Scans.{IsBelow, IsFirstFrom, IsNextRow}
use Rattle.alt_opening.specs.StateRows.{catalog_family}
use Rattle.alt_opening.proofs.CatalogScan.{below_on, catalog_next, catalog_all, catalog_more, catalog_none}
use Rattle.alt_opening.proofs.NextRow.{after_below}
use Rattle.alt_opening.proofs.WrongTable.{table_wrong}

-- a key above the empty one isn't empty
named : (name : List ℕ) → IsBelow [] name → eq_by_cmp key_cmp name [] ≡ false
named [] low = absurd (let f : ⊥ = cc in f)
named (c ∷ cs) low = refl

-- the tables before the first row
pub step_start : (l : Layout) (next : ℕ) (catalog : Texts TableSchema) (from : List ℕ)
    → IsNextFamily l next → catalog ≡ map.empty → from ≡ 0 ∷ [] → IsReadUpTo l next from catalog
step_start l next catalog from is none at =
    (subst (IsBelow []) (sym at) refl, catalog_none l next catalog from is none at)

module _ (l : Layout) (number : (1 ≤ l.next_number) × (l.next_number ≤ NUMBERS_END)) (next : ℕ)
    (catalog : Texts TableSchema) (from : List ℕ) (so_far : IsReadUpTo l next from catalog) where
  -- where no row follows, all tables are known
  pub step_none : IsNextRow l catalog_family from None → IsCatalog l next catalog
  step_none none = catalog_all l next catalog from so_far.1 none

  module _ (name : List ℕ) (row : Columns) (first : IsFirstFrom l catalog_family from name row)
      (n : ℕ) (is : n ≡ l.next_number) where
    low : IsBelow [] name
    low = below_on [] from name so_far.0 first.later

    -- a row that is that of no table is the first wrong one
    pub step_wrong : ((d : TableSchema) → IsTableAt n next catalog name row d → ⊥)
        → IsFirstWrong l catalog_family name
    step_wrong none = table_wrong l next catalog name row number
        (catalog_next l next catalog from so_far.1 name row first) (named name low) low first.shows
        (subst (λ m. (d : TableSchema) → IsTableAt m next catalog name row d → ⊥) is none)

    -- that of a table is known with those before it
    pub step_more : (d : TableSchema) → IsTableAt n next catalog name row d
        → (new : Texts TableSchema) → new ≡ map.insert catalog d.name d
        → (after : List ℕ) → after ≡ name ++ 0 ∷ [] → IsReadUpTo l next after new
    step_more d at new added after behind = (
      subst (IsBelow []) (sym behind) (after_below [] name (inl low)),
      catalog_more l next catalog new name after row d
          (catalog_next l next catalog from so_far.1 name row first) first.shows
          (subst (λ m. IsTableAt m next catalog name row d) is at) added behind,
    )
