-- The tables of a catalog, read one after the other in the order of their families.
use Rattle.std.proofs.Common.{◌≡◌, ◌⊎◌, ◌≤◌, ◌<◌, ⊎_elim, sym, subst, ℕ, List, Some, arith}
use Rattle.std.specs.FinMap as map
use Rattle.alt_layout.specs.Layout.{Layout}
use Rattle.alt_machine.specs.declared.TheConstants.{NUMBERS_END}
use Rattle.alt_machine.specs.State.{Texts}
use Rattle.alt_schema.specs.declared.schema.TableSchema.{TableSchema}
use Rattle.alt_opening.specs.private.IndexScans.{IndexesRead, IsFirstOfOwn, IsOwnFault}
use Rattle.alt_opening.specs.private.Opening.{IsCatalog, IsFirstAmong, IsFirstIn, IsIndexesFault, IsLeastTable, IsRowFault, IsStreamsFault}
use Rattle.alt_opening.specs.Recovery.{IsFirstWrong}
use Rattle.alt_opening.specs.Scans.{IsDeviceFault, IsFirstBad, IsItemFault, ItemsRead}
use Rattle.alt_opening.specs.StreamScans.{ChangesRead, IsFirstOfStream, IsStreamFault}
use Rattle.alt_opening.specs.declared.faults.OpenFault.{OpenFault}
use Rattle.alt_faults.specs.Faults.{RowWhere}
use Rattle.alt_faults.proofs.Telling.{outside-tells, row-more}
use Rattle.alt_opening.specs.Faults.{told_by_opening}
use Rattle.alt_opening.proofs.FirstWrong.{known_family, same_table, item_wrong}

-- a number is up to another, or above it
pub up_to_or_above : (m n : ℕ) → (m ≤ n) ⊎ (n < m)
up_to_or_above m n = grind arith

-- a fault of the device is none of a row
pub device_fault : (l : Layout) (fault : OpenFault) → IsDeviceFault fault → IsRowFault l fault
device_fault l fault = outside-tells (λ n. ⊥) (RowWhere (IsFirstWrong l)) (told_by_opening fault)

-- something is so of the tables up to a family
abbrev pub AreUpTo : (TableSchema → Type 0) → Texts TableSchema → ℕ → Type 0
AreUpTo P catalog family = (name : List ℕ) (d : TableSchema) → map.get catalog name ≡ Some d
    → d.family ≤ family → P d

-- the items of the tables up to a family are read
abbrev pub ReadUpTo : Layout → Texts TableSchema → ℕ → Type 0
ReadUpTo l catalog family = AreUpTo (ItemsRead l) catalog family

-- and their streams
abbrev pub ChangesUpTo : Layout → Texts TableSchema → ℕ → Type 0
ChangesUpTo l catalog family = AreUpTo (ChangesRead l) catalog family

-- and their indexes
abbrev pub IndexesUpTo : Layout → Texts TableSchema → ℕ → Type 0
IndexesUpTo l catalog family = AreUpTo (IndexesRead l) catalog family

module _ (l : Layout) (next : ℕ) (catalog : Texts TableSchema) (read : IsCatalog l next catalog)
    (number : (1 ≤ l.next_number) × (l.next_number ≤ NUMBERS_END)) where
  module _ (P : TableSchema → Type 0) where
    -- no table is of family 0
    pub none_yet : AreUpTo P catalog 0
    none_yet name d at low =
        let high = (known_family l next catalog read number name d at).0 in
        absurd (omega (arith, high, low))

    module _ (family : ℕ) (so_far : AreUpTo P catalog family) where
      -- that of the next table too
      pub one_more : (d : TableSchema) → IsLeastTable catalog family d → P d
          → AreUpTo P catalog d.family
      one_more d least this other e at low = ⊎_elim
          (λ (before : e.family ≤ family). so_far other e at before)
          (λ (behind : family < e.family).
          let from = least.least other e at behind in
          subst P (same_table l next catalog read number least.name other d e least.there
          at (omega (arith, low, from))) this)
          (up_to_or_above e.family family)

      -- so it is of all of lesser families
      pub of_lesser : (d : TableSchema) → IsLeastTable catalog family d → (other : List ℕ)
          (e : TableSchema) → map.get catalog other ≡ Some e → e.family < d.family → P e
      of_lesser d least other e at below = ⊎_elim
          (λ (before : e.family ≤ family). so_far other e at before)
          (λ (behind : family < e.family).
          let from = least.least other e at behind in
          absurd (omega (arith, below, from)))
          (up_to_or_above e.family family)

  -- a wrong row of the next table is the first wrong one
  pub wrong_next : (family : ℕ) → ReadUpTo l catalog family → (d : TableSchema)
      → IsLeastTable catalog family d → (fault : OpenFault) → IsItemFault l d fault
      → IsRowFault l fault
  wrong_next family so_far d least fault = row-more
      (λ f key. (f ≡ d.family) × IsFirstBad l d key) (IsFirstWrong l)
      (λ f key is. subst (λ g. IsFirstWrong l g key) (sym is.0)
      (item_wrong l next catalog read number least.name d least.there
      (of_lesser (ItemsRead l) family so_far d least) key is.1)) (told_by_opening fault)

  -- one of its stream is the first of the streams
  pub wrong_stream : (family : ℕ) → ChangesUpTo l catalog family → (d : TableSchema)
      → IsLeastTable catalog family d → (fault : OpenFault) → IsStreamFault l d fault
      → IsStreamsFault l catalog fault
  wrong_stream family so_far d least fault = row-more (IsFirstOfStream l d)
      (IsFirstAmong l catalog) (λ f key is. record {
        name = least.name;
        description = d;
        there = least.there;
        first = is;
        lesser = of_lesser (ChangesRead l) family so_far d least;
      }) (told_by_opening fault)

  -- and one of its indexes is the first of the indexes
  pub wrong_index : (family : ℕ) → IndexesUpTo l catalog family → (d : TableSchema)
      → IsLeastTable catalog family d → (fault : OpenFault) → IsOwnFault l d fault
      → IsIndexesFault l catalog fault
  wrong_index family so_far d least fault = row-more (IsFirstOfOwn l d) (IsFirstIn l catalog)
      (λ f key is. record {
        name = least.name;
        description = d;
        there = least.there;
        first = is;
        lesser = of_lesser (IndexesRead l) family so_far d least;
      }) (told_by_opening fault)
