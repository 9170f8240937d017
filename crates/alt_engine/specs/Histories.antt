-- What families show after any calls of an engine, in any order.
use Rattle.std.specs.Prelude.{◌≡◌, ◌⊎◌, ℕ, List, [], ◌∷◌}
use Rattle.std.specs.FinMap.{empty}
use Rattle.std.specs.List.{AllByRecursion}
use Rattle.alt_cells.specs.declared.batch.RowChange.{RowChange}
use Rattle.alt_layout.specs.Layout.{Layout, IsPast, shown}
use Rattle.alt_layout.specs.Writes.{changes_in, with_writes}
use Rattle.alt_manifest.specs.Versions.{IsIn}
use Rattle.alt_merging.specs.HandInHand.{batch_writes}
use Rattle.alt_merging.specs.HandWorking.{Works}

-- A call of an engine: batches are joined, work is done while these families are live, or the store is opened again.
pub data EngineCall : Type 0 where
  applied : List (List RowChange) → EngineCall
  worked : List ℕ → EngineCall
  opened : EngineCall

-- What one call makes of the layout that the engine stands for, as the clauses `ok` of `apply_all`, `work` and `recover` say.
abbrev pub CallLeads : EngineCall → Layout → Layout → Type 0
CallLeads (applied batches) l m = m ≡ with_writes l (batch_writes l batches)
CallLeads (worked live) l m = Works live l m
CallLeads opened l m = m ≡ l

-- What several make of it, the first one first. Each layout is one of an engine, whose timestamps are below its next number.
abbrev pub Lead : List EngineCall → Layout → Layout → Type 0
Lead [] l m = m ≡ l
Lead (c ∷ cs) l m = (k : Layout) × CallLeads c l k × IsPast k × Lead cs k m

-- The layout with the batches alone.
abbrev pub with_batches_alone : List EngineCall → Layout → Layout
with_batches_alone [] l = l
with_batches_alone (applied batches ∷ cs) l =
    with_batches_alone cs (with_writes l (batch_writes l batches))
with_batches_alone (worked live ∷ cs) l = with_batches_alone cs l
with_batches_alone (opened ∷ cs) l = with_batches_alone cs l

-- The batch has no row of the family.
abbrev pub HasNoRowOfFamily : ℕ → List RowChange → Type 0
HasNoRowOfFamily family changes = (number : ℕ) → changes_in number family changes ≡ empty

-- None of the batches has.
abbrev pub HaveNone : ℕ → List (List RowChange) → Type 0
HaveNone family batches = AllByRecursion (HasNoRowOfFamily family) batches

-- Each call of work names the family.
abbrev pub IsNamedByCalls : ℕ → List EngineCall → Type 0
IsNamedByCalls family [] = Unit {0}
IsNamedByCalls family (applied batches ∷ cs) = IsNamedByCalls family cs
IsNamedByCalls family (worked live ∷ cs) = IsIn live family × IsNamedByCalls family cs
IsNamedByCalls family (opened ∷ cs) = IsNamedByCalls family cs

-- Each does since the first batch that has a row of it.
abbrev pub IsNamedSince : ℕ → List EngineCall → Type 0
IsNamedSince family [] = Unit {0}
IsNamedSince family (applied batches ∷ cs) =
    (HaveNone family batches × IsNamedSince family cs) ⊎ IsNamedByCalls family cs
IsNamedSince family (worked live ∷ cs) = IsNamedSince family cs
IsNamedSince family (opened ∷ cs) = IsNamedSince family cs

-- From a layout in which it has no rows, a family that every call of work names since its first row shows in the end what the batches give.
abbrev pub ShowsBatches : Type 0
ShowsBatches = (cs : List EngineCall) (l m : Layout) (family : ℕ) → IsPast l → l.rows family ≡ empty
    → Lead cs l m → IsNamedSince family cs → (key : List ℕ)
    → shown m family key ≡ shown (with_batches_alone cs l) family key
