-- Several walks as one: what is in hand of each, and what is left of all.
use Rattle.std.specs.Prelude.{◌≡◌, ◌≢◌, ◌||◌, ℕ, Bool, false, T, List, [], ◌∷◌, length, zip, Option, Some, None}
use Rattle.std.specs.declared.cmp.Ordering.TheVariants.{Greater}
use Rattle.std.specs.FinMap.{empty}
use Rattle.std.specs.FinMap.Entries.{is_sorted, below_all}
use Rattle.alt_disk.specs.Disk.{DiskState}
use Rattle.alt_cells.specs.Joined.{all_joined, joined_entries, joined_map}
use Rattle.alt_cells.specs.declared.row.RowCells.{RowCells}
use Rattle.alt_cells.specs.Rows.{join_row}
use Rattle.alt_cells.specs.Walks.{RowMap, RowList, walk_cmp}
use Rattle.alt_merge.specs.declared.head.Head.{Head}
use Rattle.alt_merge.specs.declared.head.Head.TheVariants.{Due, Held, End}

-- each of the first with the one at its place of the second
abbrev pub Each2 : {A B : Type 0} → (A → B → Type 0) → List A → List B → Type 0
Each2 P [] [] = Unit {0}
Each2 P [] (y ∷ ys) = ⊥
Each2 P (x ∷ xs) [] = ⊥
Each2 P (x ∷ xs) (y ∷ ys) = P x y × Each2 P xs ys

-- Each of the first was called, one after the other, and is then the one at its place of the second: each call began with the disk as the
-- one before it left it.
abbrev pub InTurn : {S : Type 0} → (DiskState → DiskState → S → S → Type 0) → DiskState
    → DiskState → List S → List S → Type 0
InTurn Calls old new [] [] = new ≡ old
InTurn Calls old new [] (y ∷ ys) = ⊥
InTurn Calls old new (x ∷ xs) [] = ⊥
InTurn Calls old new (x ∷ xs) (y ∷ ys) =
    (between : DiskState) × Calls old between x y × InTurn Calls between new xs ys

-- what is left of a source, with the row in hand before it
abbrev pub with_head : Head → RowList → RowList
with_head Due rows = rows
with_head (Held key row) rows = (key, row) ∷ rows
with_head End rows = []

-- what is left of each source, with its row in hand before it
abbrev pub with_heads : List Head → List RowList → List RowList
with_heads [] tails = []
with_heads (h ∷ heads) [] = []
with_heads (h ∷ heads) (t ∷ tails) = with_head h t ∷ with_heads heads tails

-- each of the lists is in the order of the walk
abbrev pub AllSorted : Bool → List RowList → Type 0
AllSorted forward [] = Unit {0}
AllSorted forward (l ∷ ls) = T (is_sorted (walk_cmp forward) l) × AllSorted forward ls

-- the rows of all sources, joined
abbrev pub all_rows : List RowMap → RowMap
all_rows [] = empty
all_rows (m ∷ ms) = joined_map join_row m (all_rows ms)

-- the files that one source or another reads
abbrev pub any_reads : {S : Type 0} → (S → ℕ → Bool) → List S → ℕ → Bool
any_reads reads [] f = false
any_reads reads (x ∷ xs) f = reads x f || any_reads reads xs f

-- sources that hold rows together: each holds a map, and the maps joined are those rows
pub record MergeHolds {S : Type 0} (Holds : S → RowMap → Type 0) (sources : List S)
    (rows : RowMap) : Type 0 where
  pub maps : List RowMap
  pub each : Each2 Holds sources maps
  pub same : rows ≡ all_rows maps

-- sources that have rows left: each has a tail, and the heads before the tails, joined in the order of
-- the walk, are those rows
pub record MergeLeft {S : Type 0} (Left : S → RowList → Type 0) (sources : List S)
    (heads : List Head) (forward : Bool) (rows : RowList) : Type 0 where
  pub tails : List RowList
  pub each : Each2 Left sources tails
  pub counted : length heads ≡ length sources
  pub sorted : AllSorted forward (with_heads heads tails)
  pub same : rows ≡ all_joined (walk_cmp forward) join_row (with_heads heads tails)

-- it is known what stands at the front of its source
abbrev pub IsFilled : Head → Type 0
IsFilled Due = ⊥
IsFilled (Held key row) = Unit {0}
IsFilled End = Unit {0}

-- what a source gave is in hand: a row, or that there is none
abbrev pub in_hand : Option (List ℕ × RowCells) → Head
in_hand None = End
in_hand (Some e) = Held e.0 e.1

-- A source was asked for its next row where its head was due, and what it gave is in hand then; else it wasn't called, and its head stays.
abbrev pub IsFilledBy : {S : Type 0}
    → (DiskState → DiskState → S → Option (List ℕ × RowCells) → S → Type 0)
    → DiskState → DiskState → S → Head → S → Head → Type 0
IsFilledBy Nexts old new x Due y head =
    (given : Option (List ℕ × RowCells)) × Nexts old new x given y × (head ≡ in_hand given)
IsFilledBy Nexts old new x (Held key row) y head = (new ≡ old) × (y ≡ x) × (head ≡ Held key row)
IsFilledBy Nexts old new x End y head = (new ≡ old) × (y ≡ x) × (head ≡ End)

-- so it was with each of these sources and its head, one after the other
pub record AreFilledBy {S : Type 0}
    (Nexts : DiskState → DiskState → S → Option (List ℕ × RowCells) → S → Type 0)
    (old new : DiskState) (xs : List S) (hs : List Head) (ys : List S) (gs : List Head) : Type 0 where
  pub heads_before : length hs ≡ length xs
  pub heads_after : length gs ≡ length ys
  pub filled : InTurn (λ a b p q. IsFilledBy Nexts a b p.0 p.1 q.0 q.1) old new (zip xs hs) (zip ys gs)

-- of every source it is known what stands at its front
abbrev pub AllFilled : List Head → Type 0
AllFilled [] = Unit {0}
AllFilled (h ∷ heads) = IsFilled h × AllFilled heads

-- of no source it is known yet what stands at its front
abbrev pub AllDue : List Head → Type 0
AllDue [] = Unit {0}
AllDue (Due ∷ heads) = AllDue heads
AllDue (Held key row ∷ heads) = ⊥
AllDue (End ∷ heads) = ⊥

-- the maps of several sources, one each
abbrev pub HoldsEach : {S : Type 0} → (DiskState → S → RowMap → Type 0) → DiskState → List S
    → List RowMap → Type 0
HoldsEach Holds s sources maps = Each2 (Holds s) sources maps

-- with the heads before what is left of the sources, these lists are left
abbrev pub LeftWith : {S : Type 0} → (S → RowList → Type 0) → List S → List Head → List RowList
    → Type 0
LeftWith Left sources heads lists = (tails : List RowList) × Each2 Left sources tails
    × (with_heads heads tails ≡ lists)

-- a key that a walk may give now: none in hand comes before it
abbrev pub NotAbove : Bool → List ℕ → Head → Type 0
NotAbove forward key Due = Unit {0}
NotAbove forward key (Held other row) = walk_cmp forward key other ≢ Greater
NotAbove forward key End = Unit {0}

-- a key that a walk may give now: none of those in hand comes before it
abbrev pub AllNotAbove : Bool → List ℕ → List Head → Type 0
AllNotAbove forward key [] = Unit {0}
AllNotAbove forward key (h ∷ heads) = NotAbove forward key h × AllNotAbove forward key heads

-- a row in hand that a walk may give now
abbrev pub IsLeast : Bool → Head → List Head → Type 0
IsLeast forward Due heads = ⊥
IsLeast forward (Held key row) heads = AllNotAbove forward key heads
IsLeast forward End heads = ⊥

-- a row is in hand
abbrev pub HeadHoldsRow : Head → Type 0
HeadHoldsRow Due = ⊥
HeadHoldsRow (Held key row) = Unit {0}
HeadHoldsRow End = ⊥

-- no row is in hand of any source
abbrev pub NoneHeld : List Head → Type 0
NoneHeld [] = Unit {0}
NoneHeld (h ∷ heads) = (HeadHoldsRow h → ⊥) × NoneHeld heads

-- all keys of a source from its head on are at or behind the key, and behind it where the head is due
abbrev pub Ready : Bool → List ℕ → Head → RowList → Type 0
Ready forward key Due tail = T (below_all (walk_cmp forward) key tail)
    × T (is_sorted (walk_cmp forward) tail)
Ready forward key (Held other row) tail = (walk_cmp forward key other ≢ Greater)
    × T (is_sorted (walk_cmp forward) ((other, row) ∷ tail))
Ready forward key End tail = Unit {0}

-- the row joined with all that have its key, and what is left behind it
abbrev pub Gathers : List ℕ → RowCells → List Head → List Head → List ℕ × RowCells → Type 0
Gathers key row before after given = (forward : Bool) (tails : List RowList)
    → Each2 (Ready forward key) before tails
    → AllSorted forward (with_heads after tails)
    × (joined_entries (walk_cmp forward) join_row ((key, row) ∷ [])
    (all_joined (walk_cmp forward) join_row (with_heads before tails))
    ≡ given ∷ all_joined (walk_cmp forward) join_row (with_heads after tails))

-- the row given is the first of what was left, and the others are left now
abbrev pub GivesFirst : Bool → List Head → List Head → List RowList → Option (List ℕ × RowCells)
    → Type 0
GivesFirst forward before after tails None = ⊥
GivesFirst forward before after tails (Some given) = AllSorted forward (with_heads after tails)
    × (all_joined (walk_cmp forward) join_row (with_heads before tails)
    ≡ given ∷ all_joined (walk_cmp forward) join_row (with_heads after tails))
