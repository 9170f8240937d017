-- What the list of the items that are due next tells of expired items, and what it is told.
use Rattle.std.specs.Prelude.{◌≡◌, ℕ, Bool, true, false, List, [], ◌∷◌, ◌++◌, Option, Some, None}
use Rattle.std.specs.FinMap as map
use Rattle.std.specs.Option.{option_map_or}
use Rattle.alt_due.specs.Due.{KeepsKnown, KeepsOthers, suffices_at}
use Rattle.alt_due.specs.Order.{spot_of}
use Rattle.alt_due.specs.declared.due.Due.{Due}
use Rattle.alt_due.specs.declared.spot.Spot.{Spot}
use Rattle.alt_machine.specs.Expiry.{is_expired}
use Rattle.alt_machine.specs.Keys.{place_of}
use Rattle.alt_machine.specs.State.{State, Table}
use Rattle.alt_machine.specs.Walks.{items_between}
use Rattle.alt_machine.specs.declared.Standing.{Standing}
use Rattle.alt_schema.specs.declared.schema.TableSchema.{TableSchema}
use Rattle.alt_request.specs.TablesForeseen.{ForeseesItem}
use Rattle.alt_request.specs.TablesSeveral.{Every}
use Rattle.alt_value.specs.Tree.{Pair}

-- the place of a standing
abbrev pub spot_at : Standing → Spot
spot_at e = spot_of e.table e.place

-- ---- a place that is ready

-- A list begins at the moment, and covers it.
pub record ListSuffices (due : Due) (moment : ℕ) : Type 0 where
  pub since : due.since ≡ moment
  pub within : suffices_at due moment ≡ true

-- what stands at a place has expired
abbrev pub is_over_at : State → ℕ → Spot → Bool
is_over_at s moment spot = option_map_or (λ (t : Table). option_map_or
    (is_expired t.description moment) (map.get t.items spot.place) false)
    (map.get s.tables spot.table) false

-- where it has, the place comes behind the others
abbrev pub PutsOver : Bool → Spot → List Standing → List Standing → Type 0
PutsOver true spot old new = (e : Standing) × (spot_at e ≡ spot) × (new ≡ old ++ e ∷ [])
PutsOver false spot old new = new ≡ old

-- An item that hasn't expired at the moment at which a list begins was dropped from it: the list knows when it will have.
pub record Defers (d : TableSchema) (moment : ℕ) (spot : Spot) (item : List Pair)
    (old new : Due) : Type 0 where
  pub keeps : KeepsKnown old new
  pub own : old.since ≡ moment → is_expired d moment item ≡ false
      → ForeseesItem d spot.table spot.place new item

-- A list knows of all other places what it knew, and of the item at this one too.
pub record ListSettles (d : TableSchema) (moment : ℕ) (spot : Spot) (item : Option (List Pair))
    (old new : Due) : Type 0 where
  pub others : KeepsOthers spot old new
  pub own : old.since ≡ moment → (i : List Pair) → item ≡ Some i
      → ForeseesItem d spot.table spot.place old i → ForeseesItem d spot.table spot.place new i

-- ---- a walk

-- a list knows of the items of a table of that name
abbrev pub ForeseesTable : List ℕ → Table → Due → Type 0
ForeseesTable name t due = (place : List ℕ) (item : List Pair) → map.get t.items place ≡ Some item
    → ForeseesItem t.description name place due item

-- it knows of an item, at the place by its key
abbrev pub ForeseesPlaced : TableSchema → List ℕ → Due → List Pair → Type 0
ForeseesPlaced d name due item = (place : List ℕ) → place_of d item ≡ Some place
    → ForeseesItem d name place due item

-- it knows of those of a table from a place on
abbrev pub ForeseesRest : List ℕ → Table → List ℕ → Due → Type 0
ForeseesRest name t from due = Every (ForeseesPlaced t.description name due)
    (items_between t None from None true)

-- A list that knows all that this one does knows of the items from a place on where it knows of those from the next one on, if there is one.
abbrev pub ForeseesFromNext : List ℕ → Table → List ℕ → Due → Option (List ℕ) → Type 0
ForeseesFromNext name t from due None = ForeseesRest name t from due
ForeseesFromNext name t from due (Some next) = (later : Due) → KeepsKnown due later
    → ForeseesRest name t next later → ForeseesRest name t from later
