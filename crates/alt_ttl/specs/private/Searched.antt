-- The search for expired items: where they stand, by their keys, and what is left to look for.
use Rattle.std.specs.Prelude.{◌≡◌, ℕ, Bool, true, false, ◌&&◌, ◌||◌, List, [], ◌∷◌, ◌++◌, take, Option, Some, None, if◌then◌else◌}
use Rattle.std.specs.FinMap as map
use Rattle.std.specs.List.{flat_map, list_any}
use Rattle.std.specs.Option.{option_map_or}
use Rattle.std.specs.Str.{bytes_eq}
use Rattle.alt_machine.specs.declared.Standing.{Standing}
use Rattle.alt_machine.specs.declared.TheConstants.{MOST_EXPIRED}
use Rattle.alt_machine.specs.Expiry.{is_expired}
use Rattle.alt_machine.specs.Keys.{place_of}
use Rattle.alt_machine.specs.State.{Table, Texts}
use Rattle.alt_machine.specs.Walks.{items_between}
use Rattle.alt_schema.specs.declared.schema.TableSchema.{TableSchema}
use Rattle.alt_request.specs.TablesSeveral.{Every}
use Rattle.alt_value.specs.Tree.{Pair}

-- where an item of a table of a name stands by its key, where it has expired
abbrev pub standing_of : TableSchema → List ℕ → ℕ → List Pair → List Standing
standing_of d name moment item = if is_expired d moment item
    then option_map_or (λ place. record { table = name; place = place } ∷ []) (place_of d item) []
    else []

-- where those of a table's items stand that have
abbrev pub standings_of : TableSchema → List ℕ → ℕ → List (List Pair) → List Standing
standings_of d name moment items = flat_map (standing_of d name moment) items

-- their tables are there
abbrev pub StandingTablesAreThere : Texts TableSchema → List Standing → Type 0
StandingTablesAreThere catalog es = Every (λ (e : Standing). map.contains_key catalog e.table ≡ true) es

-- ---- what is left

-- what there is to find, behind what was found, where the items of a table from a place on are left
abbrev pub left_in : List ℕ → Table → ℕ → List Standing → List ℕ → List Standing
left_in name t moment found from = take MOST_EXPIRED
    (found ++ standings_of t.description name moment (items_between t None from None true))

-- the same where nothing may be left
abbrev pub standings_left : List ℕ → Table → ℕ → List Standing → Option (List ℕ) → List Standing
standings_left name t moment found None = found
standings_left name t moment found (Some from) = left_in name t moment found from

-- ---- once

-- two are one
abbrev pub is_same_standing : Standing → Standing → Bool
is_same_standing e f = bytes_eq e.table f.table && bytes_eq e.place f.place

-- one of them stands where another does
abbrev pub has_twice : List Standing → Bool
has_twice [] = false
has_twice (e ∷ es) = list_any (is_same_standing e) es || has_twice es
