-- Where an item that gives way to another differs from it, and the indexes that keep nothing there.
use Rattle.std.specs.Prelude.{◌≡◌, ℕ, Bool, true, false, List, Option, Some, None}
use Rattle.std.specs.List.{list_any}
use Rattle.alt_schema.specs.Indexes.{is_projected, stands_among_names}
use Rattle.alt_schema.specs.declared.schema.IndexSchema.{IndexSchema}
use Rattle.alt_schema.specs.declared.schema.TableSchema.{TableSchema}
use Rattle.alt_value.specs.Item.{IsItem, at_name}
use Rattle.alt_value.specs.Tree.{Pair}

-- Two items have the same at each name that isn't among these.
pub record AreAlikeBeside (names : List (List ℕ)) (old new : List Pair) : Type 0 where
  pub old_item : IsItem old
  pub new_item : IsItem new
  pub values : (name : List ℕ) → stands_among_names names name ≡ false → at_name name old ≡ at_name name new

-- Where names are told, both items are there, and have the same beside these.
abbrev pub DifferAt : Option (List (List ℕ)) → Option (List Pair) → Option (List Pair) → Type 0
DifferAt None old new = Unit {0}
DifferAt (Some names) None new = ⊥
DifferAt (Some names) (Some o) None = ⊥
DifferAt (Some names) (Some o) (Some n) = AreAlikeBeside names o n

-- whether an index keeps one of the names, or may keep one where none are told
abbrev pub index_may_change : TableSchema → IndexSchema → Option (List (List ℕ)) → Bool
index_may_change d i None = true
index_may_change d i (Some names) = list_any (is_projected d i) names
