-- The changes of the rows of an index that is built of some items, where the items of a write stand at one place.
use Rattle.std.proofs.Common.{◌≡◌, refl, ap, ◌∙◌, ℕ, Bool, true, false, List, [], Option, Some, None}
use Rattle.std.specs.Option.{option_map_or}
use Rattle.std.specs.Prelude.{IfSome, if◌then◌else◌, option_and_then}
use Rattle.alt_schema.specs.Bare.{is_whole}
use Rattle.alt_schema.specs.declared.schema.IndexSchema.{IndexSchema}
use Rattle.alt_schema.specs.declared.schema.TableSchema.{TableSchema}
use Rattle.alt_value.specs.Tree.{Pair}
use Rattle.alt_machine.specs.Building.{is_built_of_item, reaches}
use Rattle.alt_machine.specs.Keys.{place_of}
use Rattle.alt_views.specs.IndexRows.{built_row, built_row_changes, moved_changes, moves_in, row_in_index}

module _ (d : TableSchema) (i : IndexSchema) (place : List ℕ) where
  -- an item, where it is there, is of that place
  abbrev pub IsAt : Option (List Pair) → Type 0
  IsAt o = IfSome o (λ item. place_of d item ≡ Some place)

  -- the index is built of it exactly where it reaches the place
  reached_at : (item : List Pair) → place_of d item ≡ Some place
      → is_built_of_item d i.built item ≡ reaches d i.built place
  reached_at item at = ap (λ o. option_map_or (reaches d i.built) o (is_whole i.built)) at

  row_at_place : (o : Option (List Pair)) → IsAt o → option_and_then (built_row d i) o
      ≡ (if reaches d i.built place then option_and_then (row_in_index d i) o else None)
  row_at_place None at = by (reaches d i.built place)
    where
      by : (b : Bool) → None ≡ (if b then option_and_then (row_in_index d i) None else None)
      by true = refl
      by false = refl
  row_at_place (Some item) at =
      ap (λ b. if b then row_in_index d i item else None) (reached_at item at)

  -- Where it reaches the place its rows change as those of one that is whole, and else none does.
  pub changes_at : (old new : Option (List Pair)) → IsAt old → IsAt new
      → built_row_changes d old new i ≡ (if reaches d i.built place then moves_in d old new i else [])
  changes_at old new at_old at_new =
      (λ j. moved_changes i.family (row_at_place old at_old j) (row_at_place new at_new j))
      ∙ by (reaches d i.built place)
    where
      by : (b : Bool) → moved_changes i.family
          (if b then option_and_then (row_in_index d i) old else None)
          (if b then option_and_then (row_in_index d i) new else None)
          ≡ (if b then moves_in d old new i else [])
      by true = refl
      by false = refl
