-- What a walk over the items of a table, or of one of its indexes, may read of the disk: each row file of its family twice, and once more for each version
-- of a row in these files at a place that it passes.
use Rattle.std.specs.Prelude.{◌≡◌, ℕ, zero, suc, ◌+◌, ◌*◌, ◌&&◌, Bool, true, false, not, List, [], ◌∷◌, length, map, Option, Some, None}
use Rattle.std.specs.BTreeMap.Range.{entries_between, range_contains}
use Rattle.std.specs.declared.ops.Bound.TheVariants.{Included}
use Rattle.alt_cells.specs.Walks.{RowMap}
use Rattle.alt_families.specs.Reads.{versions_of}
use Rattle.alt_layout.specs.Families.{files_of}
use Rattle.alt_layout.specs.Files.{Image, IsLayout}
use Rattle.alt_layout.specs.Layout.{Layout}
use Rattle.alt_machine.specs.State.{Table}
use Rattle.alt_machine.specs.Walks.{end_bound, is_beyond, placed_items, turned}
use Rattle.alt_schema.specs.declared.schema.IndexSchema.{IndexSchema}
use Rattle.alt_schema.specs.declared.schema.TableSchema.{TableSchema}
use Rattle.alt_value.specs.Members.{text_order}

-- The family of what is read: the table's, or that of the index.
abbrev pub family_read : TableSchema → Option IndexSchema → ℕ
family_read d None = d.family
family_read d (Some i) = i.family

-- The files are a store's, its last version names as many row files for the family as there are maps here, and each of these files holds the rows of its
-- map, tombstones among them.
pub record HasRowFiles (files : Image) (family : ℕ) (maps : List RowMap) : Type 0 where
  pub layout : Layout
  pub is : IsLayout files layout
  pub are : maps ≡ map is.held (files_of is.version.families family)

-- The places of the items in a range, in the order of a walk.
abbrev pub places_between : Table → Option IndexSchema → List ℕ → Option (List ℕ) → Bool
    → List (List ℕ)
places_between t i from to forward = map (λ e. e.0) (turned forward
    (entries_between text_order (Included from) (end_bound to) (placed_items t i)))

-- A walk that wants so many of the items at these places goes up to the last one that it gives, or on to the range's end where there are fewer.
abbrev pub is_place_reached : Bool → ℕ → List (List ℕ) → List ℕ → Bool
is_place_reached forward zero places place = false
is_place_reached forward (suc n) [] place = true
is_place_reached forward (suc zero) (p ∷ ps) place = not (is_beyond forward (Some p) place)
is_place_reached forward (suc (suc n)) (p ∷ ps) place = is_place_reached forward (suc n) ps place

-- A place lies in a range.
abbrev pub is_within : List ℕ → Option (List ℕ) → List ℕ → Bool
is_within from to place = range_contains text_order (Included from) (end_bound to) place

-- The most reads of a walk over a range that wants so many of the items at these places, where the family has these row files.
abbrev pub most_walk_reads : Bool → List ℕ → Option (List ℕ) → ℕ → List (List ℕ) → List RowMap → ℕ
most_walk_reads forward from to most places maps =
    versions_of (λ place. is_within from to place && is_place_reached forward most places place) maps
    + 2 * length maps
