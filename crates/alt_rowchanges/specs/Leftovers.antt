-- The rows that are left over of changes that a stream trimmed.
use Rattle.std.specs.Prelude.{ℕ, List, [], is_some, filter, take}
use Rattle.std.specs.List.{range_with_len}
use Rattle.std.specs.Option.{option_map_or}
use Rattle.alt_changes.specs.ChangeRows.{row_key}
use Rattle.alt_layout.specs.Layout.{Layout, shown}
use Rattle.alt_schema.specs.declared.schema.TableSchema.{TableSchema}

-- the numbers from 1 on up to the trimmed number at which a family shows a row
abbrev pub leftovers : Layout → ℕ → ℕ → List ℕ
leftovers l family trimmed = filter (λ n. is_some (shown l family (row_key n)))
    (range_with_len 1 trimmed)

-- the lowest two of a table's stream, where it has one
abbrev pub lowest_left : Layout → TableSchema → ℕ → List ℕ
lowest_left l d trimmed =
    option_map_or (λ family. take 2 (leftovers l family trimmed)) d.stream_family []
