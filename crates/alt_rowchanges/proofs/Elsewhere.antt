-- What the row changes of a write leave as it was, and which of them are of the family of a stream.
use Rattle.std.proofs.Common.{◌≡◌, ap, subst, ◌∙◌, ℕ, T, List, [], ◌∷◌, ◌++◌, map, Option, Some, None, option_map, Contains, append_assoc, arith}
use Rattle.std.specs.Option.{option_map_or, option_to_list}
use Rattle.std.specs.Prelude.{false, if◌then◌else◌}
use Rattle.alt_cells.specs.Batches.{is_distinct}
use Rattle.alt_cells.specs.Changes.{change_between}
use Rattle.alt_cells.specs.declared.batch.RowChange.{RowChange}
use Rattle.alt_changes.specs.ChangeRows.{row_change, row_changes}
use Rattle.alt_changes.specs.TrimRows.{hidden, trim_changes, trimmed_changes}
use Rattle.alt_opening.specs.HandInHand.{batch_write}
use Rattle.alt_layout.specs.Layout.{Layout, IsPast, change_of, shown, shown_by}
use Rattle.alt_layout.proofs.BatchLaws.{shows_batch}
use Rattle.alt_codec.specs.declared.writer.Writer.{Writer}
use Rattle.alt_machine.specs.Changes.{change_left}
use Rattle.alt_machine.specs.Same.{is_same}
use Rattle.alt_machine.specs.State.{Change, families_of}
use Rattle.alt_opening.specs.Families.{HasOwnFamilies}
use Rattle.alt_opening.proofs.Families.{own_family}
use Rattle.alt_schema.specs.Indexes.{indexes}
use Rattle.alt_schema.specs.declared.schema.TableSchema.{TableSchema}
use Rattle.alt_rowchanges.specs.RowChanges.{changed_rows, item_changes, write_changes}
use Rattle.alt_rowchanges.proofs.ChangeLaws.{AreOthers, change_of-behind, change_of-none, others-append}
use Rattle.alt_rowchanges.proofs.IndexFamilies.{index_family, others-index_changes}
use Rattle.alt_rowchanges.proofs.StreamShows.{others-row_changes, others-trim_changes, stream_family, stream_family_differs, stream_index_differs}
use Rattle.alt_value.specs.Tree.{Pair}
use Rattle.alt_views.specs.IndexRows.{index_changes}
use Rattle.alt_views.specs.ItemRows.{item_columns}

-- a family of which no row changes shows what it showed
pub shown_elsewhere : (l : Layout) (changes : List RowChange) → T (is_distinct changes) → IsPast l
    → (family : ℕ) → AreOthers family changes → (key : List ℕ)
    → shown (changed_rows l changes) family key ≡ shown l family key
shown_elsewhere l changes distinct past family others key =
    shows_batch l (batch_write l changes) distinct past (omega arith) family key
    ∙ ap (λ c. shown_by c (shown l family key)) (change_of-none family key changes others)

module _ (d : TableSchema) (number moment : ℕ) (writer : Writer) (place : List ℕ)
    (old new : Option (List Pair)) (before after : ℕ) (leftovers : List ℕ) where
  -- the changes of the item's row and of its rows in the indexes, that of the stream's row, and what is trimmed
  abbrev of_item : RowChange
  of_item = change_between d.family place (option_map item_columns old)
      (option_map item_columns new)

  abbrev of_indexes : List RowChange
  of_indexes = index_changes d old new

  abbrev of_stream : List RowChange
  of_stream = row_changes d (change_left number moment writer old new)

  abbrev of_trim : List RowChange
  of_trim = trim_changes d before after leftovers

  -- the change that the write leaves
  abbrev change_made : Change
  change_made = record {
    number = number;
    moment = moment;
    old = old;
    new = new;
    by = writer;
  }

  -- The row changes of a write are of no family that isn't its table's.
  pub write_others : (family : ℕ) → (Contains (families_of d) family → ⊥)
      → AreOthers family (write_changes d number moment writer place old new before after leftovers)
  write_others family other = others-append family
      (item_changes d number moment writer place old new) of_trim (
        λ same. other (subst (Contains (families_of d)) same (own_family d)),
        others-append family of_indexes of_stream
            (others-index_changes d old new family (indexes d) (λ n i at same.
            other (subst (Contains (families_of d)) same (index_family d n i at))))
            (others-row_changes d (change_left number moment writer old new) family
            (λ f stream same. other (subst (Contains (families_of d)) same (stream_family d f stream)))),
      )
      (others-trim_changes d before after leftovers family (λ f stream same.
      other (subst (Contains (families_of d)) same (stream_family d f stream))))

  module _ (differ : is_same old new ≡ false) (own : HasOwnFamilies d) (family : ℕ)
      (stream : d.stream_family ≡ Some family) where
    -- those of the stream, in its own words
    in_stream : (of_stream ++ of_trim)
        ≡ row_change family change_made
        ∷ (trimmed_changes family before after ++ map (hidden family) leftovers)
    in_stream i =
        option_map_or (λ f. map (row_change f) (option_to_list (if differ i then None else Some
        change_made))) (stream i) []
        ++ option_map_or (λ f. trimmed_changes f before after ++ map (hidden f) leftovers)
        (stream i) []

    -- Those of the stream's family are that of the row of the change, and what is trimmed.
    pub write_stream : (key : List ℕ) → change_of family key
        (write_changes d number moment writer place old new before after leftovers)
        ≡ change_of family key (row_change family change_made
        ∷ (trimmed_changes family before after ++ map (hidden family) leftovers))
    write_stream key =
        ap (λ cs. change_of family key (of_item ∷ cs))
        (append_assoc of_indexes of_stream of_trim)
        ∙ change_of-behind family key (of_item ∷ of_indexes) (of_stream ++ of_trim) (
          stream_family_differs d own family stream,
          others-index_changes d old new family (indexes d)
              (λ n i at. stream_index_differs d own n i at family stream),
        )
        ∙ ap (change_of family key) in_stream
