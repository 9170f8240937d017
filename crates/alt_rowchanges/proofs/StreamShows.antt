-- The family of a table's stream, and the changes of its rows by a write: they are of no other family.
use Rattle.std.proofs.Common.{◌≡◌, ◌≢◌, ◌<◌, refl, sym, ap, ◌∙◌, ℕ, suc, Bool, true, false, List, [], ◌∷◌, ◌++◌, map, length, Option, Some, None, option_map, slice_get, Contains, arith}
use Rattle.std.proofs.lemmas.Bool.{eqb-true}
use Rattle.std.proofs.lemmas.Option.{slice_get-map, slice_get_within, get_or_from_slice_get}
use Rattle.std.specs.Option.{option_map_or, option_to_list}
use Rattle.std.specs.Prelude.{◌==◌, ◌&&◌, ◌||◌, if◌then◌else◌}
use Rattle.std.specs.Str.{bytes_eq}
use Rattle.alt_cells.specs.Batches.{has_row}
use Rattle.alt_cells.specs.Changes.{change_between}
use Rattle.alt_cells.specs.declared.batch.RowChange.{RowChange}
use Rattle.alt_changes.specs.ChangeRows.{row_change, row_changes, row_key}
use Rattle.alt_changes.specs.TrimRows.{hidden, trim_changes, trimmed_changes, trimmed_row}
use Rattle.alt_machine.specs.Sources.{index_at}
use Rattle.alt_machine.specs.State.{Change, families_of}
use Rattle.alt_schema.specs.Indexes.{indexes}
use Rattle.alt_schema.specs.declared.schema.IndexSchema.{IndexSchema}
use Rattle.alt_schema.specs.declared.schema.TableSchema.{TableSchema}
use Rattle.alt_opening.specs.Families.{HasOwnFamilies}
use Rattle.alt_rowchanges.proofs.ChangeLaws.{AreOthers, others-append}
use Rattle.alt_rowchanges.proofs.IndexFamilies.{index_families, index_at_families, others-index_changes}
use Rattle.alt_value.specs.Tree.{Pair}
use Rattle.alt_views.specs.IndexRows.{index_changes}

-- ---- the family of a stream

-- it stands behind those of the indexes
stream_at_families : (d : TableSchema) (f : ℕ) → d.stream_family ≡ Some f
    → slice_get (families_of d) (suc (length (index_families d))) ≡ Some f
stream_at_families d f stream =
    ap (λ o. slice_get (index_families d ++ option_map_or (λ f. f ∷ []) o [])
    (length (index_families d))) stream
    ∙ last (index_families d)
  where
    last : (xs : List ℕ) → slice_get (xs ++ f ∷ []) (length xs) ≡ Some f
    last [] = refl
    last (x ∷ xs) = last xs

-- it is one of its table's
pub stream_family : (d : TableSchema) (f : ℕ) → d.stream_family ≡ Some f
    → Contains (families_of d) f
stream_family d f stream =
    let there = stream_at_families d f stream in (
      suc (length (index_families d)),
      slice_get_within (families_of d) (suc (length (index_families d))) f there,
      get_or_from_slice_get (families_of d) (suc (length (index_families d))) f f there,
    )

-- it isn't the table's own
pub stream_family_differs : (d : TableSchema) → HasOwnFamilies d → (f : ℕ)
    → d.stream_family ≡ Some f → d.family ≢ f
stream_family_differs d differ f stream same =
    let there = stream_at_families d f stream in
    differ 0 (suc (length (index_families d))) f (omega arith)
    (slice_get_within (families_of d) (suc (length (index_families d))) f there)
    (same ∙ sym (get_or_from_slice_get (families_of d) (suc (length (index_families d))) f f there))

-- nor that of an index
pub stream_index_differs : (d : TableSchema) → HasOwnFamilies d → (n : ℕ) (i : IndexSchema)
    → index_at d (Some n) ≡ Some i → (f : ℕ) → d.stream_family ≡ Some f → i.family ≢ f
stream_index_differs d differ n i at f stream same =
    let there = stream_at_families d f stream in
    let here = index_at_families d n i at in
    let within : n < length (index_families d) =
    slice_get_within (index_families d) n i.family
    (slice_get-map (λ (i : IndexSchema). i.family) (indexes d) n
    ∙ ap (option_map (λ (i : IndexSchema). i.family)) at) in
    differ (suc n) (suc (length (index_families d))) f (omega (arith, within))
    (slice_get_within (families_of d) (suc (length (index_families d))) f there)
    (get_or_from_slice_get (families_of d) (suc n) i.family f here ∙ same
    ∙ sym (get_or_from_slice_get (families_of d) (suc (length (index_families d))) f f there))

-- ---- the change of a row of a stream

-- what trimming changes is of no other family either
pub others-trim_changes : (d : TableSchema) (before after : ℕ) (leftovers : List ℕ) (family : ℕ)
    → ((f : ℕ) → d.stream_family ≡ Some f → f ≢ family)
    → AreOthers family (trim_changes d before after leftovers)
others-trim_changes d before after leftovers family apart = by d.stream_family apart
  where
    hidden_others : (f : ℕ) → f ≢ family → (ks : List ℕ) → AreOthers family (map (hidden f) ks)
    hidden_others f other [] = tt
    hidden_others f other (k ∷ ks) = (other, hidden_others f other ks)

    front : (f : ℕ) → f ≢ family → (b : Bool) → AreOthers family (if b then [] else change_between f
        (row_key 0) (trimmed_row before) (trimmed_row after) ∷ [])
    front f other true = tt
    front f other false = (other, tt)

    by : (o : Option ℕ) → ((f : ℕ) → o ≡ Some f → f ≢ family)
        → AreOthers family (option_map_or
        (λ f. trimmed_changes f before after ++ map (hidden f) leftovers) o [])
    by None apart = tt
    by (Some f) apart = others-append family (trimmed_changes f before after)
        (map (hidden f) leftovers) (front f (apart f refl) (before == after))
        (hidden_others f (apart f refl) leftovers)

-- it is of no other family
pub others-row_changes : (d : TableSchema) (left : Option Change) (family : ℕ)
    → ((f : ℕ) → d.stream_family ≡ Some f → f ≢ family) → AreOthers family (row_changes d left)
others-row_changes d left family apart = by d.stream_family left apart
  where
    by : (o : Option ℕ) (left : Option Change) → ((f : ℕ) → o ≡ Some f → f ≢ family)
        → AreOthers family (option_map_or (λ f. map (row_change f) (option_to_list left)) o [])
    by None left apart = tt
    by (Some f) None apart = tt
    by (Some f) (Some c) apart = (apart f refl, tt)

-- changes of other families are of no row of this one
pub no_row : (family : ℕ) (key : List ℕ) (cs : List RowChange) → AreOthers family cs
    → has_row cs family key ≡ false
no_row family key [] others = refl
no_row family key (c ∷ cs) others = by (c.family == family) refl ∙ no_row family key cs others.1
  where
    by : (b : Bool) → (c.family == family) ≡ b
        → ((b && bytes_eq c.key key) || has_row cs family key) ≡ has_row cs family key
    by true same = absurd (others.0 (eqb-true c.family family same))
    by false differs = refl

-- So it may join the changes of an item's row and of its index rows.
pub change_new : (d : TableSchema) → HasOwnFamilies d → (old new : Option (List Pair))
    → (c : RowChange) → c.family ≡ d.family → (family : ℕ) → d.stream_family ≡ Some family
    → (key : List ℕ) → has_row (c ∷ index_changes d old new) family key ≡ false
change_new d differ old new c of_table family stream key =
    no_row family key (c ∷ index_changes d old new) (
      λ same. stream_family_differs d differ family stream (sym of_table ∙ same),
      others-index_changes d old new family (indexes d)
          (λ n i at. stream_index_differs d differ n i at family stream),
    )
