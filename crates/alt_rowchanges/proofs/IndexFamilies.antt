-- The families of a table's indexes differ from its own and from one another.
use Rattle.std.proofs.Common.{◌≡◌, ◌≢◌, ◌<◌, ◌≤◌, refl, sym, ap, ◌∙◌, ℕ, zero, suc, Bool, true, false, List, [], ◌∷◌, ◌++◌, map, length, Option, Some, None, option_map, slice_get, slice_index_or, Contains, arith}
use Rattle.std.proofs.lemmas.Bool.{eqb-true}
use Rattle.std.proofs.lemmas.List.{length-append}
use Rattle.std.proofs.lemmas.List.Elements.{All-nil, All-cons}
use Rattle.std.proofs.lemmas.Option.{slice_get-map, slice_get_within, get_or_from_slice_get}
use Rattle.std.specs.Prelude.{◌==◌, ◌&&◌, ◌||◌, option_and_then}
use Rattle.std.specs.List.{flat_map}
use Rattle.std.specs.Option.{option_map_or}
use Rattle.std.specs.Str.{bytes_eq}
use Rattle.alt_cells.specs.Batches.{has_row}
use Rattle.alt_cells.specs.declared.batch.RowChange.{RowChange}
use Rattle.alt_machine.specs.Sources.{index_at}
use Rattle.alt_machine.specs.State.{families_of}
use Rattle.alt_schema.specs.Indexes.{indexes}
use Rattle.alt_schema.specs.declared.schema.IndexSchema.{IndexSchema}
use Rattle.alt_schema.specs.declared.schema.TableSchema.{TableSchema}
use Rattle.alt_opening.specs.Families.{HasOwnFamilies}
use Rattle.alt_rowchanges.proofs.ChangeLaws.{AreOthers, others-append}
use Rattle.alt_rowchanges.proofs.Moving.{others-moved_changes}
use Rattle.alt_value.specs.Tree.{Pair}
use Rattle.alt_views.specs.Batches.{AreNew, AreOfOwnFamilies}
use Rattle.alt_views.specs.IndexRows.{built_row_changes, index_changes, built_row}

-- the families of the indexes of a table
abbrev pub index_families : TableSchema → List ℕ
index_families d = map (λ (i : IndexSchema). i.family) (indexes d)

-- that of its stream, if it has one
abbrev stream_families : TableSchema → List ℕ
stream_families d = option_map_or (λ f. f ∷ []) d.stream_family []

-- they stand behind the table's own
pub index_at_families : (d : TableSchema) (n : ℕ) (i : IndexSchema)
    → index_at d (Some n) ≡ Some i → slice_get (families_of d) (suc n) ≡ Some i.family
index_at_families d n i at = front (index_families d) n i.family
    (slice_get-map (λ (i : IndexSchema). i.family) (indexes d) n
    ∙ ap (option_map (λ (i : IndexSchema). i.family)) at)
  where
    front : (xs : List ℕ) (n x : ℕ) → slice_get xs n ≡ Some x
        → slice_get (xs ++ stream_families d) n ≡ Some x
    front [] n x e = absurd (let no : None ≡ Some x = e in cc no)
    front (y ∷ xs) zero x e = e
    front (y ∷ xs) (suc n) x e = front xs n x e

-- the family of an index is one of its table's
pub index_family : (d : TableSchema) (n : ℕ) (i : IndexSchema) → index_at d (Some n) ≡ Some i
    → Contains (families_of d) i.family
index_family d n i at =
    let there = index_at_families d n i at in (
      suc n,
      slice_get_within (families_of d) (suc n) i.family there,
      get_or_from_slice_get (families_of d) (suc n) i.family i.family there,
    )

-- and it isn't the table's own
pub index_family_differs : (d : TableSchema) → HasOwnFamilies d → (n : ℕ) (i : IndexSchema)
    → index_at d (Some n) ≡ Some i → d.family ≢ i.family
index_family_differs d differ n i at same =
    let there = index_at_families d n i at in
    differ 0 (suc n) i.family (omega arith)
    (slice_get_within (families_of d) (suc n) i.family there)
    (same ∙ sym (get_or_from_slice_get (families_of d) (suc n) i.family i.family there))

-- no two indexes have one family
pub own_families : (d : TableSchema) → HasOwnFamilies d → AreOfOwnFamilies d
own_families d differ a b x below within = rewritten
    (differ (suc a) (suc b) x (omega (arith, below)) (omega (arith, within, longer)))
  where
    longer : length (index_families d) ≤ length (index_families d ++ stream_families d)
    longer = omega (arith, length-append (index_families d) (stream_families d))

    front : (xs : List ℕ) (n : ℕ) → n < length xs
        → slice_index_or (xs ++ stream_families d) n x ≡ slice_index_or xs n x
    front [] n within = absurd (omega (arith, within))
    front (y ∷ xs) zero within = refl
    front (y ∷ xs) (suc n) within = front xs n (omega (arith, within))

    rewritten : (slice_index_or (index_families d ++ stream_families d) a x
        ≢ slice_index_or (index_families d ++ stream_families d) b x)
        → slice_index_or (index_families d) a x ≢ slice_index_or (index_families d) b x
    rewritten apart same = apart (front (index_families d) a (omega (arith, below, within)) ∙ same
        ∙ sym (front (index_families d) b within))

-- ---- changes of index rows

-- they are of no family but those of the indexes
pub others-index_changes : (d : TableSchema) (old new : Option (List Pair)) (family : ℕ)
    (is : List IndexSchema)
    → ((n : ℕ) (i : IndexSchema) → slice_get is n ≡ Some i → i.family ≢ family)
    → AreOthers family (flat_map (built_row_changes d old new) is)
others-index_changes d old new family [] h = tt
others-index_changes d old new family (i ∷ is) h =
    others-append family (built_row_changes d old new i) (flat_map (built_row_changes d old new) is)
    (others-moved_changes i.family family (option_and_then (built_row d i) old)
    (option_and_then (built_row d i) new) (h 0 i refl))
    (others-index_changes d old new family is (λ n j at. h (suc n) j at))

-- a batch with a change of another family alone has none of their rows
others_new : (c : RowChange) (cs : List RowChange) → AreOthers c.family cs → AreNew (c ∷ []) cs
others_new c [] others = All-nil (λ (x : RowChange). has_row (c ∷ []) x.family x.key ≡ false)
others_new c (x ∷ xs) others = All-cons (λ (x : RowChange). has_row (c ∷ []) x.family x.key ≡ false)
    x xs (by (c.family == x.family) refl) (others_new c xs others.1)
  where
    by : (b : Bool) → (c.family == x.family) ≡ b
        → ((b && bytes_eq c.key x.key) || false) ≡ false
    by true same = absurd (others.0 (sym (eqb-true c.family x.family same)))
    by false differs = refl

-- So those of a table's indexes may join the change of an item's row.
pub index_changes_new : (d : TableSchema) → HasOwnFamilies d → (old new : Option (List Pair))
    → (c : RowChange) → c.family ≡ d.family → AreNew (c ∷ []) (index_changes d old new)
index_changes_new d differ old new c of_table = others_new c (index_changes d old new)
    (others-index_changes d old new c.family (indexes d)
    (λ n i at same. index_family_differs d differ n i at (sym (same ∙ of_table))))
