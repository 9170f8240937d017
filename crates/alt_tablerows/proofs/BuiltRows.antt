-- The rows of tables without the cell of an index that is being built, and with it.
use Rattle.std.proofs.Common.{◌≡◌, refl, sym, ap, subst, ◌∙◌, ℕ, ◌&&◌, true, cond, not, List, [], ◌∷◌, ◌++◌, length, Option, Some, None, option_map, Result, Ok, Err, IfOk, arith}
use Rattle.std.proofs.lemmas.List.Folds.{list_all-append}
use Rattle.std.specs.Cmp.{first_so, second_so}
use Rattle.std.specs.FinMap.{entries, same_entries_map}
use Rattle.std.specs.Int.{w32, to_be_bytes}
use Rattle.std.specs.List.{filter, find, list_all}
use Rattle.std.specs.Prelude.{codes}
use Rattle.alt_cells.specs.Changes.{Columns}
use Rattle.alt_machine.specs.Building.{IsBuilt, is_building, is_built_to}
use Rattle.alt_schema.specs.Bare.{bare, is_whole}
use Rattle.alt_schema.specs.Described.{IsDescription, keys_defined}
use Rattle.alt_schemabytes.specs.Format.{description_bytes}
use Rattle.alt_schemabytes.specs.Held.{IsHeld}
use Rattle.alt_schema.specs.declared.schema.IndexSchema.{IndexSchema}
use Rattle.alt_schema.specs.declared.schema.TableSchema.{TableSchema}
use Rattle.alt_schema.proofs.BareLaws.{bare_described, tests-as_whole, whole_is}
use Rattle.alt_schemabytes.proofs.BareBytes.{description_bytes-bare}
use Rattle.alt_schemabytes.proofs.WholeDescriptions.{one_spelling}
use Rattle.alt_tablerows.specs.CatalogRows.{built_bytes, built_cell, described_row, plain_row, table_row, with_built_cell}
use Rattle.alt_tablerows.proofs.CellRows.{cell_of_row, no_cell, row_with_cell, same_cell}
use Rattle.alt_tablerows.proofs.TableRow.{AllWhole, row_tells}

-- what holds of a value by two facts of it
pub if_both : {A E : Type 0} (P Q R : A → Type 0) (r : Result A E) → ((x : A) → P x → Q x → R x)
    → IfOk r P → IfOk r Q → IfOk r R
if_both P Q R (Ok x) leads p q = leads x p q
if_both P Q R (Err e) leads p q = tt

-- ---- without the cell

-- none of several whole ones is being built
none_building : (is : List IndexSchema) → list_all (λ i. is_whole i.built) is ≡ true
    → (filter is_building is ≡ []) × (find is_building is ≡ None)
none_building [] whole = (refl, refl)
none_building (x ∷ xs) whole =
    let rest = none_building xs (second_so (is_whole x.built) _ whole) in (
      ap (λ b. cond (not b) (x ∷ filter is_building xs) (filter is_building xs))
          (first_so (is_whole x.built) _ whole) ∙ rest.0,
      ap (λ b. cond (not b) (Some x) (find is_building xs)) (first_so (is_whole x.built) _ whole)
          ∙ rest.1,
    )

-- and each is built to any key
whole_keys : (d : TableSchema) (is : List IndexSchema)
    → list_all (λ i. is_whole i.built) is ≡ true → list_all (λ i. is_built_to d i.built) is ≡ true
whole_keys d [] whole = refl
whole_keys d (x ∷ xs) whole =
    ap (λ b. is_built_to d b && list_all (λ i. is_built_to d i.built) xs)
    (whole_is x.built (first_so (is_whole x.built) _ whole))
    ∙ whole_keys d xs (second_so (is_whole x.built) _ whole)

-- A description whose indexes are whole has a row without the cell.
pub row_whole : (row : Columns) (d : TableSchema) → AllWhole d → row ≡ plain_row d
    → IsBuilt d × (row ≡ table_row d)
row_whole row d whole is =
    let all : (list_all (λ i. is_whole i.built) d.locals
    && list_all (λ i. is_whole i.built) d.globals) ≡ true =
    sym (list_all-append (λ (i : IndexSchema). is_whole i.built) d.locals d.globals) ∙ whole in
    let globals = second_so (list_all (λ i. is_whole i.built) d.locals) _ all in
    let none = none_building d.globals globals in (
      record {
        locals = first_so (list_all (λ i. is_whole i.built) d.locals) _ all;
        one = omega (arith, ap length none.0);
        keys = whole_keys d d.globals globals;
      },
      is ∙ sym (ap (λ o. with_built_cell (option_map (λ (i : IndexSchema). to_be_bytes w32 i.family
          ++ built_bytes d i.built) o) (plain_row d)) none.1),
    )

-- A row without the cell is that of a description only where it is that of its bytes.
pub no_plain : (row : Columns) (d : TableSchema)
    → ((value : List ℕ) (rest : List (List ℕ × List ℕ))
    → entries row ≡ (codes "b", value) ∷ rest → ⊥) → (row ≡ plain_row d → ⊥)
    → row ≡ table_row d → ⊥
no_plain row d without plain is = by (built_cell d) refl
  where
    by : (o : Option (List ℕ)) → built_cell d ≡ o → ⊥
    by None e = plain (is ∙ ap (λ o. with_built_cell o (plain_row d)) e)
    by (Some v) e = without v _ (cell_of_row row v d.ttl (description_bytes d)
        (is ∙ ap (λ o. with_built_cell o (plain_row d)) e))

-- ---- with the cell

-- what its bytes tell of a description is one, so it is
described_bare : (d : TableSchema) → IsDescription (bare d) → IsDescription d
described_bare d is = record {
  stream = is.stream;
  once = is.once;
  keys = is.keys;
  index_keys = sym (tests-as_whole (λ i. keys_defined d.definitions i.hash i.range) (λ i. refl)
      d.locals d.globals) ∙ is.index_keys;
}

-- A description that is built as a cell tells has the row of the others with it.
pub row_built_up : (row rest : Columns) (s e : TableSchema) (cell : List ℕ)
    → entries row ≡ (codes "b", cell) ∷ entries rest → rest ≡ plain_row s → IsDescription s
    → built_cell e ≡ Some cell → bare e ≡ bare s → e.ttl ≡ s.ttl
    → IsDescription e × (row ≡ table_row e)
row_built_up row rest s e cell begins is described told same time =
    let bytes : description_bytes s ≡ description_bytes e = sym (description_bytes-bare s)
    ∙ ap description_bytes (sym same) ∙ description_bytes-bare e in (
      described_bare e (subst IsDescription (sym same) (bare_described s described)),
      row_with_cell row rest cell s.ttl (description_bytes s) begins is
          ∙ (λ j. with_built_cell (sym told j) (described_row (sym time j) (bytes j))),
    )

-- What a row with the cell tells of a description.
pub told_by_row : (row rest : Columns) (d : TableSchema) (cell : List ℕ)
    → entries row ≡ (codes "b", cell) ∷ entries rest → row ≡ table_row d
    → (built_cell d ≡ Some cell) × (rest ≡ plain_row d)
told_by_row row rest d cell begins is = by (built_cell d) refl
  where
    by : (o : Option (List ℕ)) → built_cell d ≡ o
        → (built_cell d ≡ Some cell) × (rest ≡ plain_row d)
    by None e = absurd (no_cell row cell (entries rest) d.ttl (description_bytes d) begins
        (is ∙ ap (λ o. with_built_cell o (plain_row d)) e))
    by (Some w) e =
        let s = same_cell cell w (entries rest) row d.ttl (description_bytes d) begins
        (is ∙ ap (λ o. with_built_cell o (plain_row d)) e) in
        (e ∙ ap Some (sym s.0), same_entries_map rest (plain_row d) s.1)

-- rows of two descriptions that are one but for the cell
pub same_bare : (rest : Columns) (s d : TableSchema) → IsDescription s → IsHeld s → IsDescription d
    → IsHeld d → rest ≡ plain_row s → rest ≡ plain_row d → bare d ≡ bare s
same_bare rest s d is_s held_s is_d held_d of_s of_d = sym (one_spelling s d is_s held_s is_d held_d
    (row_tells s.ttl d.ttl (description_bytes s) (description_bytes d) (sym of_s ∙ of_d)).1)
