-- The rows of a state in which a table has another description: those of the catalog, and what they leave of the others.
use Rattle.std.proofs.Common.{◌≡◌, ◌≢◌, ◌≤◌, ◌<◌, ◌+◌, ℕ, Bool, true, false, cond, List, [], Option, Some, None, refl, sym, ap, subst, ◌∙◌, arith}
use Rattle.std.proofs.lemmas.Bool.{false≢true}
use Rattle.std.proofs.lemmas.Option.{same_Some}
use Rattle.std.specs.Prelude.{if◌then◌else◌, option_map}
use Rattle.std.specs.Ordering.{eq_by_cmp}
use Rattle.std.specs.FinMap as map
use Rattle.alt_cells.specs.declared.batch.RowChange.{RowChange}
use Rattle.alt_cells.specs.Changes.{change_between}
use Rattle.alt_cells.specs.Keys.{key_cmp}
use Rattle.alt_cells.proofs.CellLaws.{key_total}
use Rattle.alt_cells.proofs.ChangeLaws.{written-change_between}
use Rattle.alt_cells.proofs.SameKeys.{one_key}
use Rattle.alt_layout.specs.Layout.{Layout, shown, shown_by, change_of}
use Rattle.alt_layout.specs.Writes.{with_write}
use Rattle.alt_writes.specs.Writes.{Write}
use Rattle.alt_machine.specs.Ops.UpdateTable.{redescribed, with_description}
use Rattle.alt_machine.specs.Sources.{index_at}
use Rattle.alt_machine.specs.State.{State, Table}
use Rattle.alt_machine.specs.Valid.{IsValid}
use Rattle.alt_schema.specs.declared.schema.IndexSchema.{IndexSchema}
use Rattle.alt_schema.specs.declared.schema.TableSchema.{TableSchema}
use Rattle.alt_opening.specs.StateRows.{IsLeftover, Shows, catalog_family, catalog_rows, item_rows, index_rows, change_rows, table_row, next_row}
use Rattle.alt_rowchanges.proofs.CatalogLaws.{table_can_show}
use Rattle.alt_rowchanges.proofs.ChangeLaws.{ShowsWrite}
use Rattle.alt_rowchanges.proofs.WriteLaws.{family_within, index_within, stream_within}

-- the row of one description gives way to that of another
abbrev pub described_change : TableSchema → TableSchema → RowChange
described_change d e = change_between catalog_family d.name (Some (table_row d)) (Some (table_row e))

module _ (l : Layout) (s : State) (shows : Shows l s) (valid : IsValid s) (name : List ℕ)
    (t : Table) (at : map.get s.tables name ≡ Some t) (named : eq_by_cmp key_cmp [] name ≡ false)
    (e : TableSchema) (family : e.family ≡ t.description.family)
    (stream : e.stream_family ≡ t.description.stream_family) (next : ℕ)
    (low : s.next_family ≤ next) (w : Write) (numbered : w.number ≡ l.next_number)
    (law : ShowsWrite l w) (second : Option RowChange)
    (counted : shown_by second (next_row s.next_family) ≡ next_row next)
    (in_catalog : (key : List ℕ) → change_of catalog_family key w.changes
    ≡ (if eq_by_cmp key_cmp key name then Some (described_change t.description e)
    else (if eq_by_cmp key_cmp key [] then second else None))) where
  abbrev u : Table
  u = redescribed e t

  abbrev r : State
  r = with_description s name t e next

  -- the catalog has that description
  catalog_then : (key : List ℕ) → shown (with_write l w) catalog_family key ≡ catalog_rows r key
  catalog_then key = law catalog_family key
      ∙ (λ i. shown_by (in_catalog key i) (shows.catalog key i))
      ∙ by_key (eq_by_cmp key_cmp key name) (eq_by_cmp key_cmp key []) refl refl
      ∙ ap (λ o. if eq_by_cmp key_cmp key [] then next_row next
      else option_map (λ (x : Table). table_row x.description) o)
      (sym (map.get-insert key_total s.tables name u key))
    where
      by_key : (a b : Bool) → eq_by_cmp key_cmp key name ≡ a → eq_by_cmp key_cmp key [] ≡ b
          → shown_by (if a then Some (described_change t.description e)
          else (if b then second else None))
          (if b then next_row s.next_family
          else option_map (λ (x : Table). table_row x.description) (map.get s.tables key))
          ≡ (if b then next_row next
          else option_map (λ (x : Table). table_row x.description)
          (cond a (Some u) (map.get s.tables key)))
      by_key true true f g = absurd (false≢true (sym named
          ∙ ap (λ k. eq_by_cmp key_cmp k name) (sym (one_key key [] g)) ∙ f))
      by_key true false f g =
          ap (λ k. shown_by (Some (described_change t.description e))
          (option_map (λ (x : Table). table_row x.description) (map.get s.tables k)))
          (one_key key name f)
          ∙ ap (λ o. shown_by (Some (described_change t.description e))
          (option_map (λ (x : Table). table_row x.description) o)) at
          ∙ written-change_between catalog_family t.description.name
          (Some (table_row t.description)) (Some (table_row e)) (table_can_show e)
      by_key false true f g = counted
      by_key false false f g = refl

  -- The rows of other families than one stay, and that one is none of tables, of streams, and of the indexes of other tables.
  module _ (built : ℕ) (taken : built < s.next_family)
      (others : (f : ℕ) (key : List ℕ) → 1 ≤ f → f ≢ built
      → shown (with_write l w) f key ≡ shown l f key)
      (of_table : (other : List ℕ) (x : Table) → map.get s.tables other ≡ Some x
      → x.description.family ≢ built)
      (of_stream : (other : List ℕ) (x : Table) (g : ℕ) → map.get s.tables other ≡ Some x
      → x.description.stream_family ≡ Some g → g ≢ built)
      (of_index : (other : List ℕ) (x : Table) (n : ℕ) (i : IndexSchema)
      → eq_by_cmp key_cmp other name ≡ false → map.get s.tables other ≡ Some x
      → index_at x.description (Some n) ≡ Some i → i.family ≢ built)
      (own_index : (n : ℕ) (i : IndexSchema) → index_at e (Some n) ≡ Some i → (key : List ℕ)
      → shown (with_write l w) i.family key ≡ index_rows u i key) where
    items_then : (other : List ℕ) (x : Table) (b : Bool)
        → cond b (Some u) (map.get s.tables other) ≡ Some x
        → (key : List ℕ) → shown (with_write l w) x.description.family key ≡ item_rows x key
    items_then other x true at_other key =
        subst (λ (y : Table). shown (with_write l w) y.description.family key ≡ item_rows y key)
        (same_Some u x at_other)
        (ap (λ f. shown (with_write l w) f key) family
        ∙ others t.description.family key (family_within s name t (valid.tables name t at)).0
        (of_table name t at)
        ∙ shows.items name t at key)
    items_then other x false at_other key =
        others x.description.family key (family_within s other x (valid.tables other x at_other)).0
        (of_table other x at_other)
        ∙ shows.items other x at_other key

    indexes_then : (other : List ℕ) (x : Table) (b : Bool) → eq_by_cmp key_cmp other name ≡ b
        → cond b (Some u) (map.get s.tables other) ≡ Some x → (n : ℕ) (i : IndexSchema)
        → index_at x.description (Some n) ≡ Some i
        → (key : List ℕ) → shown (with_write l w) i.family key ≡ index_rows x i key
    indexes_then other x true same at_other n i at_index key =
        let own : index_at e (Some n) ≡ Some i =
        subst (λ (y : Table). index_at y.description (Some n) ≡ Some i)
        (sym (same_Some u x at_other))
        at_index in
        subst (λ (y : Table). shown (with_write l w) i.family key ≡ index_rows y i key)
        (same_Some u x at_other) (own_index n i own key)
    indexes_then other x false same at_other n i at_index key =
        others i.family key
        (index_within s other x (valid.tables other x at_other) n i at_index).0
        (of_index other x n i same at_other at_index)
        ∙ shows.indexes other x n i at_other at_index key

    changes_then : (other : List ℕ) (x : Table) (b : Bool)
        → cond b (Some u) (map.get s.tables other) ≡ Some x → (g : ℕ)
        → x.description.stream_family ≡ Some g
        → (key : List ℕ) → (IsLeftover x.trimmed key → ⊥)
        → shown (with_write l w) g key ≡ change_rows x key
    changes_then other x true at_other g told key counts =
        let own : t.description.stream_family ≡ Some g =
        sym stream ∙ subst (λ (y : Table). y.description.stream_family ≡ Some g)
        (sym (same_Some u x at_other)) told in
        subst (λ (y : Table). shown (with_write l w) g key ≡ change_rows y key)
        (same_Some u x at_other)
        (others g key (stream_within s name t (valid.tables name t at) g own).0
        (of_stream name t g at own)
        ∙ shows.changes name t g at own key
        (subst (λ (y : Table). IsLeftover y.trimmed key → ⊥) (sym (same_Some u x at_other)) counts))
    changes_then other x false at_other g told key counts =
        others g key (stream_within s other x (valid.tables other x at_other) g told).0
        (of_stream other x g at_other told)
        ∙ shows.changes other x g at_other told key counts

    -- the rows are then those of the state with it
    pub shows_described : Shows (with_write l w) r
    shows_described = record {
      number = ap (λ n. n + 1) (numbered ∙ shows.number);
      catalog = catalog_then;
      items = λ other x at_other. items_then other x (eq_by_cmp key_cmp other name)
          (sym (map.get-insert key_total s.tables name u other) ∙ at_other);
      indexes = λ other x n i at_other at_index key. indexes_then other x
          (eq_by_cmp key_cmp other name) refl
          (sym (map.get-insert key_total s.tables name u other) ∙ at_other) n i at_index key;
      changes = λ other x g at_other told key counts. changes_then other x
          (eq_by_cmp key_cmp other name)
          (sym (map.get-insert key_total s.tables name u other) ∙ at_other) g told key counts;
      beyond = λ f key high. others f key
          (let first = valid.next_family.0 in omega (arith, first, low, high))
          (λ same. omega (arith, low, high, taken, same))
          ∙ shows.beyond f key (omega (arith, low, high));
    }
