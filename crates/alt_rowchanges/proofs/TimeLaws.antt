-- The rows of a state in which a table has another attribute for time to live, or none.
use Rattle.std.proofs.Common.{◌≡◌, ◌≤◌, ◌<◌, ◌+◌, ℕ, Bool, true, false, cond, List, [], Option, Some, None, refl, sym, ap, subst, ◌∙◌, inl, inr, arith, All}
use Rattle.std.proofs.lemmas.Bool.{false≢true}
use Rattle.std.proofs.lemmas.Option.{same_Some}
use Rattle.std.specs.Prelude.{if◌then◌else◌, option_map}
use Rattle.std.specs.Ordering.{eq_by_cmp}
use Rattle.std.specs.FinMap as map
use Rattle.alt_cells.specs.declared.batch.RowChange.{RowChange}
use Rattle.alt_cells.specs.Changes.{change_between}
use Rattle.alt_cells.specs.Keys.{key_cmp}
use Rattle.alt_cells.proofs.CellLaws.{key_total}
use Rattle.alt_cells.proofs.ChangeLaws.{written-change_between}
use Rattle.alt_cells.proofs.SameKeys.{one_key}
use Rattle.alt_opening.specs.HandInHand.{batch_write}
use Rattle.alt_layout.specs.Layout.{Layout, shown, shown_by, change_of}
use Rattle.alt_layout.specs.Writes.{with_write}
use Rattle.alt_layout.proofs.BatchLaws.{shows_batch}
use Rattle.alt_writes.specs.Writes.{Write}
use Rattle.alt_machine.specs.declared.TheConstants.{NUMBERS_END}
use Rattle.alt_machine.specs.Indexed.{index_items}
use Rattle.alt_machine.specs.Ops.UpdateTimeToLive.{timed, with_time}
use Rattle.alt_machine.specs.Sources.{index_at}
use Rattle.alt_machine.specs.State.{State, Table}
use Rattle.alt_machine.specs.Valid.{IsChangeOfValues, IsValid}
use Rattle.alt_machine.proofs.Looks.{at_insert}
use Rattle.alt_machine.proofs.Redescribed.{built_part-alike}
use Rattle.alt_machine.proofs.Timing.{alike_same, with_time_valid}
use Rattle.alt_schemabytes.specs.Held.{IsHeld, IsHeldText, Where}
use Rattle.alt_schema.specs.declared.schema.IndexSchema.{IndexSchema}
use Rattle.alt_schema.specs.declared.schema.TableSchema.{TableSchema}
use Rattle.alt_opening.specs.StateRows.{HasMoment, IsHeldWhole, IsLeftover, Shows, catalog_family, catalog_rows, item_rows, index_rows, change_rows, table_row, next_row}
use Rattle.alt_rowchanges.specs.RowChanges.{Turns, time_changes}
use Rattle.alt_views.specs.IndexRows.{index_columns}
use Rattle.alt_rowchanges.proofs.CatalogLaws.{off_catalog, table_can_show, table_named}
use Rattle.alt_rowchanges.proofs.ChangeLaws.{ShowsWrite, one_change}
use Rattle.alt_rowchanges.proofs.WriteLaws.{family_within, index_within, stream_within}

-- a description that a program can hold, with another text for that
timed_held : (d : TableSchema) (ttl : Option (List ℕ)) → IsHeld d → Where IsHeldText ttl
    → IsHeld (record d { ttl = ttl })
timed_held d ttl is text = record {
  name = is.name;
  created = is.created;
  number = is.number;
  family = is.family;
  stream_family = is.stream_family;
  definitions = is.definitions;
  hash = is.hash;
  range = is.range;
  locals = is.locals;
  globals = is.globals;
  ttl = text;
}

module _ (l : Layout) (s : State) (shows : Shows l s) (valid : IsValid s) (name : List ℕ)
    (t : Table) (at : map.get s.tables name ≡ Some t) (named : eq_by_cmp key_cmp [] name ≡ false)
    (own_name : t.description.name ≡ name) (ttl : Option (List ℕ)) (w : Write)
    (changes : w.changes ≡ time_changes t.description ttl) (numbered : w.number ≡ l.next_number)
    (law : ShowsWrite l w) where
  abbrev d : TableSchema
  d = record t.description { ttl = ttl }

  abbrev u : Table
  u = timed ttl t

  abbrev row_then : RowChange
  row_then = change_between catalog_family t.description.name (Some (table_row t.description))
      (Some (table_row d))

  kept : (f : ℕ) (key : List ℕ) → 1 ≤ f → shown (with_write l w) f key ≡ shown l f key
  kept f key high = law f key ∙ ap (λ c. shown_by c (shown l f key))
      (ap (change_of f key) changes ∙ off_catalog row_then [] f key refl high)

  catalog_then : (key : List ℕ) → shown (with_write l w) catalog_family key
      ≡ catalog_rows (with_time s name t ttl) key
  catalog_then key = law catalog_family key
      ∙ (λ i. shown_by ((ap (change_of catalog_family key) changes ∙ one_change row_then key
      ∙ ap (λ n. if eq_by_cmp key_cmp key n then Some row_then else None) own_name) i)
      (shows.catalog key i))
      ∙ by_key (eq_by_cmp key_cmp key name) (eq_by_cmp key_cmp key []) refl refl
      ∙ ap (λ o. if eq_by_cmp key_cmp key [] then next_row s.next_family
      else option_map (λ t. table_row t.description) o)
      (sym (map.get-insert key_total s.tables name u key))
    where
      by_key : (a b : Bool) → eq_by_cmp key_cmp key name ≡ a → eq_by_cmp key_cmp key [] ≡ b
          → shown_by (if a then Some row_then else None)
          (if b then next_row s.next_family
          else option_map (λ t. table_row t.description) (map.get s.tables key))
          ≡ (if b then next_row s.next_family
          else option_map (λ t. table_row t.description) (cond a (Some u) (map.get s.tables key)))
      by_key true true e f = absurd (false≢true (sym named
          ∙ ap (λ k. eq_by_cmp key_cmp k name) (sym (one_key key [] f)) ∙ e))
      by_key true false e f =
          ap (λ k. shown_by (Some row_then)
          (option_map (λ t. table_row t.description) (map.get s.tables k))) (one_key key name e)
          ∙ ap (λ o. shown_by (Some row_then) (option_map (λ t. table_row t.description) o)) at
          ∙ written-change_between catalog_family t.description.name
          (Some (table_row t.description)) (Some (table_row d)) (table_can_show d)
      by_key false b e f = refl

  items_then : (other : List ℕ) (x : Table) (b : Bool)
      → cond b (Some u) (map.get s.tables other) ≡ Some x
      → (key : List ℕ) → shown (with_write l w) x.description.family key ≡ item_rows x key
  items_then other x true at_other key =
      subst (λ (y : Table). shown (with_write l w) y.description.family key ≡ item_rows y key)
      (same_Some _ _ at_other)
      (kept t.description.family key (family_within s name t (valid.tables name t at)).0
      ∙ shows.items name t at key)
  items_then other x false at_other key =
      kept x.description.family key (family_within s other x (valid.tables other x at_other)).0
      ∙ shows.items other x at_other key

  indexes_then : (other : List ℕ) (x : Table) (b : Bool)
      → cond b (Some u) (map.get s.tables other) ≡ Some x → (n : ℕ) (i : IndexSchema)
      → index_at x.description (Some n) ≡ Some i
      → (key : List ℕ) → shown (with_write l w) i.family key ≡ index_rows x i key
  indexes_then other x true at_other n i at_index key =
      let own : index_at t.description (Some n) ≡ Some i =
      subst (λ (y : Table). index_at y.description (Some n) ≡ Some i) (sym (same_Some u x at_other))
      at_index in
      subst (λ (y : Table). shown (with_write l w) i.family key ≡ index_rows y i key)
      (same_Some u x at_other)
      (kept i.family key (index_within s name t (valid.tables name t at) n i own).0
      ∙ shows.indexes name t n i at own key
      ∙ ap (λ m. option_map (index_columns t.description i)
      (map.get (index_items t.description i m) key))
      (sym (built_part-alike t.description d (alike_same t.description ttl) i.built t.items)))
  indexes_then other x false at_other n i at_index key =
      kept i.family key (index_within s other x (valid.tables other x at_other) n i at_index).0
      ∙ shows.indexes other x n i at_other at_index key

  changes_then : (other : List ℕ) (x : Table) (b : Bool)
      → cond b (Some u) (map.get s.tables other) ≡ Some x → (g : ℕ)
      → x.description.stream_family ≡ Some g
      → (key : List ℕ) → (IsLeftover x.trimmed key → ⊥)
      → shown (with_write l w) g key ≡ change_rows x key
  changes_then other x true at_other g stream key counts =
      let own : t.description.stream_family ≡ Some g =
      subst (λ (y : Table). y.description.stream_family ≡ Some g) (sym (same_Some u x at_other))
      stream in
      subst (λ (y : Table). shown (with_write l w) g key ≡ change_rows y key)
      (same_Some u x at_other)
      (kept g key (stream_within s name t (valid.tables name t at) g own).0
      ∙ shows.changes name t g at own key
      (subst (λ (y : Table). IsLeftover y.trimmed key → ⊥) (sym (same_Some u x at_other)) counts))
  changes_then other x false at_other g stream key counts =
      kept g key (stream_within s other x (valid.tables other x at_other) g stream).0
      ∙ shows.changes other x g at_other stream key counts

  -- the rows are then those of the state with it
  pub shows_time : Shows (with_write l w) (with_time s name t ttl)
  shows_time = record {
    number = ap (λ n. n + 1) (numbered ∙ shows.number);
    catalog = catalog_then;
    items = λ other x at_other. items_then other x (eq_by_cmp key_cmp other name)
        (sym (map.get-insert key_total s.tables name u other) ∙ at_other);
    indexes = λ other x n i at_other at_index key. indexes_then other x
        (eq_by_cmp key_cmp other name)
        (sym (map.get-insert key_total s.tables name u other) ∙ at_other) n i at_index key;
    changes = λ other x g at_other stream key counts. changes_then other x
        (eq_by_cmp key_cmp other name)
        (sym (map.get-insert key_total s.tables name u other) ∙ at_other) g stream key counts;
    beyond = λ f key high. kept f key (let low = valid.next_family.0 in omega (arith, low, high))
        ∙ shows.beyond f key high;
  }

-- Another attribute for time to live turns the state into the one with it.
pub time_turns : (s : State) (name : List ℕ) (t : Table) (ttl : Option (List ℕ)) → IsValid s
    → IsHeldWhole s → s.next_number < NUMBERS_END → map.get s.tables name ≡ Some t
    → Where IsHeldText ttl → Turns (time_changes t.description ttl) s (with_time s name t ttl)
time_turns s name t ttl valid held room at text = record {
  shows = λ distinct l past shows. shows_time l s shows valid name t at (table_named s name t valid at)
      (valid.tables name t at).named ttl (batch_write l (time_changes t.description ttl)) refl refl
      (shows_batch l (batch_write l (time_changes t.description ttl)) distinct past (omega arith));
  valid = with_time_valid s name t ttl valid room at;
  held = record {
    items = record {
      items = λ other q x item at_x here. elim (at_insert s.tables name other x (timed ttl t) at_x) [
        | inl new ↦ held.items.items name q t item at
            (ap (λ (y : Table). map.get y.items q) new.1 ∙ here)
        | inr old ↦ held.items.items other q x item old here
      ];
      changes = λ other x at_x. elim (at_insert s.tables name other x (timed ttl t) at_x) [
        | inl new ↦ subst (λ (y : Table). All IsChangeOfValues y.changes) new.1
            (held.items.changes name t at)
        | inr old ↦ held.items.changes other x old
      ];
    };
    moments = λ other x at_x. elim (at_insert s.tables name other x (timed ttl t) at_x) [
      | inl new ↦ subst (λ (y : Table). All HasMoment y.changes) new.1 (held.moments name t at)
      | inr old ↦ held.moments other x old
    ];
    descriptions = λ other x at_x. elim (at_insert s.tables name other x (timed ttl t) at_x) [
      | inl new ↦ subst (λ (y : Table). IsHeld y.description) new.1
          (timed_held t.description ttl (held.descriptions name t at) text)
      | inr old ↦ held.descriptions other x old
    ];
  };
}
