-- The rows of a catalog, read one after the other.
use Rattle.std.proofs.Common.{◌≡◌, ◌⊎◌, ◌≤◌, ◌+◌, inl, inr, ⊎_elim, refl, sym, ap, subst, ◌∙◌, ℕ, Bool, true, false, cond, List, [], ◌∷◌, ◌++◌, Some, None, Less, Equal, Greater, arith}
use Rattle.std.proofs.lemmas.Bool.{false≢true}
use Rattle.std.specs.declared.cmp.Ordering.{Ordering}
use Rattle.std.specs.Ordering.{eq_by_cmp, ordering_reverse}
use Rattle.std.specs.FinMap as map
use Rattle.alt_cells.specs.Changes.{Columns}
use Rattle.alt_cells.specs.Keys.{key_cmp}
use Rattle.alt_cells.proofs.CellLaws.{key_total, key_exact}
use Rattle.alt_cells.proofs.SameKeys.{key_itself}
use Rattle.alt_layout.specs.Layout.{Layout, shown}
use Rattle.alt_machine.specs.State.{Texts}
use Rattle.alt_machine.proofs.Looks.{at_insert, not_there}
use Rattle.alt_schema.specs.declared.schema.TableSchema.{TableSchema}
use Rattle.alt_opening.specs.private.Opening.{CatalogWhere, IsCatalog, IsNextFamily, IsTableAt, ShareNoFamily}
use Rattle.alt_tablerows.specs.Good.{IsGood}
use Rattle.alt_opening.specs.Scans.{IsBelow, IsFirstFrom, IsNextRow}
use Rattle.alt_opening.specs.StateRows.{catalog_family, table_row}
use Rattle.alt_opening.proofs.NextRow.{below_after, after_below}
use Rattle.alt_opening.proofs.Scanning.{below_or_not}

-- a key below one that another isn't below is below that other
pub below_on : (k from key : List ℕ) → IsBelow k from → (IsBelow key from → ⊥) → IsBelow k key
below_on k from key low above = by (key_cmp key from) refl
  where
    by : (o : Ordering) → key_cmp key from ≡ o → IsBelow k key
    by Less e = absurd (above e)
    by Equal e = subst (IsBelow k) (sym (key_exact key from e)) low
    by Greater e = key_total.trans k from key low
        (key_total.antisymm from key ∙ ap ordering_reverse e)

module _ (l : Layout) (next : ℕ) (catalog : Texts TableSchema) (from : List ℕ)
    (so_far : CatalogWhere (λ n. IsBelow n from) l next catalog) where
  -- those before the next row
  pub catalog_next : (key : List ℕ) (row : Columns) → IsFirstFrom l catalog_family from key row
      → CatalogWhere (λ n. IsBelow n key) l next catalog
  catalog_next key row first = record {
    next = so_far.next;
    stands = λ name d at. (
      below_on name from key (so_far.stands name d at).0 first.later,
      (so_far.stands name d at).1,
    );
    read = λ name c low named shows. ⊎_elim
        (λ (below : IsBelow name from). so_far.read name c below named shows)
        (λ (above : IsBelow name from → ⊥). absurd (let no : None ≡ Some c =
        sym (first.between name above low) ∙ shows in let f : ⊥ = cc in f))
        (below_or_not name from);
    few = so_far.few;
    good = so_far.good;
    apart = so_far.apart;
  }

  -- all, where none follows
  pub catalog_all : IsNextRow l catalog_family from None → IsCatalog l next catalog
  catalog_all none = record {
    next = so_far.next;
    stands = λ name d at. (tt, (so_far.stands name d at).1);
    read = λ name c here named shows. ⊎_elim
        (λ (below : IsBelow name from). so_far.read name c below named shows)
        (λ (above : IsBelow name from → ⊥). absurd (let no : None ≡ Some c =
        sym (none name above) ∙ shows in let f : ⊥ = cc in f))
        (below_or_not name from);
    few = so_far.few;
    good = so_far.good;
    apart = so_far.apart;
  }

-- two tables that are apart, the other way round
apart_turned : (d e : TableSchema) → ShareNoFamily d e → ShareNoFamily e d
apart_turned d e apart = record {
  families = λ f in_e in_d. apart.families f in_d in_e;
}

-- and the one at a name
module _ (l : Layout) (next : ℕ) (catalog new : Texts TableSchema) (name after : List ℕ)
    (row : Columns) (d : TableSchema)
    (so_far : CatalogWhere (λ n. IsBelow n name) l next catalog)
    (shows : shown l catalog_family name ≡ Some row)
    (is : IsTableAt l.next_number next catalog name row d)
    (added : new ≡ map.insert catalog d.name d) (at : after ≡ name ++ 0 ∷ []) where
  -- what is known then is the new one, or was known
  known_then : (other : List ℕ) (e : TableSchema) → map.get new other ≡ Some e
      → ((other ≡ name) × (d ≡ e)) ⊎ (map.get catalog other ≡ Some e)
  known_then other e here = ⊎_elim
      (λ (came : (other ≡ d.name) × (d ≡ e)). inl (came.0 ∙ is.may.good.named, came.1))
      (λ (old : map.get catalog other ≡ Some e). inr old)
      (at_insert catalog d.name other e d (ap (λ m. map.get m other) (sym added) ∙ here))

  then_known : (other : List ℕ) → (other ≡ name) ⊎ ((e : TableSchema)
      × (map.get catalog other ≡ Some e)) → (e : TableSchema) × (map.get new other ≡ Some e)
  then_known other h = by (eq_by_cmp key_cmp other d.name) refl
      (ap (λ m. map.get m other) added ∙ map.get-insert key_total catalog d.name d other) h
    where
      by : (b : Bool) → eq_by_cmp key_cmp other d.name ≡ b
          → map.get new other ≡ cond (eq_by_cmp key_cmp other d.name) (Some d)
          (map.get catalog other)
          → (other ≡ name) ⊎ ((e : TableSchema) × (map.get catalog other ≡ Some e))
          → (e : TableSchema) × (map.get new other ≡ Some e)
      by true e is_new h = (d, is_new ∙ ap (λ b. cond b (Some d) (map.get catalog other)) e)
      by false e is_new (inl same) = absurd (false≢true (sym e
          ∙ ap (λ k. eq_by_cmp key_cmp k d.name) (same ∙ sym is.may.good.named)
          ∙ key_itself d.name))
      by false e is_new (inr old) = (
        old.0,
        is_new
            ∙ ap (λ b. cond b (Some d) (map.get catalog other)) e ∙ old.1,
      )

  -- the rows below the next key are read, as those before it are and none lies between
  pub catalog_more : CatalogWhere (λ n. IsBelow n after) l next new
  catalog_more = record {
    next = so_far.next;
    stands = λ other e here. ⊎_elim
        (λ (came : (other ≡ name) × (d ≡ e)). (
          subst (IsBelow other) (sym at) (after_below other name (inr came.0)),
          ap (shown l catalog_family) came.0 ∙ shows ∙ ap (λ c. Some c) is.row
              ∙ ap (λ x. Some (table_row x)) came.1,
        ))
        (λ (old : map.get catalog other ≡ Some e). (
          subst (IsBelow other) (sym at)
              (after_below other name (inl (so_far.stands other e old).0)),
          (so_far.stands other e old).1,
        ))
        (known_then other e here);
    read = λ other c low named there. ⊎_elim
        (λ (below : IsBelow other name).
        then_known other (inr (so_far.read other c below named there)))
        (λ (same : other ≡ name). then_known other (inl same))
        (below_after other name (subst (IsBelow other) at low));
    few = omega (
      arith,
      is.may.few,
      ap map.len added,
      map.len-insert key_total catalog d.name d,
      one_more (map.contains_key catalog d.name) (map.len catalog),
    );
    good = λ other e here. ⊎_elim
        (λ (came : (other ≡ name) × (d ≡ e)). subst (λ x. IsGood l.next_number next other x)
        came.1 (subst (λ n. IsGood l.next_number next n d) (sym came.0) is.may.good))
        (λ (old : map.get catalog other ≡ Some e). so_far.good other e old)
        (known_then other e here);
    apart = λ one other e f at_e at_f differ. ⊎_elim
        (λ (came : (one ≡ name) × (d ≡ e)). ⊎_elim
        (λ (also : (other ≡ name) × (d ≡ f)). absurd (differ (came.0 ∙ sym also.0)))
        (λ (old : map.get catalog other ≡ Some f). subst (λ x. ShareNoFamily x f) came.1
        (apart_turned f d (is.may.apart other f old)))
        (known_then other f at_f))
        (λ (old : map.get catalog one ≡ Some e). ⊎_elim
        (λ (also : (other ≡ name) × (d ≡ f)). subst (ShareNoFamily e) also.1
        (is.may.apart one e old))
        (λ (too : map.get catalog other ≡ Some f). so_far.apart one other e f old too differ)
        (known_then other f at_f))
        (known_then one e at_e);
  }
    where
      one_more : (b : Bool) (n : ℕ) → cond b n (n + 1) ≤ n + 1
      one_more true n = omega arith
      one_more false n = omega arith

-- the catalog before its first table
pub catalog_none : (l : Layout) (next : ℕ) (catalog : Texts TableSchema) (from : List ℕ)
    → IsNextFamily l next → catalog ≡ map.empty → from ≡ 0 ∷ []
    → CatalogWhere (λ n. IsBelow n from) l next catalog
catalog_none l next catalog from is none at = record {
  next = is;
  stands = λ name d here. absurd (not_known name d here);
  read = λ name c low named shows. ⊎_elim
      (λ (below : IsBelow name []). absurd (none_below name below))
      (λ (same : name ≡ []). absurd (named same))
      (below_after name [] (subst (IsBelow name) at low));
  few = omega (arith, ap map.len none, map.len-empty key_cmp TableSchema);
  good = λ name d here. absurd (not_known name d here);
  apart = λ name other d e here there differ. absurd (not_known name d here);
}
  where
    not_known : (name : List ℕ) (d : TableSchema) → map.get catalog name ≡ Some d → ⊥
    not_known name d here = not_there name d (ap (λ m. map.get m name) (sym none) ∙ here)

    none_below : (k : List ℕ) → IsBelow k [] → ⊥
    none_below [] low = let f : ⊥ = cc in f
    none_below (x ∷ xs) low = let f : ⊥ = cc in f
