-- The families of the tables of a catalog, and of one with a table more or less.
use Rattle.std.proofs.Common.{◌≡◌, ◌<◌, ⊎_elim, inl, inr, refl, sym, ap, subst, ◌∙◌, ℕ, zero, suc, Bool, true, false, cond, List, [], ◌∷◌, length, get_or, Some, None, Contains, arith}
use Rattle.std.specs.Prelude.{◌⊎◌, ◌≢◌}
use Rattle.std.specs.FinMap as map
use Rattle.std.specs.Ordering.{eq_by_cmp}
use Rattle.std.proofs.lemmas.Bool.{false≢true}
use Rattle.std.proofs.lemmas.Option.{same_Some}
use Rattle.alt_cells.proofs.SameKeys.{key_itself, one_key}
use Rattle.alt_machine.specs.State.{Texts, families_of}
use Rattle.alt_manifest.specs.Versions.{IsIn}
use Rattle.alt_schema.specs.declared.schema.TableSchema.{TableSchema}
use Rattle.alt_opening.specs.Live.{AreLiveIn, IsOfTable, with_all, with_tables, without_all}
use Rattle.alt_opening.specs.StateRows.{catalog_family}
use Rattle.alt_opening.proofs.EachTable.{at_name, stands_at}
use Rattle.alt_opening.proofs.Listed.{AreInOrder, tables}
use Rattle.alt_opening.proofs.LiveLists.{all_in, contained_in, in_all, in_contained, in_without, without_in}
use Rattle.alt_opening.proofs.Maps.{same_texts}
use Rattle.alt_value.specs.Members.{text_order}
use Rattle.alt_value.proofs.Texts.{text_total}

-- ---- a list of tables

-- one of the tables has the family
abbrev HasFamily : List TableSchema → ℕ → Type 0
HasFamily [] f = ⊥
HasFamily (d ∷ ds) f = IsIn (families_of d) f ⊎ HasFamily ds f

in_tables : (ds : List TableSchema) (live : List ℕ) (f : ℕ) → IsIn (with_tables ds live) f
    → HasFamily ds f ⊎ IsIn live f
in_tables [] live f there = inr there
in_tables (d ∷ ds) live f there = ⊎_elim (λ (later : HasFamily ds f). inl (inr later))
    (λ (all : IsIn (with_all (families_of d) live) f). ⊎_elim
    (λ (new : IsIn (families_of d) f). inl (inl new)) (λ (old : IsIn live f). inr old)
    (in_all (families_of d) live f all))
    (in_tables ds (with_all (families_of d) live) f there)

tables_in : (ds : List TableSchema) (live : List ℕ) (f : ℕ) → HasFamily ds f ⊎ IsIn live f
    → IsIn (with_tables ds live) f
tables_in [] live f there = ⊎_elim (λ (none : ⊥). absurd none) (λ (old : IsIn live f). old) there
tables_in (d ∷ ds) live f there = tables_in ds (with_all (families_of d) live) f (⊎_elim
    (λ (one : HasFamily (d ∷ ds) f). ⊎_elim
    (λ (new : IsIn (families_of d) f). inr (all_in (families_of d) live f (inl new)))
    (λ (later : HasFamily ds f). inl later) one)
    (λ (old : IsIn live f). inr (all_in (families_of d) live f (inr old))) there)

-- that table
record IsPlaced (ds : List TableSchema) (f : ℕ) : Type 0 where
  at : ℕ
  table : TableSchema
  within : at < length ds
  is : get_or ds at table ≡ table
  has : IsIn (families_of table) f

placed : (ds : List TableSchema) (f : ℕ) → HasFamily ds f → IsPlaced ds f
placed [] f there = absurd there
placed (d ∷ ds) f (inl here) =
    record { at = 0; table = d; within = omega arith; is = refl; has = here }
placed (d ∷ ds) f (inr later) =
    let rest = placed ds f later in
    let within = rest.within in
    record {
      at = suc rest.at;
      table = rest.table;
      within = omega (arith, within);
      is = rest.is;
      has = rest.has;
    }

found : (ds : List TableSchema) (at : ℕ) (d : TableSchema) (f : ℕ) → at < length ds
    → get_or ds at d ≡ d → IsIn (families_of d) f → HasFamily ds f
found [] at d f within is has = absurd (omega (arith, within))
found (x ∷ xs) zero d f within is has =
    inl (subst (λ (t : TableSchema). IsIn (families_of t) f) (sym is) has)
found (x ∷ xs) (suc at) d f within is has =
    inr (found xs at d f (omega (arith, within)) is has)

-- the families of all tables in the list, with that of the catalog, are those of the map
pub live_in : (es : List TableSchema) → AreInOrder es
    → AreLiveIn (tables es) (with_tables es (catalog_family ∷ []))
live_in es sorted = record {
  each = λ f of.
      let s = stands_at es sorted of.name of.description of.there in
      tables_in es (catalog_family ∷ []) f (inl (found es s.at of.description f s.within s.is
      (contained_in (families_of of.description) f of.has)));
  only = λ f there. ⊎_elim
      (λ (one : HasFamily es f).
      let p = placed es f one in
      inr (record {
        name = (get_or es p.at p.table).name;
        description = p.table;
        there = at_name es sorted p.at p.table p.within ∙ ap Some p.is;
        has = in_contained (families_of p.table) f p.has;
      }))
      (λ (own : IsIn (catalog_family ∷ []) f). inl (⊎_elim (λ (e : f ≡ catalog_family). e)
      (λ (none : ⊥). absurd none) own))
      (in_tables es (catalog_family ∷ []) f there);
}

-- ---- a table more

module _ (catalog : Texts TableSchema) (live : List ℕ) (are : AreLiveIn catalog live)
    (d : TableSchema) where
  -- with its families live are those of the catalog with it
  pub live_insert : map.get catalog d.name ≡ None
      → AreLiveIn (map.insert catalog d.name d) (with_all (families_of d) live)
  live_insert absent = record {
    each = λ f of. all_in (families_of d) live f (each f of
        (eq_by_cmp text_order of.name d.name)
        (sym (map.get-insert text_total catalog d.name d of.name) ∙ of.there));
    only = λ f there. ⊎_elim (λ (new : IsIn (families_of d) f). inr (record {
      name = d.name;
      description = d;
      there = map.get-insert text_total catalog d.name d d.name
          ∙ ap (λ b. cond b (Some d) (map.get catalog d.name)) (key_itself d.name);
      has = in_contained (families_of d) f new;
    }))
        (λ (old : IsIn live f). ⊎_elim (λ (own : f ≡ catalog_family). inl own)
        (λ (of : IsOfTable catalog f). inr (record {
          name = of.name;
          description = of.description;
          there = map.get-insert text_total catalog d.name d of.name
              ∙ there_still of.name of.description of.there (eq_by_cmp text_order of.name d.name)
              refl;
          has = of.has;
        })) (are.only f old))
        (in_all (families_of d) live f there);
  }
    where
      each : (f : ℕ) (of : IsOfTable (map.insert catalog d.name d) f) (b : Bool)
          → cond b (Some d) (map.get catalog of.name) ≡ Some of.description
          → IsIn (families_of d) f ⊎ IsIn live f
      each f of true at = inl (contained_in (families_of d) f
          (subst (λ (t : TableSchema). Contains (families_of t) f) (sym (same_Some _ _ at)) of.has))
      each f of false at = inr (are.each f (record {
        name = of.name;
        description = of.description;
        there = at;
        has = of.has;
      }))

      there_still : (name : List ℕ) (e : TableSchema) → map.get catalog name ≡ Some e → (b : Bool)
          → eq_by_cmp text_order name d.name ≡ b
          → cond b (Some d) (map.get catalog name) ≡ Some e
      there_still name e at true same = absurd (let no : None ≡ Some e =
          sym absent ∙ ap (map.get catalog) (sym (one_key name d.name same)) ∙ at in
          let g : ⊥ = cc in g)
      there_still name e at false other = at

  -- ---- another of the same families

  -- live stay those of the catalog with another description in the place of one
  pub live_alike : (name : List ℕ) (e : TableSchema) → map.get catalog name ≡ Some d
      → families_of e ≡ families_of d → AreLiveIn (map.insert catalog name e) live
  live_alike name e here same = record {
    each = λ f of. are.each f (was f of (eq_by_cmp text_order of.name name) refl
        (sym (map.get-insert text_total catalog name e of.name) ∙ of.there));
    only = λ f there. ⊎_elim (λ (own : f ≡ catalog_family). inl own)
        (λ (of : IsOfTable catalog f). inr (is f of (eq_by_cmp text_order of.name name) refl
        (map.get-insert text_total catalog name e of.name)))
        (are.only f there);
  }
    where
      was : (f : ℕ) (of : IsOfTable (map.insert catalog name e) f) (b : Bool)
          → eq_by_cmp text_order of.name name ≡ b
          → cond b (Some e) (map.get catalog of.name) ≡ Some of.description → IsOfTable catalog f
      was f of true tie at = record {
        name = name;
        description = d;
        there = here;
        has = subst (λ fs. Contains fs f) same
            (subst (λ (t : TableSchema). Contains (families_of t) f)
            (sym (same_Some _ _ at)) of.has);
      }
      was f of false tie at =
          record { name = of.name; description = of.description; there = at; has = of.has }

      is : (f : ℕ) (of : IsOfTable catalog f) (b : Bool) → eq_by_cmp text_order of.name name ≡ b
          → map.get (map.insert catalog name e) of.name ≡ cond b (Some e) (map.get catalog of.name)
          → IsOfTable (map.insert catalog name e) f
      is f of true tie at = record {
        name = of.name;
        description = e;
        there = at;
        has = subst (λ fs. Contains fs f) (sym same)
            (subst (λ (t : TableSchema). Contains (families_of t) f)
            (same_Some _ _ (sym of.there ∙ ap (map.get catalog) (one_key of.name name tie) ∙ here))
            of.has);
      }
      is f of false tie at = record {
        name = of.name;
        description = of.description;
        there = at ∙ of.there;
        has = of.has;
      }

  -- ---- a table less

  -- without its families live are those of the catalog without it, where no other table has one of them
  pub live_remove : (name : List ℕ) → map.get catalog name ≡ Some d
      → ((other : List ℕ) (e : TableSchema) (f : ℕ) → map.get catalog other ≡ Some e
      → other ≢ name → Contains (families_of e) f → Contains (families_of d) f → ⊥)
      → AreLiveIn (map.remove catalog name) (without_all (families_of d) live)
  live_remove name here apart = record {
    each = λ f of. each f of (eq_by_cmp text_order of.name name) refl
        (sym (map.get-remove text_total catalog name of.name) ∙ of.there);
    only = λ f there.
        let kept = in_without (families_of d) live f there in
        ⊎_elim (λ (own : f ≡ catalog_family). inl own)
        (λ (of : IsOfTable catalog f). only f of kept.1 (eq_by_cmp text_order of.name name) refl)
        (are.only f kept.0);
  }
    where
      each : (f : ℕ) (of : IsOfTable (map.remove catalog name) f) (b : Bool)
          → eq_by_cmp text_order of.name name ≡ b
          → cond b None (map.get catalog of.name) ≡ Some of.description
          → IsIn (without_all (families_of d) live) f
      each f of true same at = absurd (let no : None ≡ Some of.description = at in
          let g : ⊥ = cc in g)
      each f of false other at = without_in (families_of d) live f
          (are.each f (record {
            name = of.name;
            description = of.description;
            there = at;
            has = of.has;
          }))
          (inr (λ own. apart of.name of.description f at
          (λ same. false≢true (sym other ∙ ap (λ k. eq_by_cmp text_order k name) same
          ∙ key_itself name)) of.has (in_contained (families_of d) f own)))

      only : (f : ℕ) (of : IsOfTable catalog f)
          → (f ≡ catalog_family) ⊎ (IsIn (families_of d) f → ⊥) → (b : Bool)
          → eq_by_cmp text_order of.name name ≡ b
          → (f ≡ catalog_family) ⊎ IsOfTable (map.remove catalog name) f
      only f of kept true same = ⊎_elim (λ (own : f ≡ catalog_family). inl own)
          (λ (none : IsIn (families_of d) f → ⊥). absurd (none (contained_in (families_of d) f
          (subst (λ (t : TableSchema). Contains (families_of t) f)
          (same_Some _ _ (sym of.there ∙ ap (map.get catalog) (one_key of.name name same) ∙ here))
          of.has)))) kept
      only f of kept false other = inr (record {
        name = of.name;
        description = of.description;
        there = map.get-remove text_total catalog name of.name
            ∙ ap (λ b. cond b None (map.get catalog of.name)) other ∙ of.there;
        has = of.has;
      })

-- ---- another in the place of one

module _ (catalog : Texts TableSchema) (live : List ℕ) (are : AreLiveIn catalog live)
    (d e : TableSchema) (name : List ℕ) (here : map.get catalog name ≡ Some d)
    (named : e.name ≡ name)
    (apart : (other : List ℕ) (x : TableSchema) (f : ℕ) → map.get catalog other ≡ Some x
    → other ≢ name → Contains (families_of x) f → Contains (families_of d) f → ⊥) where
  less : AreLiveIn (map.remove catalog name) (without_all (families_of d) live)
  less = live_remove catalog live are d name here apart

  absent : map.get (map.remove catalog name) e.name ≡ None
  absent = ap (map.get (map.remove catalog name)) named
      ∙ map.get-remove text_total catalog name name
      ∙ ap (λ b. cond b None (map.get catalog name)) (key_itself name)

  same : (q : List ℕ) → map.get (map.insert (map.remove catalog name) e.name e) q
      ≡ map.get (map.insert catalog name e) q
  same q = ap (λ n. map.get (map.insert (map.remove catalog name) n e) q) named
      ∙ map.get-insert text_total (map.remove catalog name) name e q
      ∙ ap (cond (eq_by_cmp text_order q name) (Some e)) (map.get-remove text_total catalog name q)
      ∙ by (eq_by_cmp text_order q name)
      ∙ sym (map.get-insert text_total catalog name e q)
    where
      by : (b : Bool) → cond b (Some e) (cond b None (map.get catalog q))
          ≡ cond b (Some e) (map.get catalog q)
      by true = refl
      by false = refl

  -- without the families of the one and with those of the other live are those of the catalog with the other
  pub live_replace : AreLiveIn (map.insert catalog name e)
      (with_all (families_of e) (without_all (families_of d) live))
  live_replace = subst (λ (m : Texts TableSchema). AreLiveIn m
      (with_all (families_of e) (without_all (families_of d) live)))
      (same_texts (map.insert (map.remove catalog name) e.name e) (map.insert catalog name e) same)
      (live_insert (map.remove catalog name) (without_all (families_of d) live) less e absent)
