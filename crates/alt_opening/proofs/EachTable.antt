-- What is so of each table in the list is so of each in the map that it stands for.
use Rattle.std.proofs.Common.{◌≡◌, ◌<◌, ◌≤◌, refl, sym, ap, ◌∙◌, ℕ, zero, suc, Bool, true, false, cond, ◌||◌, List, [], ◌∷◌, length, get_or, Option, Some, None, option_map, MatchOption, Bor, arith}
use Rattle.std.specs.Prelude.{◌↔◌}
use Rattle.std.specs.FinMap as map
use Rattle.std.specs.FinMap.{get-from_sorted}
use Rattle.std.specs.FinMap.Entries.{find}
use Rattle.std.specs.List.{HoldsAt, list_any}
use Rattle.std.specs.Ordering.{eq_by_cmp}
use Rattle.std.proofs.lemmas.Bool.{false≢true}
use Rattle.std.proofs.lemmas.List.{get_or_default}
use Rattle.alt_cells.proofs.SameKeys.{one_key}
use Rattle.alt_schema.specs.declared.schema.TableSchema.{TableSchema}
use Rattle.alt_opening.specs.private.Opening.{IsLeastAbove, IsNextTable, shares}
use Rattle.alt_opening.proofs.Listed.{AreInOrder, pairs, tables, get-found}
use Rattle.alt_value.specs.Members.{text_order}

-- where a description of the map stands in the list
pub record StandsAt (es : List TableSchema) (name : List ℕ) (d : TableSchema) : Type 0 where
  pub at : ℕ
  pub within : at < length es
  pub is : get_or es at d ≡ d
  pub named : name ≡ d.name

found_at : (es : List TableSchema) (name : List ℕ) (d : TableSchema)
    → find text_order name (pairs es) ≡ Some d → StandsAt es name d
found_at [] name d e = absurd (let no : None ≡ Some d = e in cc no)
found_at (x ∷ xs) name d e =
    by (λ f. found_at xs name d f) (eq_by_cmp text_order name x.name) refl e
  where
    by : (find text_order name (pairs xs) ≡ Some d → StandsAt xs name d) → (b : Bool)
        → eq_by_cmp text_order name x.name ≡ b
        → cond b (Some x) (find text_order name (pairs xs)) ≡ Some d → StandsAt (x ∷ xs) name d
    by behind true same e =
        let one : x ≡ d = cc e in record {
          at = 0;
          within = omega arith;
          is = one;
          named = one_key name x.name same ∙ ap (λ (y : TableSchema). y.name) one;
        }
    by behind false other e =
        let rest = behind e in record {
          at = suc rest.at;
          within = let low = rest.within in omega (arith, low);
          is = rest.is;
          named = rest.named;
        }

module _ (es : List TableSchema) (sorted : AreInOrder es) where
  -- each of the map stands in the list
  pub stands_at : (name : List ℕ) (d : TableSchema) → map.get (tables es) name ≡ Some d
      → StandsAt es name d
  stands_at name d there = found_at es name d
      (sym (get-from_sorted text_order (pairs es) name sorted) ∙ there)

  -- and each of the list in the map
  pub at_name : (k : ℕ) (d : TableSchema) → k < length es
      → map.get (tables es) (get_or es k d).name ≡ Some (get_or es k d)
  at_name k d within = get-found (get_or es k d).name es k sorted within
      (λ e. ap (λ (x : TableSchema). x.name) (get_or_default es k e d within)) d

  -- ---- tests

  module _ (p : TableSchema → Bool) where
    none_at : (xs : List TableSchema) → list_any p xs ≡ false → (k : ℕ) (d : TableSchema)
        → k < length xs → p (get_or xs k d) ≡ false
    none_at [] e k d within = absurd (omega arith)
    none_at (x ∷ xs) e k d within =
        by (λ f j less. none_at xs f j d less) (p x) refl e k within
      where
        by : (list_any p xs ≡ false → (j : ℕ) → j < length xs → p (get_or xs j d) ≡ false)
            → (b : Bool) → p x ≡ b → (b || list_any p xs) ≡ false → (k : ℕ)
            → k < suc (length xs) → p (get_or (x ∷ xs) k d) ≡ false
        by behind true is e k within = absurd (false≢true (sym e))
        by behind false is e zero within = is
        by behind false is e (suc k) within = behind e k (omega arith)

    none_of : (xs : List TableSchema) → ((k : ℕ) (d : TableSchema) → k < length xs
        → p (get_or xs k d) ≡ false) → list_any p xs ≡ false
    none_of [] h = refl
    none_of (x ∷ xs) h = ap (λ b. b || list_any p xs) (h 0 x (omega arith))
        ∙ none_of xs (λ k d within. h (suc k) d (omega arith))

  -- no table has one of the families
  pub no_clash : (families : List ℕ) (b : Bool)
      → b ≡ list_any (λ (d : TableSchema). shares families d) es
      → b ≡ false ↔ ((name : List ℕ) (d : TableSchema) → map.get (tables es) name ≡ Some d
      → shares families d ≡ false)
  no_clash families b is = (
    λ none name d there.
        let s = stands_at name d there in
        ap (λ (e : TableSchema). shares families e) (sym s.is)
        ∙ none_at (λ (e : TableSchema). shares families e) es (sym is ∙ none) s.at d s.within,
    λ each. is ∙ none_of (λ (e : TableSchema). shares families e) es
        (λ k d within. each (get_or es k d).name (get_or es k d) (at_name k d within)),
  )

  -- the table that a look-up in the list gave has the least family above one
  pub next_table : (o : Option (Bor TableSchema)) (fs : List TableSchema) (i family : ℕ)
      → MatchOption o (length fs ≤ i) (λ x. (i < length fs) × HoldsAt (λ y. x.now ≡ y) fs i)
      → fs ≡ es → i ≤ length es
      → (i < length es → HoldsAt (IsLeastAbove es family) es i)
      → (i ≡ length es → (k : ℕ) (d : TableSchema) → k < length es
      → (get_or es k d).family ≤ family)
      → IsNextTable (tables es) family (option_map (λ d. d.now) o)
  next_table None fs i family past same within least none = λ name d there.
      let s = stands_at name d there in
      let low = none (let n : length fs ≡ length es = ap length same in omega (arith, n, past))
      s.at d s.within in
      let is : (get_or es s.at d).family ≡ d.family = ap (λ (x : TableSchema). x.family) s.is in
      omega (arith, low, is)
  next_table (Some x) fs i family at same within least none =
      let inside : i < length es =
      (let n : length fs ≡ length es = ap length same in let low = at.0 in omega (arith, n, low)) in
      let is : x.now ≡ get_or es i x.now = at.1 x.now
      ∙ ap (λ (l : List TableSchema). get_or l i x.now) same in
      let best = least inside x.now in record {
        name = (get_or es i x.now).name;
        there = at_name i x.now inside ∙ ap (λ y. Some y) (sym is);
        above = let same_family : x.now.family ≡ (get_or es i x.now).family =
            ap (λ (y : TableSchema). y.family) is in
            let high = best.0 in omega (arith, same_family, high);
        least = λ other e there above.
            let s = stands_at other e there in
            let here : (get_or es s.at e).family ≡ e.family =
            ap (λ (y : TableSchema). y.family) s.is in
            let same_family : x.now.family ≡ (get_or es i x.now).family =
            ap (λ (y : TableSchema). y.family) is in
            let low = best.1 s.at e s.within (omega (arith, here, above)) in
            omega (arith, same_family, here, low);
      }
