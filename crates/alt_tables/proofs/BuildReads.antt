-- What a step of building reads: the items of which the index isn't built yet, in the order of their places.
use Rattle.std.proofs.Common.{◌≡◌, ◌≤◌, ◌<◌, ◌+◌, refl, sym, ap, ◌∙◌, ℕ, Bool, true, false, not, List, [], ◌∷◌, ◌++◌, length, map as each, take, nat_le, Option, Some, None, inl, inr, ⊎_elim, arith}
use Rattle.std.proofs.lemmas.Bool.Decides.{nat_tests}
use Rattle.std.proofs.lemmas.List.{length-map, length-take-le, take-map, take-take, take_all}
use Rattle.std.proofs.Math.Bool.{and-true}
use Rattle.std.specs.BTreeMap.Range.{range_contains}
use Rattle.std.specs.Cmp.{tied_itself}
use Rattle.std.specs.FinMap as map
use Rattle.std.specs.List.{filter, last_or}
use Rattle.std.specs.Option.{option_map_or}
use Rattle.std.specs.Ordering.{is_le, ordering_reverse}
use Rattle.std.specs.Prelude.{if◌then◌else◌}
use Rattle.std.specs.declared.cmp.Ordering.{Ordering}
use Rattle.std.specs.declared.cmp.Ordering.TheVariants.{Less, Equal, Greater}
use Rattle.std.specs.declared.ops.Bound.TheVariants.{Included, Unbounded}
use Rattle.alt_keyorder.specs.Range.{IsBelow}
use Rattle.alt_machine.specs.Building.{built_after, built_place, building_in, is_building, left_part, reaches}
use Rattle.alt_machine.specs.Lists.{key_attributes}
use Rattle.alt_machine.specs.State.{Table}
use Rattle.alt_machine.specs.Walks.{items_between}
use Rattle.alt_machine.proofs.BuildParts.{Placed}
use Rattle.alt_rowchanges.proofs.OpeningNextRow.{after_below, below_after}
use Rattle.alt_rowchanges.proofs.OpeningOneIndex.{found_at}
use Rattle.alt_schema.specs.Bare.{is_whole}
use Rattle.alt_schema.specs.declared.schema.Built.{Built}
use Rattle.alt_schema.specs.declared.schema.Built.TheVariants.{Whole, UpTo}
use Rattle.alt_schema.specs.declared.schema.IndexSchema.{IndexSchema}
use Rattle.alt_schema.specs.declared.schema.TableSchema.{TableSchema}
use Rattle.alt_rowchanges.specs.Steps.{built_to, first_behind}
use Rattle.alt_value.specs.Members.{text_order}
use Rattle.alt_value.specs.Tree.{Pair}
use Rattle.alt_value.proofs.TextTies.{empty_up_to}
use Rattle.alt_value.proofs.Texts.{text_apart, text_total}

-- ---- places

-- what isn't up to a place comes from the least key behind it on
behind_is : (last q : List ℕ)
    → is_le (text_order (last ++ 0 ∷ []) q) ≡ not (is_le (text_order q last))
behind_is last q = by (text_order q last) refl
  where
    -- what is below it isn't
    below : IsBelow q (last ++ 0 ∷ []) → is_le (text_order (last ++ 0 ∷ []) q) ≡ false
    below low = ap is_le (text_total.antisymm (last ++ 0 ∷ []) q ∙ ap ordering_reverse low)

    from : text_order q last ≡ Greater → (o : Ordering) → text_order (last ++ 0 ∷ []) q ≡ o
        → is_le o ≡ true
    from above Less e = refl
    from above Equal e = refl
    from above Greater e = absurd (⊎_elim
        (λ (low : IsBelow q last). let no : Less ≡ Greater = sym low ∙ above in cc no)
        (λ (same : q ≡ last). let no : Equal ≡ Greater = sym (tied_itself text_total last)
        ∙ ap (λ p. text_order p last) (sym same) ∙ above in cc no)
        (below_after q last
        (text_total.antisymm q (last ++ 0 ∷ []) ∙ ap ordering_reverse e)))

    by : (o : Ordering) → text_order q last ≡ o
        → is_le (text_order (last ++ 0 ∷ []) q) ≡ not (is_le o)
    by Less e = below (after_below q last (inl e))
    by Equal e = below (after_below q last (inr (text_apart q last e)))
    by Greater e = from e (text_order (last ++ 0 ∷ []) q) refl

module _ (d : TableSchema) where
  -- what isn't reached comes from that key on
  from_left : (b : Built) → is_whole b ≡ false → (q : List ℕ)
      → range_contains text_order (Included (first_behind (built_to d b))) Unbounded q
      ≡ not (reaches d b q)
  from_left Whole whole q = absurd (let no : true ≡ false = whole in cc no)
  from_left (UpTo None) whole q = and-true (is_le (text_order [] q)) ∙ empty_up_to q
  from_left (UpTo (Some key)) whole q = by (built_place d key)
    where
      by : (o : Option (List ℕ))
          → range_contains text_order (Included (first_behind o)) Unbounded q
          ≡ not (option_map_or (λ last. is_le (text_order q last)) o false)
      by None = and-true (is_le (text_order [] q)) ∙ empty_up_to q
      by (Some last) = and-true (is_le (text_order (last ++ 0 ∷ []) q)) ∙ behind_is last q

-- So these are the items that are left.
pub left_items : (t : Table) (b : Built) → is_whole b ≡ false
    → items_between t None (first_behind (built_to t.description b)) None true
    ≡ each (λ (e : List ℕ × List Pair). e.1) (left_part t.description b t.items)
left_items t b whole = ap (each (λ (e : List ℕ × List Pair). e.1))
    (λ j. filter (λ (e : List ℕ × List Pair). from_left t.description b whole e.0 j)
    (map.entries t.items))

-- ---- the first of them

-- items without their places
abbrev pub item_in : List ℕ × List Pair → List Pair
item_in e = e.1

module _ (most taken : ℕ) (one : 1 ≤ most) (left : Placed) (items : List (List Pair))
    (read : items ≡ take (most + 1) (each item_in left))
    (all : length items ≤ most → taken ≡ length items)
    (some : most < length items → taken ≡ most) where
  -- where there are no more all are read, and taken
  few : length left ≤ most → items ≡ each item_in left
  few h = read ∙ take_all (most + 1) (each item_in left)
      (let n = length-map left item_in in omega (arith, n, h))

  few_taken : length left ≤ most → taken ≡ length items
  few_taken h = all (let n = ap length (few h) in let m = length-map left item_in in
      omega (arith, n, m, h))

  -- else one more is read than is taken
  many : most < length left → length items ≡ most + 1
  many h = ap length read ∙ length-take-le (most + 1) (each item_in left)
      (let n = length-map left item_in in omega (arith, n, h))

  many_taken : most < length left → taken ≡ most
  many_taken h = some (let n = many h in omega (arith, n))

  -- What is taken are the first of those that are left.
  pub taken_items : take taken items ≡ each item_in (take most left)
  taken_items = by (nat_le (length left) most) refl
    where
      by : (c : Bool) → nat_le (length left) most ≡ c
          → take taken items ≡ each item_in (take most left)
      by true e =
          let h : length left ≤ most = grind (arith, nat_tests) in
          take_all taken items (let n = few_taken h in omega (arith, n))
          ∙ few h
          ∙ ap (each item_in) (sym (take_all most left h))
      by false e =
          let h : most < length left = grind (arith, nat_tests) in
          ap (λ n. take n items) (many_taken h)
          ∙ ap (take most) read
          ∙ take-take most (most + 1) (each item_in left) (omega arith)
          ∙ take-map item_in most left

  -- and so far the index is built then
  pub taken_built : (d : TableSchema) (b : Built) → (taken ≡ length items → b ≡ Whole)
      → (taken < length items → 1 ≤ taken
      → b ≡ UpTo (last_or None (each (key_attributes d None) (take taken items))))
      → b ≡ built_after d most left
  taken_built d b whole up_to = by (nat_le (length left) most) refl
    where
      of_items : (es : Placed) → each (key_attributes d None) (each item_in es)
          ≡ each (λ (e : List ℕ × List Pair). key_attributes d None e.1) es
      of_items [] = refl
      of_items (e ∷ es) = ap (λ ks. key_attributes d None e.1 ∷ ks) (of_items es)

      by : (c : Bool) → nat_le (length left) most ≡ c
          → b ≡ (if c then Whole else UpTo (last_or None
          (each (λ (e : List ℕ × List Pair). key_attributes d None e.1) (take most left))))
      by true e =
          let h : length left ≤ most = grind (arith, nat_tests) in
          whole (few_taken h)
      by false e =
          let h : most < length left = grind (arith, nat_tests) in
          up_to (let n = many h in let m = many_taken h in omega (arith, n, m))
          (let m = many_taken h in omega (arith, one, m))
          ∙ ap (λ ks. UpTo (last_or None ks))
          (ap (each (key_attributes d None)) taken_items ∙ of_items (take most left))

-- ---- the read

-- the index that is being built isn't whole
pub unfinished : (d : TableSchema) (i : IndexSchema) → building_in d ≡ Some i
    → is_whole i.built ≡ false
unfinished d i building = by (is_whole i.built) (found_at is_building d.globals i building).2
  where
    by : (b : Bool) → not b ≡ true → b ≡ false
    by true e = absurd (let no : false ≡ true = e in cc no)
    by false e = refl

-- What was read are the first of the items that are left.
pub read_left : (t : Table) (i : IndexSchema) → building_in t.description ≡ Some i
    → (from : List ℕ) → from ≡ first_behind (built_to t.description i.built)
    → (to : Option (List ℕ)) → to ≡ None → (most : ℕ)
    → take most (items_between t None from to true)
    ≡ take most (each item_in (left_part t.description i.built t.items))
read_left t i building from begins to ends most =
    (λ j. take most (items_between t None (begins j) (ends j) true))
    ∙ ap (take most) (left_items t i.built (unfinished t.description i building))
