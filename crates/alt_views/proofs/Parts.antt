-- A part of an item: the attributes whose names pass a test.
use Rattle.std.proofs.Common.{◌≡◌, ◌≤◌, ◌+◌, refl, sym, ap, ◌∙◌, ℕ, Bool, true, false, not, cond, T, List, [], ◌∷◌, length, Some, None, max, arith}
use Rattle.std.proofs.Math.Bool.{or-false}
use Rattle.std.specs.Prelude.{◌||◌}
use Rattle.std.specs.Ordering.{eq_by_cmp, is_lt}
use Rattle.std.specs.Str.{bytes_eq}
use Rattle.std.specs.FinMap.Entries.{where_key, below_all, is_sorted-where_key, find-where_key}
use Rattle.alt_base.proofs.Bools.{both_hold, first_holds, second_holds}
use Rattle.alt_schema.specs.declared.schema.KeyAttr.{KeyAttr}
use Rattle.alt_value.specs.Item.{IsItem, at_name, without}
use Rattle.alt_value.specs.Members.{text_order}
use Rattle.alt_value.specs.Size.{depth, fields_depth, size, item_size}
use Rattle.alt_value.specs.Tree.{Pair, fields_of}
use Rattle.alt_value.specs.Values.{AreFields, IsItemOfValues, sets_full, fields_full}
use Rattle.alt_value.proofs.TextTies.{text_ties}
use Rattle.alt_value.proofs.Texts.{text_apart}
use Rattle.alt_views.specs.IndexRows.{beside}
use Rattle.alt_views.specs.ItemRows.{IsReadItem}

module _ (p : List ℕ → Bool) where
  -- its names are above one that the item's are above
  below-where : (name : List ℕ) (qs : List Pair) → T (below_all text_order name qs)
      → T (below_all text_order name (where_key text_order p qs))
  below-where name [] h = tt
  below-where name (q ∷ qs) h =
      elim (p q.0) as (λ b. T (below_all text_order name
      (cond b (q ∷ where_key text_order p qs) (where_key text_order p qs)))) [
        | true ↦ both_hold (is_lt (text_order name q.0)) _ (first_holds _ _ h)
            (below-where name qs (second_holds _ _ h))
        | false ↦ below-where name qs (second_holds _ _ h)
      ]

  -- it is an item
  pub item-where : (qs : List Pair) → IsItem qs → IsItem (where_key text_order p qs)
  item-where qs h = (is_sorted-where_key text_order p qs h.0, below-where [] qs h.1)

  -- its attributes are values where the item's are
  fields-where : (qs : List Pair) → AreFields (fields_of qs)
      → AreFields (fields_of (where_key text_order p qs))
  fields-where [] h = tt
  fields-where (q ∷ qs) h =
      elim (p q.0) as (λ b. AreFields (fields_of
      (cond b (q ∷ where_key text_order p qs) (where_key text_order p qs)))) [
        | true ↦ (h.0, h.1, fields-where qs h.2)
        | false ↦ fields-where qs h.2
      ]

  -- they are no more than the item's
  fewer : (qs : List Pair) → length (where_key text_order p qs) ≤ length qs
  fewer [] = omega arith
  fewer (q ∷ qs) =
      elim (p q.0) as (λ b. length (cond b (q ∷ where_key text_order p qs)
      (where_key text_order p qs)) ≤ length (q ∷ qs)) [
        | true ↦ omega (arith, fewer qs)
        | false ↦ omega (arith, fewer qs)
      ]

  -- of values, where the item is
  pub values-where : (qs : List Pair) → IsItemOfValues qs
      → IsItemOfValues (where_key text_order p qs)
  values-where qs h = record {
    names = item-where qs h.names;
    fields = fields-where qs h.fields;
    count = omega (arith, fewer qs, h.count);
  }

  -- no set in it is empty where none in the item is
  full-where : (qs : List Pair) → T (fields_full (fields_of qs))
      → T (fields_full (fields_of (where_key text_order p qs)))
  full-where [] h = tt
  full-where (q ∷ qs) h =
      elim (p q.0) as (λ b. T (fields_full (fields_of
      (cond b (q ∷ where_key text_order p qs) (where_key text_order p qs))))) [
        | true ↦ both_hold (sets_full q.1) _ (first_holds _ _ h)
            (full-where qs (second_holds _ _ h))
        | false ↦ full-where qs (second_holds _ _ h)
      ]

  -- it is no deeper
  depth-where : (qs : List Pair) → fields_depth (fields_of (where_key text_order p qs))
      ≤ fields_depth (fields_of qs)
  depth-where [] = omega arith
  depth-where (q ∷ qs) =
      elim (p q.0) as (λ b. fields_depth (fields_of
      (cond b (q ∷ where_key text_order p qs) (where_key text_order p qs)))
      ≤ max (depth q.1) (fields_depth (fields_of qs))) [
        | true ↦ omega (arith, max, depth-where qs)
        | false ↦ omega (arith, max, depth-where qs)
      ]

  -- it is no larger
  pub size-where : (qs : List Pair) → item_size (where_key text_order p qs) ≤ item_size qs
  size-where [] = omega arith
  size-where (q ∷ qs) =
      elim (p q.0) as (λ b. item_size
      (cond b (q ∷ where_key text_order p qs) (where_key text_order p qs))
      ≤ length q.0 + size q.1 + item_size qs) [
        | true ↦ omega (arith, size-where qs)
        | false ↦ omega (arith, size-where qs)
      ]

  -- and it can be read where the item can
  pub read-where : (qs : List Pair) → IsReadItem qs → IsReadItem (where_key text_order p qs)
  read-where qs h = record {
    whole = (values-where qs h.whole.0, full-where qs h.whole.1);
    depth = omega (arith, depth-where qs, h.depth);
  }

  -- what is at a name, if the name passes
  pub at_name-where : (name : List ℕ) (qs : List Pair)
      → at_name name (where_key text_order p qs) ≡ cond (p name) (at_name name qs) None
  at_name-where name qs = find-where_key text_order p name
      (λ x tie. ap p (sym (text_apart name x tie))) qs

-- ---- tests of names

-- tests that agree on each name choose the same attributes
pub where-alike : (p q : List ℕ → Bool) (xs : List Pair) → ((n : List ℕ) → p n ≡ q n)
    → where_key text_order p xs ≡ where_key text_order q xs
where-alike p q [] h = refl
where-alike p q (x ∷ xs) h = λ i. cond (h x.0 i) (x ∷ where-alike p q xs h i)
    (where-alike p q xs h i)

-- one test behind another is that of neither
where-twice : (a b : List ℕ → Bool) (xs : List Pair)
    → where_key text_order (λ n. not (a n || b n)) xs
    ≡ where_key text_order (λ n. not (b n)) (where_key text_order (λ n. not (a n)) xs)
where-twice a b [] = refl
where-twice a b (x ∷ xs) = by (where-twice a b xs) (a x.0)
  where
    IsBehind : Type 0
    IsBehind = where_key text_order (λ n. not (a n || b n)) xs
        ≡ where_key text_order (λ n. not (b n)) (where_key text_order (λ n. not (a n)) xs)

    behind : IsBehind → (c : Bool) → cond (not c) (x ∷ where_key text_order (λ n. not (a n || b n)) xs)
        (where_key text_order (λ n. not (a n || b n)) xs)
        ≡ cond (not c)
        (x ∷ where_key text_order (λ n. not (b n)) (where_key text_order (λ n. not (a n)) xs))
        (where_key text_order (λ n. not (b n)) (where_key text_order (λ n. not (a n)) xs))
    behind rest true = rest
    behind rest false = ap (λ ys. x ∷ ys) rest

    by : IsBehind → (c : Bool) → cond (not (c || b x.0)) (x ∷ where_key text_order (λ n. not (a n || b n)) xs)
        (where_key text_order (λ n. not (a n || b n)) xs)
        ≡ where_key text_order (λ n. not (b n))
        (cond (not c) (x ∷ where_key text_order (λ n. not (a n)) xs)
        (where_key text_order (λ n. not (a n)) xs))
    by rest true = rest
    by rest false = behind rest (b x.0)

-- ---- an item without its keys

-- the attributes beside a HASH key alone are those without the one of its name
pub beside-hash : (hash : KeyAttr) (item : List Pair)
    → beside hash None item ≡ without hash.name item
beside-hash hash item = where-alike _ _ item
    (λ n. ap not (or-false (bytes_eq hash.name n) ∙ sym (text_ties hash.name n)))

-- beside both keys, they are those without the two of their names
pub beside-both : (hash range : KeyAttr) (item : List Pair)
    → beside hash (Some range) item ≡ without range.name (without hash.name item)
beside-both hash range item =
    where-twice (λ n. bytes_eq hash.name n) (λ n. bytes_eq range.name n) item
    ∙ where-alike (λ n. not (bytes_eq range.name n))
    (λ n. not (eq_by_cmp text_order range.name n)) _ (λ n. ap not (sym (text_ties range.name n)))
    ∙ ap (where_key text_order (λ n. not (eq_by_cmp text_order range.name n)))
    (where-alike (λ n. not (bytes_eq hash.name n)) (λ n. not (eq_by_cmp text_order hash.name n))
    item (λ n. ap not (sym (text_ties hash.name n))))
