-- A key condition holds of the items that meet what it asks, and of no others.
use Rattle.std.proofs.Common.{◌≡◌, refl, sym, ap, ◌∙◌, Bool, true, false, ◌&&◌, not, List, [], ◌∷◌, map, Option, Some, None}
use Rattle.std.specs.Prelude.{option_and_then, if◌then◌else◌}
use Rattle.std.specs.Bool.{Decides}
use Rattle.std.specs.List.{list_all}
use Rattle.std.specs.declared.cmp.Ordering.{Ordering}
use Rattle.std.specs.declared.cmp.Ordering.TheVariants.{Less, Equal, Greater}
use Rattle.std.specs.Cmp.Lexicographic.{bytes_decides}
use Rattle.std.specs.Ordering.{is_lt, is_le, is_gt, is_ge, is_some_and, ordering_reverse}
use Rattle.std.proofs.lemmas.Cmp.{int_cmp_total}
use Rattle.std.proofs.lemmas.Option.{same_Some}
use Rattle.alt_value.proofs.Texts.{text_total}
use Rattle.alt_value.specs.declared.attr.Attr.{Attr}
use Rattle.alt_value.specs.declared.kind.KeyKind.{KeyKind}
use Rattle.alt_value.specs.declared.kind.KeyKind.TheVariants as kind
use Rattle.alt_value.specs.Order.{tree_order}
use Rattle.alt_value.specs.Stands.{tree_of}
use Rattle.alt_value.specs.Tree.{Tree, S_tree, N_tree, B_tree}
use Rattle.alt_expr.specs.declared.path.PathPart.{PathPart}
use Rattle.alt_expr.specs.declared.path.PathPart.TheVariants as p
use Rattle.alt_expr.specs.declared.cond.Comparison.{Comparison}
use Rattle.alt_expr.specs.declared.cond.Comparison.TheVariants as c
use Rattle.alt_expr.specs.declared.cond.Operand.{Operand}
use Rattle.alt_expr.specs.declared.cond.Operand.TheVariants as o
use Rattle.alt_expr.specs.declared.cond.Cond.{Cond, out-Cond, map-Cond, fold_out-Cond}
use Rattle.alt_expr.specs.declared.cond.Cond.TheOpen.{Cond-F}
use Rattle.alt_expr.specs.Located.{View, part}
use Rattle.alt_expr.specs.Holds.{denoted, judged, holds, compares, begins, same, order, equal}
use Rattle.alt_expr.specs.KeyForm as k
use Rattle.alt_expr.specs.KeyForm.{Key, Ask, RangeTest, is_key_operand, has_kind, value_for, mirrored, comparison_with_value, key_test, hash_at, hash_value, range_test, ask_of_parts, both_asked, or_else, in_range, ask_of, meets}
use Rattle.alt_expr.proofs.SameValues.{same_decides}
use Rattle.alt_expr.proofs.Seen.{some_pair}

-- ---- sides changed

same_turned : (s t : Tree) → same t s ≡ same s t
same_turned s t = by (same t s) (same s t) (same_decides t s) (same_decides s t)
  where
    by : (a b : Bool) → Decides a (t ≡ s) → Decides b (s ≡ t) → a ≡ b
    by true true f g = refl
    by true false f g = sym (g.1 (sym (f.0 refl)))
    by false true f g = f.1 (sym (g.0 refl))
    by false false f g = refl

equal_turned : (s t : Option Tree) → equal t s ≡ equal s t
equal_turned None None = refl
equal_turned None (Some t) = refl
equal_turned (Some s) None = refl
equal_turned (Some s) (Some t) = same_turned s t

abbrev reversed : Option Ordering → Option Ordering
reversed None = None
reversed (Some r) = Some (ordering_reverse r)

tree_turned : (s t : Tree) → tree_order t s ≡ reversed (tree_order s t)
tree_turned (S_tree s) (S_tree t) = ap Some (text_total.antisymm t s)
tree_turned (N_tree y) (N_tree z) = ap Some (int_cmp_total.antisymm z y)
tree_turned (B_tree s) (B_tree t) = ap Some (text_total.antisymm t s)
tree_turned _ (S_tree t) = refl
tree_turned _ (N_tree z) = refl
tree_turned _ (B_tree t) = refl
tree_turned _ _ = refl

order_turned : (s t : Option Tree) → order t s ≡ reversed (order s t)
order_turned None None = refl
order_turned None (Some t) = refl
order_turned (Some s) None = refl
order_turned (Some s) (Some t) = tree_turned s t

lt_turned : (r : Option Ordering) → is_some_and is_lt (reversed r) ≡ is_some_and is_gt r
lt_turned None = refl
lt_turned (Some Less) = refl
lt_turned (Some Equal) = refl
lt_turned (Some Greater) = refl

le_turned : (r : Option Ordering) → is_some_and is_le (reversed r) ≡ is_some_and is_ge r
le_turned None = refl
le_turned (Some Less) = refl
le_turned (Some Equal) = refl
le_turned (Some Greater) = refl

gt_turned : (r : Option Ordering) → is_some_and is_gt (reversed r) ≡ is_some_and is_lt r
gt_turned None = refl
gt_turned (Some Less) = refl
gt_turned (Some Equal) = refl
gt_turned (Some Greater) = refl

ge_turned : (r : Option Ordering) → is_some_and is_ge (reversed r) ≡ is_some_and is_le r
ge_turned None = refl
ge_turned (Some Less) = refl
ge_turned (Some Equal) = refl
ge_turned (Some Greater) = refl

-- a comparison says the same from its other side
turned : (by : Comparison) (s t : Option Tree) → compares (mirrored by) t s ≡ compares by s t
turned c.Equal s t = equal_turned s t
turned c.NotEqual s t = ap not (equal_turned s t)
turned c.Less s t = ap (is_some_and is_gt) (order_turned s t) ∙ gt_turned (order s t)
turned c.LessEqual s t = ap (is_some_and is_ge) (order_turned s t) ∙ ge_turned (order s t)
turned c.Greater s t = ap (is_some_and is_lt) (order_turned s t) ∙ lt_turned (order s t)
turned c.GreaterEqual s t = ap (is_some_and is_le) (order_turned s t) ∙ le_turned (order s t)

-- ---- operands

module _ (item : View) where
  there : (t : Option Tree) → option_and_then (part []) t ≡ t
  there None = refl
  there (Some t) = refl

  -- the key attribute denotes what the item has there
  key_denotes : (key : Key) (x : Operand) → is_key_operand key x ≡ true → denoted item x ≡ item key.name
  key_denotes key (o.At (p.Name n ∷ [])) e = there (item n)
      ∙ ap item ((bytes_decides n key.name).0 e)
  key_denotes key (o.At []) e = cc
  key_denotes key (o.At (p.Name n ∷ q ∷ qs)) e = cc
  key_denotes key (o.At (p.Index i ∷ qs)) e = cc
  key_denotes key (o.Value v) e = cc
  key_denotes key (o.Size path) e = cc

  -- a value denotes itself
  value_denotes : (key : Key) (x : Operand) (v : Attr) → value_for key x ≡ Some v
      → denoted item x ≡ Some (tree_of v)
  value_denotes key (o.At path) v e = cc
  value_denotes key (o.Size path) v e = cc
  value_denotes key (o.Value w) v e = by (has_kind key.kind w) e
    where
      by : (b : Bool) → (if b then Some w else None) ≡ Some v → Some (tree_of w) ≡ Some (tree_of v)
      by true e = ap (λ u. Some (tree_of u)) (same_Some w v e)
      by false e = cc

  valued : (by : Comparison) (w : Option Attr) (c : Comparison) (v : Attr)
      → comparison_with_value by w ≡ Some (c, v) → (by ≡ c) × (w ≡ Some v)
  valued by None c v e = cc
  valued by (Some u) c v e = let s = some_pair (by, u) (c, v) e in (s.0, ap Some s.1)

  -- a comparison with a key says what its test says
  compared_as : (key : Key) (by : Comparison) (x y : Operand) (c : Comparison) (v : Attr)
      → key_test key by x y ≡ Some (c, v)
      → compares by (denoted item x) (denoted item y)
      ≡ compares c (item key.name) (Some (tree_of v))
  compared_as key by x y c v e = at (is_key_operand key x) refl e
    where
      behind : (b : Bool) → is_key_operand key y ≡ b
          → (if b then comparison_with_value (mirrored by) (value_for key x) else None) ≡ Some (c, v)
          → compares by (denoted item x) (denoted item y)
          ≡ compares c (item key.name) (Some (tree_of v))
      behind true is e =
          let w = valued (mirrored by) (value_for key x) c v e in
          sym (turned by (denoted item x) (denoted item y))
          ∙ (λ i. compares (w.0 i) (key_denotes key y is i) (value_denotes key x v w.1 i))
      behind false is e = cc

      at : (b : Bool) → is_key_operand key x ≡ b
          → (if b then comparison_with_value by (value_for key y)
          else (if is_key_operand key y then comparison_with_value (mirrored by) (value_for key x) else None))
          ≡ Some (c, v)
          → compares by (denoted item x) (denoted item y)
          ≡ compares c (item key.name) (Some (tree_of v))
      at true is e =
          let w = valued by (value_for key y) c v e in
          λ i. compares (w.0 i) (key_denotes key x is i) (value_denotes key y v w.1 i)
      at false is e = behind (is_key_operand key y) refl e

  -- ---- the HASH attribute

  equal_is : (t : Option (Comparison × Attr)) (v : Attr) → k.equal_value t ≡ Some v
      → t ≡ Some (c.Equal, v)
  equal_is None v e = cc
  equal_is (Some (c.Equal, w)) v e = ap (λ u. Some (c.Equal, u)) (same_Some w v e)
  equal_is (Some (_, w)) v e = cc

  -- a condition holds by the top of its tree, once it is known which of its parts do
  opened : (x : Cond) → holds item x ≡ judged item (map-Cond Cond Bool (holds item) (out-Cond x))
  unfolding holds
  opened x = fold_out-Cond Bool (judged item) x

  hash_holds : (key : Key) (x : Cond) (v : Attr) → hash_value key x ≡ Some v
      → holds item x ≡ compares c.Equal (item key.name) (Some (tree_of v))
  hash_holds key x v e = opened x ∙ at (out-Cond x) e
    where
      at : (top : Cond-F Cond) → hash_at key top ≡ Some v
          → judged item (map-Cond Cond Bool (holds item) top)
          ≡ compares c.Equal (item key.name) (Some (tree_of v))
      at (Cond-F.Compare by y z) e =
          compared_as key by y z c.Equal v (equal_is (key_test key by y z) v e)
      at _ e = cc

  -- ---- the RANGE attribute

  range_compared : (key : Key) (by : Comparison) (x y : Operand) (t : RangeTest)
      (q : Option (Comparison × Attr)) → key_test key by x y ≡ q → k.range_comparison q ≡ Some t
      → compares by (denoted item x) (denoted item y) ≡ in_range t (item key.name)
  range_compared key by x y t None is e = cc
  range_compared key by x y t (Some (c.NotEqual, v)) is e = cc
  range_compared key by x y t (Some (c.Equal, v)) is e = compared_as key by x y c.Equal v is
      ∙ ap (λ r. in_range r (item key.name)) (same_Some _ t e)
  range_compared key by x y t (Some (c.Less, v)) is e = compared_as key by x y c.Less v is
      ∙ ap (λ r. in_range r (item key.name)) (same_Some _ t e)
  range_compared key by x y t (Some (c.LessEqual, v)) is e = compared_as key by x y c.LessEqual v is
      ∙ ap (λ r. in_range r (item key.name)) (same_Some _ t e)
  range_compared key by x y t (Some (c.Greater, v)) is e = compared_as key by x y c.Greater v is
      ∙ ap (λ r. in_range r (item key.name)) (same_Some _ t e)
  range_compared key by x y t (Some (c.GreaterEqual, v)) is e =
      compared_as key by x y c.GreaterEqual v is
      ∙ ap (λ r. in_range r (item key.name)) (same_Some _ t e)

  range_bounded : (key : Key) (x low high : Operand) (t : RangeTest) (l h : Option Attr)
      → value_for key low ≡ l → value_for key high ≡ h → is_key_operand key x ≡ true
      → k.range_between l h ≡ Some t
      → (compares c.GreaterEqual (denoted item x) (denoted item low)
      && compares c.LessEqual (denoted item x) (denoted item high)) ≡ in_range t (item key.name)
  range_bounded key x low high t (Some l) (Some h) is_low is_high is e =
      (λ i. compares c.GreaterEqual (key_denotes key x is i) (value_denotes key low l is_low i)
      && compares c.LessEqual (key_denotes key x is i) (value_denotes key high h is_high i))
      ∙ ap (λ r. in_range r (item key.name)) (same_Some _ t e)
  range_bounded key x low high t None h is_low is_high is e = cc
  range_bounded key x low high t (Some l) None is_low is_high is e = cc

  range_begun : (key : Key) (x y : Operand) (t : RangeTest) (j : KeyKind) (v : Option Attr)
      → value_for key y ≡ v → is_key_operand key x ≡ true → k.range_front j v ≡ Some t
      → begins (denoted item x) (denoted item y) ≡ in_range t (item key.name)
  range_begun key x y t kind.N v is_v is e = cc
  range_begun key x y t kind.S (Some v) is_v is e =
      (λ i. begins (key_denotes key x is i) (value_denotes key y v is_v i))
      ∙ ap (λ r. in_range r (item key.name)) (same_Some _ t e)
  range_begun key x y t kind.B (Some v) is_v is e =
      (λ i. begins (key_denotes key x is i) (value_denotes key y v is_v i))
      ∙ ap (λ r. in_range r (item key.name)) (same_Some _ t e)
  range_begun key x y t kind.S None is_v is e = cc
  range_begun key x y t kind.B None is_v is e = cc

  -- what a test of two outcomes gave, where only its first can
  first_alone : (b : Bool) (o : Option RangeTest) (t : RangeTest) → (if b then o else None) ≡ Some t
      → (b ≡ true) × (o ≡ Some t)
  first_alone true o t e = (refl, e)
  first_alone false o t e = cc

  range_holds : (key : Key) (x : Cond) (t : RangeTest) → range_test key x ≡ Some t
      → holds item x ≡ in_range t (item key.name)
  range_holds key x t e = opened x ∙ at (out-Cond x) e
    where
      at : (top : Cond-F Cond) → k.range_at key top ≡ Some t
          → judged item (map-Cond Cond Bool (holds item) top) ≡ in_range t (item key.name)
      at (Cond-F.Compare by y z) e = range_compared key by y z t (key_test key by y z) refl e
      at (Cond-F.Between y low high) e =
          let w = first_alone (is_key_operand key y)
          (k.range_between (value_for key low) (value_for key high)) t e in
          range_bounded key y low high t (value_for key low) (value_for key high) refl refl w.0 w.1
      at (Cond-F.BeginsWith y z) e =
          let w = first_alone (is_key_operand key y) (k.range_front key.kind (value_for key z)) t e in
          range_begun key y z t key.kind (value_for key z) refl w.0 w.1
      at _ e = cc

  -- ---- the whole

  both_parts : (v : Option Attr) (t : Option RangeTest) (ask : Ask) → ask_of_parts v t ≡ Some ask
      → (v ≡ Some ask.hash) × (t ≡ Some ask.range)
  both_parts (Some v) (Some t) ask e = let is = same_Some _ ask e in
      (ap (λ a. Some a.hash) is, ap (λ a. Some a.range) is)
  both_parts None t ask e = cc
  both_parts (Some v) None ask e = cc

  pair_holds : (hash : Key) (range : Option Key) (x y : Cond) (ask : Ask)
      → both_asked hash range x y ≡ Some ask → (holds item x && holds item y)
      ≡ meets hash range ask item
  pair_holds hash (Some range) x y ask e =
      let parts = both_parts (hash_value hash x) (range_test range y) ask e in
      λ i. hash_holds hash x ask.hash parts.0 i && range_holds range y ask.range parts.1 i
  pair_holds hash None x y ask e = cc

  and_turned : (a b : Bool) → (a && b) ≡ (b && a)
  and_turned true true = refl
  and_turned true false = refl
  and_turned false true = refl
  and_turned false false = refl

  and_true : (b : Bool) → b ≡ (b && true)
  and_true true = refl
  and_true false = refl

  joined_holds : (hash : Key) (range : Option Key) (x y : Cond) (ask : Ask)
      → or_else (both_asked hash range x y) (both_asked hash range y x) ≡ Some ask
      → (holds item x && holds item y) ≡ meets hash range ask item
  joined_holds hash range x y ask e = at (both_asked hash range x y) refl e
    where
      at : (a : Option Ask) → both_asked hash range x y ≡ a
          → or_else a (both_asked hash range y x) ≡ Some ask
          → (holds item x && holds item y) ≡ meets hash range ask item
      at (Some a) is e = pair_holds hash range x y ask (is ∙ e)
      at None is e = and_turned (holds item x) (holds item y) ∙ pair_holds hash range y x ask e

  any_range : (range : Option Key) → k.range_meets range k.anything item ≡ true
  any_range None = refl
  any_range (Some range) = refl

  alone_holds : (hash : Key) (range : Option Key) (x : Cond) (ask : Ask)
      → ask_of_parts (hash_value hash x) (Some k.anything) ≡ Some ask
      → holds item x ≡ meets hash range ask item
  alone_holds hash range x ask e =
      let parts = both_parts (hash_value hash x) (Some k.anything) ask e in
      let free : k.range_meets range ask.range item ≡ true =
      ap (λ r. k.range_meets range r item) (sym (same_Some _ _ parts.1)) ∙ any_range range in
      hash_holds hash x ask.hash parts.0 ∙ and_true
      (compares c.Equal (item hash.name) (Some (tree_of ask.hash)))
      ∙ ap (λ b. compares c.Equal (item hash.name) (Some (tree_of ask.hash)) && b) (sym free)

  all_hold : (hash : Key) (range : Option Key) (xs : List Cond) (ask : Ask)
      → k.joined_ask hash range xs ≡ Some ask
      → list_all (λ b. b) (map (holds item) xs) ≡ meets hash range ask item
  all_hold hash range (x ∷ y ∷ []) ask e = ap (λ b. holds item x && b)
      (sym (and_true (holds item y))) ∙ joined_holds hash range x y ask e
  all_hold hash range [] ask e = cc
  all_hold hash range (x ∷ []) ask e = cc
  all_hold hash range (x ∷ y ∷ z ∷ zs) ask e = cc

  -- by the top of a tree: two conditions, or one
  top_holds : (hash : Key) (range : Option Key) (x : Cond) (ask : Ask) (top : Cond-F Cond)
      → out-Cond x ≡ top → k.ask_at hash range top ≡ Some ask
      → holds item x ≡ meets hash range ask item
  top_holds hash range x ask (Cond-F.All xs) is e = opened x
      ∙ ap (λ top. judged item (map-Cond Cond Bool (holds item) top)) is
      ∙ all_hold hash range xs ask e
  top_holds hash range x ask (Cond-F.Compare by y z) is e =
      alone_holds hash range x ask (ap (λ top. ask_of_parts (k.hash_at hash top) (Some k.anything)) is ∙ e)
  top_holds hash range x ask _ is e = cc

-- a key condition holds exactly of what meets its ask
pub holds_as_asked : (hash : Key) (range : Option Key) (x : Cond) (ask : Ask)
    → ask_of hash range x ≡ Some ask → (item : View) → holds item x ≡ meets hash range ask item
unfolding ask_of
holds_as_asked hash range x ask e item = top_holds item hash range x ask (out-Cond x) refl e
