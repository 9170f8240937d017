-- The values of an ask are keys.
use Rattle.std.proofs.Common.{◌≡◌, refl, sym, ap, subst, ◌∙◌, Bool, true, false, List, [], ◌∷◌, Option, Some, None}
use Rattle.std.proofs.lemmas.Option.{same_Some}
use Rattle.std.specs.Prelude.{if◌then◌else◌}
use Rattle.alt_base.proofs.Options.{some_of_if}
use Rattle.alt_value.specs.declared.attr.Attr.{Attr}
use Rattle.alt_value.specs.declared.attr.Attr.TheVariants as a
use Rattle.alt_value.specs.declared.kind.KeyKind.{KeyKind}
use Rattle.alt_value.specs.declared.kind.KeyKind.TheVariants as kind
use Rattle.alt_value.specs.Stands.{tree_of}
use Rattle.alt_expr.specs.declared.cond.Comparison.{Comparison}
use Rattle.alt_expr.specs.declared.cond.Comparison.TheVariants as c
use Rattle.alt_expr.specs.declared.cond.Operand.{Operand}
use Rattle.alt_expr.specs.declared.cond.Operand.TheVariants as o
use Rattle.alt_expr.specs.declared.cond.Cond.{Cond, out-Cond}
use Rattle.alt_expr.specs.declared.cond.Cond.TheOpen.{Cond-F}
use Rattle.alt_expr.specs.KeyForm as f
use Rattle.alt_expr.specs.KeyForm.{Key, Ask, RangeTest, ask_of}
use Rattle.alt_expr.proofs.Seen.{some_pair}
use Rattle.alt_keyorder.specs.KeyBytes.{IsKey}
use Rattle.alt_keycond.specs.Asked.{test_of, answer_asks}
use Rattle.alt_keycond.specs.KeysAsked.{HasFront, AsksKeys}
use Rattle.alt_keycond.specs.declared.ask.KeyAsk.{KeyAsk}
use Rattle.alt_keycond.specs.declared.ask.RangeAsk.{RangeAsk}
use Rattle.alt_keycond.specs.declared.ask.RangeAsk.TheVariants as r

-- a value of a kind is one that a key can have
kind_key : (k : KeyKind) (v : Attr) → f.has_kind k v ≡ true → IsKey (tree_of v)
kind_key kind.S (a.S s) e = tt
kind_key kind.N (a.N z) e = tt
kind_key kind.B (a.B b) e = tt
kind_key kind.S _ e = cc
kind_key kind.N _ e = cc
kind_key kind.B _ e = cc

kind_front : (k : KeyKind) (v : Attr) → (k ≡ kind.N → ⊥) → f.has_kind k v ≡ true
    → HasFront (tree_of v)
kind_front kind.S (a.S s) other e = tt
kind_front kind.B (a.B b) other e = tt
kind_front kind.N v other e = absurd (other refl)
kind_front kind.S _ other e = cc
kind_front kind.B _ other e = cc

-- a value that is found for a key is of its kind
found_kind : (key : Key) (x : Operand) (v : Attr) → f.value_for key x ≡ Some v
    → f.has_kind key.kind v ≡ true
found_kind key (o.At path) v e = cc
found_kind key (o.Size path) v e = cc
found_kind key (o.Value w) v e = by (f.has_kind key.kind w) refl e
  where
    by : (b : Bool) → f.has_kind key.kind w ≡ b → (if b then Some w else None) ≡ Some v
        → f.has_kind key.kind v ≡ true
    by true is e = ap (f.has_kind key.kind) (sym (same_Some w v e)) ∙ is
    by false is e = cc

found_key : (key : Key) (x : Operand) (v : Attr) → f.value_for key x ≡ Some v → IsKey (tree_of v)
found_key key x v e = kind_key key.kind v (found_kind key x v e)

pub valued : (by : Comparison) (w : Option Attr) (c : Comparison) (v : Attr)
    → f.comparison_with_value by w ≡ Some (c, v) → w ≡ Some v
valued by None c v e = cc
valued by (Some u) c v e = ap Some (some_pair (by, u) (c, v) e).1

tested_key : (key : Key) (by : Comparison) (x y : Operand) (c : Comparison) (v : Attr)
    → f.key_test key by x y ≡ Some (c, v) → IsKey (tree_of v)
tested_key key by x y c v e = at (f.is_key_operand key x) e
  where
    behind : (b : Bool) → (if b then f.comparison_with_value (f.mirrored by) (f.value_for key x) else None)
        ≡ Some (c, v) → IsKey (tree_of v)
    behind true e = found_key key x v (valued (f.mirrored by) (f.value_for key x) c v e)
    behind false e = cc

    at : (b : Bool)
        → (if b then f.comparison_with_value by (f.value_for key y)
        else (if f.is_key_operand key y then f.comparison_with_value (f.mirrored by) (f.value_for key x) else None))
        ≡ Some (c, v) → IsKey (tree_of v)
    at true e = found_key key y v (valued by (f.value_for key y) c v e)
    at false e = behind (f.is_key_operand key y) e

pub equal_is : (t : Option (Comparison × Attr)) (v : Attr) → f.equal_value t ≡ Some v
    → t ≡ Some (c.Equal, v)
equal_is None v e = cc
equal_is (Some (c.Equal, w)) v e = ap (λ u. Some (c.Equal, u)) (same_Some w v e)
equal_is (Some (_, w)) v e = cc

hash_key : (key : Key) (top : Cond-F Cond) (v : Attr) → f.hash_at key top ≡ Some v
    → IsKey (tree_of v)
hash_key key (Cond-F.Compare by x y) v e =
    tested_key key by x y c.Equal v (equal_is (f.key_test key by x y) v e)
hash_key key _ v e = cc

-- the tests that a form may have, and the asks that hold them
compared_keys : (by : Comparison) (v : Attr) (ask : RangeAsk) → IsKey (tree_of v)
    → f.compared by v ≡ test_of ask → AsksKeys ask
compared_keys by v r.All h e = cc
compared_keys by v (r.Eq w) h e = let is : v ≡ w = cc in subst (λ u. IsKey (tree_of u)) is h
compared_keys by v (r.Lt w) h e = let is : v ≡ w = cc in subst (λ u. IsKey (tree_of u)) is h
compared_keys by v (r.Le w) h e = let is : v ≡ w = cc in subst (λ u. IsKey (tree_of u)) is h
compared_keys by v (r.Gt w) h e = let is : v ≡ w = cc in subst (λ u. IsKey (tree_of u)) is h
compared_keys by v (r.Ge w) h e = let is : v ≡ w = cc in subst (λ u. IsKey (tree_of u)) is h
compared_keys by v (r.Between low high) h e = cc
compared_keys by v (r.Begins w) h e = cc

between_keys : (l h : Attr) (ask : RangeAsk) → IsKey (tree_of l) → IsKey (tree_of h)
    → f.between l h ≡ test_of ask → AsksKeys ask
between_keys l h (r.Between low high) p q e =
    let a : l ≡ low = cc in
    let b : h ≡ high = cc in
    (subst (λ u. IsKey (tree_of u)) a p, subst (λ u. IsKey (tree_of u)) b q)
between_keys l h r.All p q e = cc
between_keys l h (r.Eq w) p q e = cc
between_keys l h (r.Lt w) p q e = cc
between_keys l h (r.Le w) p q e = cc
between_keys l h (r.Gt w) p q e = cc
between_keys l h (r.Ge w) p q e = cc
between_keys l h (r.Begins w) p q e = cc

fronted_keys : (v : Attr) (ask : RangeAsk) → HasFront (tree_of v) → f.fronted v ≡ test_of ask
    → AsksKeys ask
fronted_keys v (r.Begins w) h e = let is : v ≡ w = cc in subst (λ u. HasFront (tree_of u)) is h
fronted_keys v r.All h e = cc
fronted_keys v (r.Eq w) h e = cc
fronted_keys v (r.Lt w) h e = cc
fronted_keys v (r.Le w) h e = cc
fronted_keys v (r.Gt w) h e = cc
fronted_keys v (r.Ge w) h e = cc
fronted_keys v (r.Between low high) h e = cc

comparison_keys : (key : Key) (by : Comparison) (x y : Operand) (ask : RangeAsk)
    (q : Option (Comparison × Attr)) → f.key_test key by x y ≡ q
    → f.range_comparison q ≡ Some (test_of ask) → AsksKeys ask
comparison_keys key by x y ask None is e = cc
comparison_keys key by x y ask (Some (c.NotEqual, v)) is e = cc
comparison_keys key by x y ask (Some (c.Equal, v)) is e =
    compared_keys c.Equal v ask (tested_key key by x y c.Equal v is) (same_Some _ _ e)
comparison_keys key by x y ask (Some (c.Less, v)) is e =
    compared_keys c.Less v ask (tested_key key by x y c.Less v is) (same_Some _ _ e)
comparison_keys key by x y ask (Some (c.LessEqual, v)) is e =
    compared_keys c.LessEqual v ask (tested_key key by x y c.LessEqual v is) (same_Some _ _ e)
comparison_keys key by x y ask (Some (c.Greater, v)) is e =
    compared_keys c.Greater v ask (tested_key key by x y c.Greater v is) (same_Some _ _ e)
comparison_keys key by x y ask (Some (c.GreaterEqual, v)) is e =
    compared_keys c.GreaterEqual v ask (tested_key key by x y c.GreaterEqual v is) (same_Some _ _ e)

bound_keys : (key : Key) (low high : Operand) (ask : RangeAsk) (l h : Option Attr)
    → f.value_for key low ≡ l → f.value_for key high ≡ h → f.range_between l h ≡ Some (test_of ask)
    → AsksKeys ask
bound_keys key low high ask (Some l) (Some h) is_low is_high e =
    between_keys l h ask (found_key key low l is_low) (found_key key high h is_high)
    (same_Some _ _ e)
bound_keys key low high ask None h is_low is_high e = cc
bound_keys key low high ask (Some l) None is_low is_high e = cc

front_keys : (key : Key) (y : Operand) (ask : RangeAsk) (k : KeyKind) (v : Option Attr)
    → key.kind ≡ k → f.value_for key y ≡ v → f.range_front k v ≡ Some (test_of ask) → AsksKeys ask
front_keys key y ask kind.N v same is e = cc
front_keys key y ask kind.S (Some v) same is e =
    fronted_keys v ask
    (kind_front kind.S v (λ n. cc)
    (subst (λ j. f.has_kind j v ≡ true) same (found_kind key y v is))) (same_Some _ _ e)
front_keys key y ask kind.B (Some v) same is e =
    fronted_keys v ask
    (kind_front kind.B v (λ n. cc)
    (subst (λ j. f.has_kind j v ≡ true) same (found_kind key y v is))) (same_Some _ _ e)
front_keys key y ask kind.S None same is e = cc
front_keys key y ask kind.B None same is e = cc

range_keys : (key : Key) (top : Cond-F Cond) (ask : RangeAsk)
    → f.range_at key top ≡ Some (test_of ask) → AsksKeys ask
range_keys key (Cond-F.Compare by x y) ask e =
    comparison_keys key by x y ask (f.key_test key by x y) refl e
range_keys key (Cond-F.Between x low high) ask e =
    bound_keys key low high ask (f.value_for key low) (f.value_for key high) refl refl
    (some_of_if (f.is_key_operand key x) (f.range_between (f.value_for key low) (f.value_for key high))
    (test_of ask) e)
range_keys key (Cond-F.BeginsWith x y) ask e =
    front_keys key y ask key.kind (f.value_for key y) refl refl
    (some_of_if (f.is_key_operand key x) (f.range_front key.kind (f.value_for key y)) (test_of ask) e)
range_keys key _ ask e = cc

-- ---- the whole

pub both_parts : (v : Option Attr) (t : Option RangeTest) (ask : Ask) → f.ask_of_parts v t ≡ Some ask
    → (v ≡ Some ask.hash) × (t ≡ Some ask.range)
both_parts (Some v) (Some t) ask e = let is = same_Some _ ask e in
    (ap (λ q. Some q.hash) is, ap (λ q. Some q.range) is)
both_parts None t ask e = cc
both_parts (Some v) None ask e = cc

pair_keys : (hash : Key) (range : Option Key) (x y : Cond) (ask : KeyAsk)
    → f.both_asked hash range x y ≡ Some (answer_asks ask) → IsKey (tree_of ask.hash) × AsksKeys ask.range
pair_keys hash (Some range) x y ask e =
    let parts = both_parts (f.hash_value hash x) (f.range_test range y) (answer_asks ask) e in
    (hash_key hash (out-Cond x) ask.hash parts.0, range_keys range (out-Cond y) ask.range parts.1)
pair_keys hash None x y ask e = cc

joined_keys : (hash : Key) (range : Option Key) (xs : List Cond) (ask : KeyAsk)
    → f.joined_ask hash range xs ≡ Some (answer_asks ask) → IsKey (tree_of ask.hash) × AsksKeys ask.range
joined_keys hash range (x ∷ y ∷ []) ask e = at (f.both_asked hash range x y) refl e
  where
    at : (q : Option Ask) → f.both_asked hash range x y ≡ q
        → f.or_else q (f.both_asked hash range y x) ≡ Some (answer_asks ask)
        → IsKey (tree_of ask.hash) × AsksKeys ask.range
    at (Some q) is e = pair_keys hash range x y ask (is ∙ e)
    at None is e = pair_keys hash range y x ask e
joined_keys hash range [] ask e = cc
joined_keys hash range (x ∷ []) ask e = cc
joined_keys hash range (x ∷ y ∷ z ∷ zs) ask e = cc

nothing_keys : (ask : RangeAsk) → f.anything ≡ test_of ask → AsksKeys ask
nothing_keys r.All e = tt
nothing_keys (r.Eq w) e = cc
nothing_keys (r.Lt w) e = cc
nothing_keys (r.Le w) e = cc
nothing_keys (r.Gt w) e = cc
nothing_keys (r.Ge w) e = cc
nothing_keys (r.Between low high) e = cc
nothing_keys (r.Begins w) e = cc

top_keys : (hash : Key) (range : Option Key) (top : Cond-F Cond) (ask : KeyAsk)
    → f.ask_at hash range top ≡ Some (answer_asks ask) → IsKey (tree_of ask.hash) × AsksKeys ask.range
top_keys hash range (Cond-F.All xs) ask e = joined_keys hash range xs ask e
top_keys hash range (Cond-F.Compare by x y) ask e =
    let parts = both_parts (f.hash_at hash (Cond-F.Compare by x y)) (Some f.anything)
    (answer_asks ask) e in (
      hash_key hash (Cond-F.Compare by x y) ask.hash parts.0,
      nothing_keys ask.range
          (same_Some _ _ parts.1),
    )
top_keys hash range _ ask e = cc

-- the values of an ask are keys
pub asks_keys : (hash : Key) (range : Option Key) (x : Cond) (ask : KeyAsk)
    → ask_of hash range x ≡ Some (answer_asks ask) → IsKey (tree_of ask.hash) × AsksKeys ask.range
unfolding ask_of
asks_keys hash range x ask e = top_keys hash range (out-Cond x) ask e
