-- The values that a key condition asks for have the kinds of the key attributes.
use Rattle.std.proofs.Common.{◌≡◌, refl, sym, ap, subst, ◌∙◌, Bool, true, false, List, [], ◌∷◌, Option, Some, None, option_map}
use Rattle.std.proofs.lemmas.Option.{same_Some}
use Rattle.std.specs.Prelude.{if◌then◌else◌}
use Rattle.alt_base.proofs.Options.{some_of_if}
use Rattle.alt_value.specs.declared.attr.Attr.{Attr}
use Rattle.alt_value.specs.declared.attr.Attr.TheVariants as a
use Rattle.alt_value.specs.declared.kind.KeyKind.{KeyKind}
use Rattle.alt_value.specs.declared.kind.KeyKind.TheVariants as kind
use Rattle.alt_value.specs.Stands.{tree_of}
use Rattle.alt_value.specs.Values.{IsValue}
use Rattle.alt_expr.specs.declared.cond.Comparison.{Comparison}
use Rattle.alt_expr.specs.declared.cond.Comparison.TheVariants as c
use Rattle.alt_expr.specs.declared.cond.Operand.{Operand}
use Rattle.alt_expr.specs.declared.cond.Operand.TheVariants as o
use Rattle.alt_expr.specs.declared.cond.Cond.{Cond, out-Cond}
use Rattle.alt_expr.specs.declared.cond.Cond.TheOpen.{Cond-F}
use Rattle.alt_expr.specs.KeyForm as f
use Rattle.alt_expr.specs.KeyForm.{Key, Ask, ask_of}
use Rattle.alt_keycond.specs.Asked.{test_of, answer_asks}
use Rattle.alt_keycond.specs.KeysAsked.{AsksOfKind}
use Rattle.alt_keycond.specs.declared.ask.KeyAsk.{KeyAsk}
use Rattle.alt_keycond.specs.declared.ask.RangeAsk.{RangeAsk}
use Rattle.alt_keycond.specs.declared.ask.RangeAsk.TheVariants as r
use Rattle.alt_keycond.proofs.KeysAskedLaws.{both_parts, equal_is, valued}
use Rattle.alt_keyorder.specs.Kinds.{IsOfKind}
use Rattle.alt_ops_query.specs.private.Asked.{AreHeld}

-- ---- kinds

-- a value has a kind
abbrev Has : KeyKind → Attr → Type 0
Has k v = f.has_kind k v ≡ true

-- so a value of the program is one of that kind that a key can have
of_kind : (k : KeyKind) (v : Attr) → Has k v → IsValue (tree_of v) → IsOfKind k (tree_of v)
of_kind kind.S (a.S s) e held = tt
of_kind kind.N (a.N z) e held = held
of_kind kind.B (a.B b) e held = tt
of_kind kind.S _ e held = absurd (let no : ⊥ = cc in no)
of_kind kind.N _ e held = absurd (let no : ⊥ = cc in no)
of_kind kind.B _ e held = absurd (let no : ⊥ = cc in no)

-- the values that are asked of a RANGE attribute have its kind
AreOf : Option KeyKind → RangeAsk → Type 0
AreOf k r.All = Unit {0}
AreOf (Some k) (r.Eq v) = Has k v
AreOf (Some k) (r.Lt v) = Has k v
AreOf (Some k) (r.Le v) = Has k v
AreOf (Some k) (r.Gt v) = Has k v
AreOf (Some k) (r.Ge v) = Has k v
AreOf (Some k) (r.Between low high) = Has k low × Has k high
AreOf (Some k) (r.Begins v) = Has k v
AreOf None _ = ⊥

-- so as values of the machine they are of that kind
asks_of : (k : Option KeyKind) (ask : RangeAsk) → AreOf k ask → AreHeld ask → AsksOfKind k ask
unfolding AreOf
asks_of k r.All h held = tt
asks_of (Some k) (r.Eq v) h held = of_kind k v h held
asks_of (Some k) (r.Lt v) h held = of_kind k v h held
asks_of (Some k) (r.Le v) h held = of_kind k v h held
asks_of (Some k) (r.Gt v) h held = of_kind k v h held
asks_of (Some k) (r.Ge v) h held = of_kind k v h held
asks_of (Some k) (r.Between low high) h held = (of_kind k low h.0 held.0, of_kind k high h.1 held.1)
asks_of (Some k) (r.Begins v) h held = of_kind k v h held
asks_of None (r.Eq v) h held = absurd h
asks_of None (r.Lt v) h held = absurd h
asks_of None (r.Le v) h held = absurd h
asks_of None (r.Gt v) h held = absurd h
asks_of None (r.Ge v) h held = absurd h
asks_of None (r.Between low high) h held = absurd h
asks_of None (r.Begins v) h held = absurd h

-- ---- operands

-- a value that is found for a key is of its kind
found_kind : (key : Key) (x : Operand) (v : Attr) → f.value_for key x ≡ Some v → Has key.kind v
found_kind key (o.At path) v e = absurd (let no : ⊥ = cc in no)
found_kind key (o.Size path) v e = absurd (let no : ⊥ = cc in no)
found_kind key (o.Value w) v e = by (f.has_kind key.kind w) refl e
  where
    by : (b : Bool) → f.has_kind key.kind w ≡ b → (if b then Some w else None) ≡ Some v
        → Has key.kind v
    by true is e = ap (f.has_kind key.kind) (sym (same_Some w v e)) ∙ is
    by false is e = absurd (let no : ⊥ = cc in no)

-- the value that a key is compared with, on either side, is of the key's kind
tested_kind : (key : Key) (by : Comparison) (x y : Operand) (c : Comparison) (v : Attr)
    → f.key_test key by x y ≡ Some (c, v) → Has key.kind v
tested_kind key by x y c v e = at (f.is_key_operand key x) e
  where
    behind : (b : Bool) → (if b then f.comparison_with_value (f.mirrored by) (f.value_for key x) else None)
        ≡ Some (c, v) → Has key.kind v
    behind true e = found_kind key x v (valued (f.mirrored by) (f.value_for key x) c v e)
    behind false e = absurd (let no : ⊥ = cc in no)

    at : (b : Bool) → (if b then f.comparison_with_value by (f.value_for key y) else (if f.is_key_operand key y
        then f.comparison_with_value (f.mirrored by) (f.value_for key x) else None)) ≡ Some (c, v)
        → Has key.kind v
    at true e = found_kind key y v (valued by (f.value_for key y) c v e)
    at false e = behind (f.is_key_operand key y) e

-- the value that the HASH attribute is to equal is of its kind
hash_kind : (key : Key) (top : Cond-F Cond) (v : Attr) → f.hash_at key top ≡ Some v → Has key.kind v
hash_kind key (Cond-F.Compare by x y) v e =
    tested_kind key by x y c.Equal v (equal_is (f.key_test key by x y) v e)
hash_kind key _ v e = absurd (let no : ⊥ = cc in no)

-- ---- the RANGE attribute

-- a comparison with a value of the kind asks for values of that kind
compared_kind : (k : KeyKind) (by : Comparison) (v : Attr) (ask : RangeAsk) → Has k v
    → f.compared by v ≡ test_of ask → AreOf (Some k) ask
unfolding AreOf
compared_kind k by v r.All h e = tt
compared_kind k by v (r.Eq w) h e = let is : v ≡ w = cc in subst (Has k) is h
compared_kind k by v (r.Lt w) h e = let is : v ≡ w = cc in subst (Has k) is h
compared_kind k by v (r.Le w) h e = let is : v ≡ w = cc in subst (Has k) is h
compared_kind k by v (r.Gt w) h e = let is : v ≡ w = cc in subst (Has k) is h
compared_kind k by v (r.Ge w) h e = let is : v ≡ w = cc in subst (Has k) is h
compared_kind k by v (r.Between low high) h e = absurd (let no : ⊥ = cc in no)
compared_kind k by v (r.Begins w) h e = absurd (let no : ⊥ = cc in no)

-- so do two bounds of the kind
between_kind : (k : KeyKind) (l h : Attr) (ask : RangeAsk) → Has k l → Has k h
    → f.between l h ≡ test_of ask → AreOf (Some k) ask
unfolding AreOf
between_kind k l h (r.Between low high) p q e =
    let a : l ≡ low = cc in
    let b : h ≡ high = cc in
    (subst (Has k) a p, subst (Has k) b q)
between_kind k l h r.All p q e = tt
between_kind k l h (r.Eq w) p q e = absurd (let no : ⊥ = cc in no)
between_kind k l h (r.Lt w) p q e = absurd (let no : ⊥ = cc in no)
between_kind k l h (r.Le w) p q e = absurd (let no : ⊥ = cc in no)
between_kind k l h (r.Gt w) p q e = absurd (let no : ⊥ = cc in no)
between_kind k l h (r.Ge w) p q e = absurd (let no : ⊥ = cc in no)
between_kind k l h (r.Begins w) p q e = absurd (let no : ⊥ = cc in no)

-- and so does a front
fronted_kind : (k : KeyKind) (v : Attr) (ask : RangeAsk) → Has k v → f.fronted v ≡ test_of ask
    → AreOf (Some k) ask
unfolding AreOf
fronted_kind k v (r.Begins w) h e = let is : v ≡ w = cc in subst (Has k) is h
fronted_kind k v r.All h e = tt
fronted_kind k v (r.Eq w) h e = absurd (let no : ⊥ = cc in no)
fronted_kind k v (r.Lt w) h e = absurd (let no : ⊥ = cc in no)
fronted_kind k v (r.Le w) h e = absurd (let no : ⊥ = cc in no)
fronted_kind k v (r.Gt w) h e = absurd (let no : ⊥ = cc in no)
fronted_kind k v (r.Ge w) h e = absurd (let no : ⊥ = cc in no)
fronted_kind k v (r.Between low high) h e = absurd (let no : ⊥ = cc in no)

-- what a comparison with the RANGE attribute asks for is of the attribute's kind
comparison_kind : (key : Key) (by : Comparison) (x y : Operand) (ask : RangeAsk)
    (q : Option (Comparison × Attr)) → f.key_test key by x y ≡ q
    → f.range_comparison q ≡ Some (test_of ask) → AreOf (Some key.kind) ask
comparison_kind key by x y ask None is e = absurd (let no : ⊥ = cc in no)
comparison_kind key by x y ask (Some (c.NotEqual, v)) is e = absurd (let no : ⊥ = cc in no)
comparison_kind key by x y ask (Some (c.Equal, v)) is e = compared_kind key.kind c.Equal v ask
    (tested_kind key by x y c.Equal v is) (same_Some _ _ e)
comparison_kind key by x y ask (Some (c.Less, v)) is e = compared_kind key.kind c.Less v ask
    (tested_kind key by x y c.Less v is) (same_Some _ _ e)
comparison_kind key by x y ask (Some (c.LessEqual, v)) is e = compared_kind key.kind c.LessEqual v
    ask (tested_kind key by x y c.LessEqual v is) (same_Some _ _ e)
comparison_kind key by x y ask (Some (c.Greater, v)) is e = compared_kind key.kind c.Greater v ask
    (tested_kind key by x y c.Greater v is) (same_Some _ _ e)
comparison_kind key by x y ask (Some (c.GreaterEqual, v)) is e = compared_kind key.kind
    c.GreaterEqual v ask (tested_kind key by x y c.GreaterEqual v is) (same_Some _ _ e)

-- so are the bounds of a BETWEEN
bound_kind : (key : Key) (low high : Operand) (ask : RangeAsk) (l h : Option Attr)
    → f.value_for key low ≡ l → f.value_for key high ≡ h
    → f.range_between l h ≡ Some (test_of ask) → AreOf (Some key.kind) ask
bound_kind key low high ask (Some l) (Some h) is_low is_high e = between_kind key.kind l h ask
    (found_kind key low l is_low) (found_kind key high h is_high) (same_Some _ _ e)
bound_kind key low high ask None h is_low is_high e = absurd (let no : ⊥ = cc in no)
bound_kind key low high ask (Some l) None is_low is_high e = absurd (let no : ⊥ = cc in no)

-- and the front of a `begins_with`
front_kind : (key : Key) (y : Operand) (ask : RangeAsk) (k : KeyKind) (v : Option Attr)
    → key.kind ≡ k → f.value_for key y ≡ v → f.range_front k v ≡ Some (test_of ask)
    → AreOf (Some key.kind) ask
front_kind key y ask kind.N v same is e = absurd (let no : ⊥ = cc in no)
front_kind key y ask kind.S (Some v) same is e =
    fronted_kind key.kind v ask (found_kind key y v is) (same_Some _ _ e)
front_kind key y ask kind.B (Some v) same is e =
    fronted_kind key.kind v ask (found_kind key y v is) (same_Some _ _ e)
front_kind key y ask kind.S None same is e = absurd (let no : ⊥ = cc in no)
front_kind key y ask kind.B None same is e = absurd (let no : ⊥ = cc in no)

-- whatever is asked of the RANGE attribute, it is of the attribute's kind
range_kind : (key : Key) (top : Cond-F Cond) (ask : RangeAsk)
    → f.range_at key top ≡ Some (test_of ask) → AreOf (Some key.kind) ask
range_kind key (Cond-F.Compare by x y) ask e =
    comparison_kind key by x y ask (f.key_test key by x y) refl e
range_kind key (Cond-F.Between x low high) ask e =
    bound_kind key low high ask (f.value_for key low) (f.value_for key high) refl refl
    (some_of_if (f.is_key_operand key x) (f.range_between (f.value_for key low) (f.value_for key high))
    (test_of ask) e)
range_kind key (Cond-F.BeginsWith x y) ask e =
    front_kind key y ask key.kind (f.value_for key y) refl refl
    (some_of_if (f.is_key_operand key x) (f.range_front key.kind (f.value_for key y)) (test_of ask) e)
range_kind key _ ask e = absurd (let no : ⊥ = cc in no)

-- ---- the whole

-- both attributes
abbrev BothOf : Key → Option Key → KeyAsk → Type 0
BothOf hash range ask = Has hash.kind ask.hash × AreOf (option_map (λ k. k.kind) range) ask.range

-- what two conditions ask for, the first of HASH and the second of RANGE, is of the kinds of these
pair_kinds : (hash : Key) (range : Option Key) (x y : Cond) (ask : KeyAsk)
    → f.both_asked hash range x y ≡ Some (answer_asks ask) → BothOf hash range ask
pair_kinds hash (Some range) x y ask e =
    let parts = both_parts (f.hash_value hash x) (f.range_test range y) (answer_asks ask) e in (
      hash_kind hash (out-Cond x) ask.hash parts.0,
      range_kind range (out-Cond y) ask.range parts.1,
    )
pair_kinds hash None x y ask e = absurd (let no : ⊥ = cc in no)

-- so is what they ask for in either order
joined_kinds : (hash : Key) (range : Option Key) (xs : List Cond) (ask : KeyAsk)
    → f.joined_ask hash range xs ≡ Some (answer_asks ask) → BothOf hash range ask
joined_kinds hash range (x ∷ y ∷ []) ask e = at (f.both_asked hash range x y) refl e
  where
    at : (q : Option Ask) → f.both_asked hash range x y ≡ q
        → f.or_else q (f.both_asked hash range y x) ≡ Some (answer_asks ask) → BothOf hash range ask
    at (Some q) is e = pair_kinds hash range x y ask (is ∙ e)
    at None is e = pair_kinds hash range y x ask e
joined_kinds hash range [] ask e = absurd (let no : ⊥ = cc in no)
joined_kinds hash range (x ∷ []) ask e = absurd (let no : ⊥ = cc in no)
joined_kinds hash range (x ∷ y ∷ z ∷ zs) ask e = absurd (let no : ⊥ = cc in no)

-- where nothing is asked of a RANGE value, no value has to be of a kind
nothing_kind : (k : Option KeyKind) (ask : RangeAsk) → f.anything ≡ test_of ask → AreOf k ask
unfolding AreOf
nothing_kind k r.All e = tt
nothing_kind k (r.Eq w) e = absurd (let no : ⊥ = cc in no)
nothing_kind k (r.Lt w) e = absurd (let no : ⊥ = cc in no)
nothing_kind k (r.Le w) e = absurd (let no : ⊥ = cc in no)
nothing_kind k (r.Gt w) e = absurd (let no : ⊥ = cc in no)
nothing_kind k (r.Ge w) e = absurd (let no : ⊥ = cc in no)
nothing_kind k (r.Between low high) e = absurd (let no : ⊥ = cc in no)
nothing_kind k (r.Begins w) e = absurd (let no : ⊥ = cc in no)

-- so it is with both conditions, and with the one of HASH alone
top_kinds : (hash : Key) (range : Option Key) (top : Cond-F Cond) (ask : KeyAsk)
    → f.ask_at hash range top ≡ Some (answer_asks ask) → BothOf hash range ask
top_kinds hash range (Cond-F.All xs) ask e = joined_kinds hash range xs ask e
top_kinds hash range (Cond-F.Compare by x y) ask e =
    let parts = both_parts (f.hash_at hash (Cond-F.Compare by x y)) (Some f.anything) (answer_asks ask) e
    in (
      hash_kind hash (Cond-F.Compare by x y) ask.hash parts.0,
      nothing_kind _ ask.range (same_Some _ _ parts.1),
    )
top_kinds hash range _ ask e = absurd (let no : ⊥ = cc in no)

-- what is asked has the kinds of the key attributes
pub asks_kinds : (hash : Key) (range : Option Key) (x : Cond) (ask : KeyAsk)
    → ask_of hash range x ≡ Some (answer_asks ask) → IsValue (tree_of ask.hash) → AreHeld ask.range
    → IsOfKind hash.kind (tree_of ask.hash)
    × AsksOfKind (option_map (λ k. k.kind) range) ask.range
unfolding ask_of
asks_kinds hash range x ask e held range_held =
    let both = top_kinds hash range (out-Cond x) ask e in (
      of_kind hash.kind ask.hash both.0 held,
      asks_of (option_map (λ k. k.kind) range) ask.range both.1 range_held,
    )
