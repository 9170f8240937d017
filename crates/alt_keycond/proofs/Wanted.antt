-- What goes on behind a HASH value meets what is asked exactly where the RANGE value does.
use Rattle.std.proofs.Common.{◌≡◌, refl, sym, ap, ◌∙◌, ℕ, zero, suc, true, ◌⊎◌, inl, inr, List, [], ◌∷◌, ◌++◌, Some, arith}
use Rattle.std.specs.Prelude.{◌↔◌, nat_eq}
use Rattle.std.specs.List.{starts_with}
use Rattle.std.specs.declared.cmp.Ordering.{Ordering}
use Rattle.std.specs.declared.cmp.Ordering.TheVariants.{Less, Equal, Greater}
use Rattle.std.specs.Ordering.{is_lt, is_le, is_gt, is_ge, is_some_and, ordering_reverse, ordering_then}
use Rattle.std.specs.Cmp.Lexicographic.{nat_list_cmp_total}
use Rattle.std.specs.FinMap.{nat_cmp-IsAntisymmetric, int_cmp-IsAntisymmetric, slice_cmp-IsAntisymmetric}
use Rattle.std.proofs.lemmas.Bool.{eqb-true, eq-eqb, and_parts, and_from}
use Rattle.std.proofs.lemmas.List.{append-nil}
use Rattle.std.proofs.lemmas.Option.{same_Some}
use Rattle.alt_base.specs.Prefix.{IsPrefix}
use Rattle.alt_base.proofs.Orderings.{then-equal}
use Rattle.alt_value.specs.declared.kind.KeyKind.{KeyKind}
use Rattle.alt_value.specs.declared.kind.KeyKind.TheVariants as kind
use Rattle.alt_value.specs.Members.{text_order}
use Rattle.alt_value.specs.Order.{tree_order}
use Rattle.alt_value.specs.Tree.{Tree, S_tree, N_tree, B_tree}
use Rattle.alt_expr.specs.declared.cond.Comparison.TheVariants as c
use Rattle.alt_expr.specs.Holds.{compares, begins}
use Rattle.alt_expr.proofs.SameValues.{same_decides}
use Rattle.alt_keyorder.specs.KeyBytes.{closed, escaped, key_bytes, IsPartOrder}
use Rattle.alt_keyorder.specs.Kinds.{IsOfKind}
use Rattle.alt_keyorder.specs.Range.{IsBelow, IsUpTo}
use Rattle.alt_keyorder.proofs.KindLaws.{parts_lie}
use Rattle.alt_keyorder.proofs.Parts.{text_order-refl}
use Rattle.alt_keycond.specs.KeysAsked.{HasFront, front_bytes, IsUpToPart}

none_below : (s : List ℕ) → text_order s [] ≡ Less → ⊥
none_below [] h = cc
none_below (x ∷ s) h = cc

-- ---- orders, by the order of values and of what follows

less_first : (o p : Ordering) → (p ≡ Less → ⊥) → ordering_then o p ≡ Less → is_lt o ≡ true
less_first Less p none h = refl
less_first Equal p none h = absurd (none h)
less_first Greater p none h = cc

less_so : (o p : Ordering) → is_lt o ≡ true → ordering_then o p ≡ Less
less_so Less p h = refl
less_so Equal p h = cc
less_so Greater p h = cc

not_less : (o p : Ordering) → (ordering_reverse (ordering_then o p) ≡ Greater → ⊥) → is_ge o ≡ true
not_less Less p h = absurd (h refl)
not_less Equal p h = refl
not_less Greater p h = refl

not_less_so : (o p : Ordering) → (p ≡ Less → ⊥) → is_ge o ≡ true
    → ordering_reverse (ordering_then o p) ≡ Greater → ⊥
not_less_so Less p none h e = cc
not_less_so Equal Less none h e = none refl
not_less_so Equal Equal none h e = cc
not_less_so Equal Greater none h e = cc
not_less_so Greater p none h e = cc

lt_le : (o : Ordering) → is_lt o ≡ true → is_le o ≡ true
lt_le Less h = refl
lt_le Equal h = cc
lt_le Greater h = cc

le_cases : (o : Ordering) → is_le o ≡ true → (is_lt o ≡ true) ⊎ (o ≡ Equal)
le_cases Less h = inl refl
le_cases Equal h = inr refl
le_cases Greater h = cc

gt_cases : (o : Ordering) → is_ge o ≡ true → (o ≡ Equal → ⊥) → is_gt o ≡ true
gt_cases Less h never = cc
gt_cases Equal h never = absurd (never refl)
gt_cases Greater h never = refl

gt_ge : (o : Ordering) → is_gt o ≡ true → (is_ge o ≡ true) × (o ≡ Equal → ⊥)
gt_ge Less h = cc
gt_ge Equal h = cc
gt_ge Greater h = (refl, λ e. cc)

-- values of one kind that tie are one value
tied : (k : KeyKind) (t v : Tree) → IsOfKind k t → IsOfKind k v
    → tree_order t v ≡ Some Equal → t ≡ v
tied kind.S (S_tree s) (S_tree t) h g e =
    ap S_tree (slice_cmp-IsAntisymmetric nat_cmp-IsAntisymmetric s t (same_Some _ _ e))
tied kind.N (N_tree y) (N_tree z) h g e = ap N_tree (int_cmp-IsAntisymmetric y z (same_Some _ _ e))
tied kind.B (B_tree s) (B_tree t) h g e =
    ap B_tree (slice_cmp-IsAntisymmetric nat_cmp-IsAntisymmetric s t (same_Some _ _ e))
tied kind.S (S_tree s) v h g e = absurd g
tied kind.N (N_tree y) v h g e = absurd g
tied kind.B (B_tree s) v h g e = absurd g
tied kind.S t v h g e = absurd h
tied kind.N t v h g e = absurd h
tied kind.B t v h g e = absurd h

module _ (k : KeyKind) (t v : Tree) (kt : IsOfKind k t) (kv : IsOfKind k v) (rest : List ℕ) where
  abbrev whole : List ℕ
  whole = key_bytes t ++ rest

  -- the order of the two values
  o : Ordering
  o = (parts_lie k t v kt kv).0

  is : tree_order t v ≡ Some o
  unfolding o
  is = (parts_lie k t v kt kv).1

  lies : IsPartOrder t v o
  unfolding o
  lies = (parts_lie k t v kt kv).2

  order_is : text_order whole (key_bytes v) ≡ ordering_then o (text_order rest [])
  order_is = ap (text_order whole) (sym (append-nil (key_bytes v))) ∙ lies rest []

  order_back : text_order (key_bytes v) whole
      ≡ ordering_reverse (ordering_then o (text_order rest []))
  order_back = nat_list_cmp_total.antisymm (key_bytes v) whole ∙ ap ordering_reverse order_is

  below_is : IsBelow whole (key_bytes v) ↔ (is_lt o ≡ true)
  below_is = ((λ h. less_first o (text_order rest []) (none_below rest) (sym order_is ∙ h)), λ h. order_is ∙ less_so o (text_order rest []) h)

  up_is : IsUpTo (key_bytes v) whole ↔ (is_ge o ≡ true)
  up_is = (
    (λ h. not_less o (text_order rest []) (λ e. h (order_back ∙ e))),
    (λ h e. not_less_so o (text_order rest []) (none_below rest) h (sym order_back ∙ e)),
  )

  prefix_tied : IsPrefix (key_bytes v) whole → o ≡ Equal
  prefix_tied p = then-equal o (text_order rest p.0)
      (sym (lies rest p.0) ∙ ap (text_order whole) (sym p.1) ∙ text_order-refl whole)

  tied_prefix : o ≡ Equal → IsPrefix (key_bytes v) whole
  tied_prefix e = (rest, ap (λ u. key_bytes u ++ rest) (tied k t v kt kv (is ∙ ap Some e)))

  up_to_is : IsUpToPart whole (key_bytes v) ↔ (is_le o ≡ true)
  up_to_is = (
    (λ h. elim h [ inl low ↦ lt_le o (below_is.0 low) | inr p ↦ ap is_le (prefix_tied p) ]),
    (λ h. elim (le_cases o h) [ inl low ↦ inl (below_is.1 low) | inr e ↦ inr (tied_prefix e) ]),
  )

  -- each comparison says so
  pub meets_eq : IsPrefix (key_bytes v) whole ↔ (compares c.Equal (Some t) (Some v) ≡ true)
  meets_eq = (
    (λ p. (same_decides t v).1 (tied k t v kt kv (is ∙ ap Some (prefix_tied p)))),
    (λ h. (rest, ap (λ u. key_bytes u ++ rest) ((same_decides t v).0 h))),
  )

  -- what goes on is below the whole key of a value exactly where the RANGE value is less
  pub meets_lt : IsBelow whole (key_bytes v) ↔ (compares c.Less (Some t) (Some v) ≡ true)
  meets_lt = ((λ h. ap (is_some_and is_lt) is ∙ below_is.0 h), λ h. below_is.1 (ap (is_some_and is_lt) (sym is) ∙ h))

  -- what goes on is up to the part of a value exactly where the RANGE value is less or equal
  pub meets_le : IsUpToPart whole (key_bytes v) ↔ (compares c.LessEqual (Some t) (Some v) ≡ true)
  meets_le = ((λ h. ap (is_some_and is_le) is ∙ up_to_is.0 h), λ h. up_to_is.1 (ap (is_some_and is_le) (sym is) ∙ h))

  -- the key of a value is up to what goes on exactly where the RANGE value is greater or equal
  pub meets_ge : IsUpTo (key_bytes v) whole ↔ (compares c.GreaterEqual (Some t) (Some v) ≡ true)
  meets_ge = ((λ h. ap (is_some_and is_ge) is ∙ up_is.0 h), λ h. up_is.1 (ap (is_some_and is_ge) (sym is) ∙ h))

  -- what goes on is above the key of a value and doesn't begin with it exactly where the RANGE value is greater
  pub meets_gt : (IsUpTo (key_bytes v) whole × (IsPrefix (key_bytes v) whole → ⊥))
      ↔ (compares c.Greater (Some t) (Some v) ≡ true)
  meets_gt = (
    (λ h. ap (is_some_and is_gt) is ∙ gt_cases o (up_is.0 h.0) (λ e. h.1 (tied_prefix e))),
    (λ h. let g = gt_ge o (ap (is_some_and is_gt) (sym is) ∙ h) in
        (up_is.1 g.0, λ p. g.1 (prefix_tied p))),
  )

-- ---- fronts

head_same : (x y : ℕ) (s t : List ℕ) → x ∷ s ≡ y ∷ t → (x ≡ y) × (s ≡ t)
head_same x y s t e =
    let a : x ≡ y = cc in
    let b : s ≡ t = cc in
    (a, b)

tail_same : (x y a b : ℕ) (s t : List ℕ) → x ∷ a ∷ s ≡ y ∷ b ∷ t → (a ≡ b) × (s ≡ t)
tail_same x y a b s t e = head_same a b s t (head_same x y (a ∷ s) (b ∷ t) e).1

apart_bytes : (n : ℕ) → n ≡ 255 → n ≡ 0 → ⊥
apart_bytes n high low = omega (arith, high, low)

no_zero : (n : ℕ) → suc n ≡ 0 → ⊥
no_zero n e = omega (arith, e)

-- a value begins with a front where its part begins with the front's bytes
fronts : (f s rest : List ℕ) → IsPrefix (escaped f) (closed s ++ rest)
    ↔ (starts_with nat_eq s f ≡ true)
fronts [] s rest = ((λ h. refl), λ h. (closed s ++ rest, refl))
fronts (zero ∷ f) [] rest = (
  (λ h. let e = tail_same 0 0 0 255 rest (escaped f ++ h.0) h.1 in absurd (apart_bytes 0 e.0 refl)),
  λ h. cc,
)
fronts (zero ∷ f) (zero ∷ s) rest =
    let r = fronts f s rest in (
      (λ h. r.0 (h.0, (tail_same 0 0 255 255 (closed s ++ rest) (escaped f ++ h.0) h.1).1)),
      λ g. let p = r.1 g in (p.0, ap (λ (u : List ℕ). 0 ∷ 255 ∷ u) p.1),
    )
fronts (zero ∷ f) (suc b ∷ s) rest = (
  (λ h. absurd
      (no_zero b (head_same (suc b) 0 (closed s ++ rest) (255 ∷ (escaped f ++ h.0)) h.1).0)),
  λ h. absurd (no_zero b
      (sym (eqb-true 0 (suc b) (and_parts (nat_eq 0 (suc b)) (starts_with nat_eq s f) h).0))),
)
fronts (suc a ∷ f) [] rest = (
  (λ h. absurd (no_zero a (sym (head_same 0 (suc a) (0 ∷ rest) (escaped f ++ h.0) h.1).0))),
  λ h. cc,
)
fronts (suc a ∷ f) (zero ∷ s) rest = (
  (λ h. absurd
      (no_zero a (sym (head_same 0 (suc a) (255 ∷ (closed s ++ rest)) (escaped f ++ h.0) h.1).0))),
  λ h. absurd (no_zero a
      (eqb-true (suc a) 0 (and_parts (nat_eq (suc a) 0) (starts_with nat_eq s f) h).0)),
)
fronts (suc a ∷ f) (suc b ∷ s) rest =
    let r = fronts f s rest in (
      (λ h.
          let e = head_same (suc b) (suc a) (closed s ++ rest) (escaped f ++ h.0) h.1 in
          and_from (nat_eq (suc a) (suc b)) (starts_with nat_eq s f)
          (eq-eqb (suc a) (suc b) (sym e.0)) (r.0 (h.0, e.1))),
      λ g.
          let w = and_parts (nat_eq (suc a) (suc b)) (starts_with nat_eq s f) g in
          let p = r.1 w.1 in
          (p.0, ap (λ (x : ℕ). x ∷ (closed s ++ rest)) (sym (eqb-true (suc a) (suc b) w.0)) ∙ ap (λ (u : List ℕ). suc a ∷ u) p.1),
    )

-- a part begins with the front of a value's bytes exactly where its value begins with the value
pub meets_front : (k : KeyKind) (t v : Tree) (rest : List ℕ) → IsOfKind k t
    → IsOfKind k v → HasFront v
    → IsPrefix (front_bytes v) (key_bytes t ++ rest) ↔ (begins (Some t) (Some v) ≡ true)
meets_front kind.S (S_tree s) (S_tree f) rest h g front = fronts f s rest
meets_front kind.B (B_tree s) (B_tree f) rest h g front = fronts f s rest
meets_front kind.S (S_tree s) v rest h g front = absurd g
meets_front kind.B (B_tree s) v rest h g front = absurd g
meets_front kind.N t (N_tree z) rest h g front = absurd front
meets_front kind.N t v rest h g front = absurd g
meets_front kind.S t v rest h g front = absurd h
meets_front kind.B t v rest h g front = absurd h
