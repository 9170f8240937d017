-- The order of key parts is the order of values, whatever follows them.
use Rattle.std.proofs.Common.{◌≡◌, ℕ, zero, suc, List, [], ◌∷◌, ◌++◌, refl, sym, ap, ◌∙◌, inl, inr, arith, Option, IfSome}
use Rattle.std.specs.Ordering.{nat_cmp, ordering_then}
use Rattle.std.specs.declared.cmp.Ordering.{Ordering}
use Rattle.std.specs.declared.cmp.Ordering.TheVariants.{Less, Equal, Greater}
use Rattle.std.proofs.lemmas.Bool.{cases_order}
use Rattle.std.proofs.lemmas.List.{append-nil}
use Rattle.std.proofs.lemmas.Map.Lookups.{exact_bytes}
use Rattle.alt_base.proofs.Lists.{cons_rest, cons_same}
use Rattle.alt_base.proofs.Orderings.{nat_cmp-equal, nat_cmp-greater, nat_cmp-less, then-equal}
use Rattle.alt_value.specs.Members.{text_order}
use Rattle.alt_value.specs.Order.{tree_order}
use Rattle.alt_value.specs.Tree.{Tree, S_tree, B_tree}
use Rattle.alt_keyorder.specs.KeyBytes.{closed, IsPartOrder, KeyBytesAreApart}

-- one order after another
pub then-assoc : (o p q : Ordering) → ordering_then (ordering_then o p) q
    ≡ ordering_then o (ordering_then p q)
then-assoc Less p q = refl
then-assoc Equal p q = refl
then-assoc Greater p q = refl

-- bytes tie with themselves
pub text_order-refl : (s : List ℕ) → text_order s s ≡ Equal
text_order-refl [] = refl
text_order-refl (x ∷ s) = rw (nat_cmp-equal x x refl) (text_order-refl s)

-- closed bytes, and what follows them
pub closed-order : (s t x y : List ℕ) → text_order (closed s ++ x) (closed t ++ y)
    ≡ ordering_then (text_order s t) (text_order x y)
closed-order [] [] x y = refl
closed-order [] (zero ∷ t) x y = refl
closed-order [] (suc b ∷ t) x y = rw (nat_cmp-less 0 (suc b) (omega arith)) refl
closed-order (zero ∷ s) [] x y = refl
closed-order (suc a ∷ s) [] x y = rw (nat_cmp-greater (suc a) 0 (omega arith)) refl
closed-order (zero ∷ s) (zero ∷ t) x y = closed-order s t x y
closed-order (zero ∷ s) (suc b ∷ t) x y = rw (nat_cmp-less 0 (suc b) (omega arith)) refl
closed-order (suc a ∷ s) (zero ∷ t) x y = rw (nat_cmp-greater (suc a) 0 (omega arith)) refl
closed-order (suc a ∷ s) (suc b ∷ t) x y =
    ap (ordering_then (nat_cmp (suc a) (suc b))) (closed-order s t x y)
    ∙ sym (then-assoc (nat_cmp (suc a) (suc b)) (text_order s t) (text_order x y))

-- closed bytes are those of one list
pub closed-apart : (s t x y : List ℕ) → closed s ++ x ≡ closed t ++ y → s ≡ t
closed-apart s t x y e =
    exact_bytes s t (then-equal (text_order s t) (text_order x y)
    (sym (closed-order s t x y) ∙ ap (λ u. text_order u (closed t ++ y)) e
    ∙ text_order-refl (closed t ++ y)))

-- of bytes neither of which begins the other, the order is the same whatever follows
pub apart-order : (p q x y : List ℕ) → ((r s : List ℕ) → p ++ r ≡ q ++ s → p ≡ q)
    → text_order (p ++ x) (q ++ y) ≡ ordering_then (text_order p q) (text_order x y)
apart-order [] [] x y apart = refl
apart-order [] (b ∷ q) x y apart = let e : [] ≡ b ∷ q =
    apart (b ∷ q) [] (sym (append-nil (b ∷ q))) in absurd (cc)
apart-order (a ∷ p) [] x y apart = let e : a ∷ p ≡ [] = apart [] (a ∷ p) (append-nil (a ∷ p)) in
    absurd (cc)
apart-order (a ∷ p) (b ∷ q) x y apart = elim (cases_order a b) [
  | inl e ↦
      let more = apart-order p q x y (λ r s is. cons_rest a b p q
      (apart r s (cons_same a b (p ++ r) (q ++ s) e is))) in
      rw (nat_cmp-equal a b e) more
  | inr o ↦ elim o [
    | inl lt ↦ rw (nat_cmp-less a b lt) refl
    | inr gt ↦ rw (nat_cmp-greater a b gt) refl
  ]
]

-- texts and binaries
pub text_parts : (s t : List ℕ) → IsPartOrder (S_tree s) (S_tree t) (text_order s t)
text_parts s t = λ x y. closed-order s t x y

-- parts of texts and of binaries are apart
pub text_apart : (s t : List ℕ) → KeyBytesAreApart (S_tree s) (S_tree t)
text_apart s t = λ x y e. ap S_tree (closed-apart s t x y e)

-- the parts of two binaries end at one place, whatever follows them
pub binary_apart : (s t : List ℕ) → KeyBytesAreApart (B_tree s) (B_tree t)
binary_apart s t = λ x y e. ap B_tree (closed-apart s t x y e)

-- two texts or two binaries
pub text_law : (s : List ℕ) (u : Tree) → IfSome (tree_order (S_tree s) u) (IsPartOrder (S_tree s) u)
text_law s (S_tree t) = text_parts s t
text_law s u = tt

-- the part of a binary lies before or behind another's as the binary does
pub binary_law : (s : List ℕ) (u : Tree) → IfSome (tree_order (B_tree s) u)
    (IsPartOrder (B_tree s) u)
binary_law s (B_tree t) = text_parts s t
binary_law s u = tt

-- the same of two that have an order
pub text_apart_law : (s : List ℕ) (u : Tree) → IfSome (tree_order (S_tree s) u)
    (λ o. KeyBytesAreApart (S_tree s) u)
text_apart_law s (S_tree t) = text_apart s t
text_apart_law s u = tt

-- the part of a binary and of what can be compared with it end at one place
pub binary_apart_law : (s : List ℕ) (u : Tree)
    → IfSome (tree_order (B_tree s) u) (λ o. KeyBytesAreApart (B_tree s) u)
binary_apart_law s (B_tree t) = binary_apart s t
binary_apart_law s u = tt

-- the laws of values that are told otherwise
pub from_texts : (r : Option Ordering) (a b : Tree) (s : List ℕ) → r ≡ tree_order a b → a ≡ S_tree s
    → IfSome r (IsPartOrder a b)
from_texts r a b s e is = rw (e, is) (text_law s b)

-- the order of parts, where the first value is a binary
pub from_binaries : (r : Option Ordering) (a b : Tree) (s : List ℕ) → r ≡ tree_order a b
    → a ≡ B_tree s → IfSome r (IsPartOrder a b)
from_binaries r a b s e is = rw (e, is) (binary_law s b)

-- that parts end at one place, where the first value is a text
pub apart_from_texts : (r : Option Ordering) (a b : Tree) (s : List ℕ) → r ≡ tree_order a b
    → a ≡ S_tree s → IfSome r (λ o. KeyBytesAreApart a b)
apart_from_texts r a b s e is = rw (e, is) (text_apart_law s b)

-- that parts end at one place, where the first value is a binary
pub apart_from_binaries : (r : Option Ordering) (a b : Tree) (s : List ℕ) → r ≡ tree_order a b
    → a ≡ B_tree s → IfSome r (λ o. KeyBytesAreApart a b)
apart_from_binaries r a b s e is = rw (e, is) (binary_apart_law s b)
