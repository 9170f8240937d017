-- Values by their kind, and their key parts.
use Rattle.std.proofs.Common.{◌≡◌, refl, sym, ap, ◌∙◌, ℕ, List, [], ◌∷◌, ◌++◌, append_assoc, length, Some}
use Rattle.std.specs.Prelude.{ℤ}
use Rattle.std.specs.List.{AllByRecursion, flat_map}
use Rattle.std.specs.Ordering.{int_cmp, ordering_then}
use Rattle.std.specs.declared.cmp.Ordering.{Ordering}
use Rattle.std.specs.declared.cmp.Ordering.TheVariants.{Equal}
use Rattle.std.proofs.lemmas.List.{append_cancel_left}
use Rattle.alt_decimal.specs.Number.{FitsDecimal}
use Rattle.alt_decimal.proofs.Normals.{spelled_apart}
use Rattle.alt_value.specs.declared.kind.KeyKind.{KeyKind}
use Rattle.alt_value.specs.declared.kind.KeyKind.TheVariants.{S, N, B}
use Rattle.alt_value.specs.Members.{text_order}
use Rattle.alt_value.specs.Order.{tree_order}
use Rattle.alt_value.specs.Tree.{Tree, S_tree, N_tree, B_tree}
use Rattle.alt_keyorder.specs.KeyBytes.{closed, key_bytes, IsKeyOf, IsPart, IsPartOrder}
use Rattle.alt_keyorder.specs.Kinds.{IsOfKind, AreOfKinds}
use Rattle.alt_keyorder.specs.Laws.{OnePart, PartsLie}
use Rattle.alt_keyorder.specs.Place.{then_order, parts_order, IsKeyValue}
use Rattle.alt_keyorder.proofs.Parts.{closed-apart, closed-order}
use Rattle.alt_keyorder.proofs.Places.{number_parts}

-- a value of a kind is a text, a number that fits or a binary
text_of : (t : Tree) → IsOfKind S t → (s : List ℕ) × (t ≡ S_tree s)
text_of (S_tree s) h = (s, refl)
text_of t h = absurd h

number_of : (t : Tree) → IsOfKind N t → (z : ℤ) × (t ≡ N_tree z) × FitsDecimal z
number_of (N_tree z) h = (z, refl, h)
number_of t h = absurd h

binary_of : (t : Tree) → IsOfKind B t → (s : List ℕ) × (t ≡ B_tree s)
binary_of (B_tree s) h = (s, refl)
binary_of t h = absurd h

-- so it is one that a key can have
key_value : (kind : KeyKind) (t : Tree) → IsOfKind kind t → IsKeyValue t
key_value S t h = let v = text_of t h in rw v.1 tt
key_value N t h = let v = number_of t h in rw v.1 v.2
key_value B t h = let v = binary_of t h in rw v.1 tt

-- and so are all the parts of a place
pub key_values_of : (kinds : List KeyKind) (ts : List Tree) → AreOfKinds kinds ts
    → AllByRecursion IsKeyValue ts
key_values_of [] [] h = tt
key_values_of [] (t ∷ ts) h = absurd h
key_values_of (k ∷ ks) [] h = absurd h
key_values_of (k ∷ ks) (t ∷ ts) h = (key_value k t h.0, key_values_of ks ts h.1)

-- closed bytes are those of one list
closed_whole : (s t x y : List ℕ) → closed s ++ x ≡ closed t ++ y → (s ≡ t) × (x ≡ y)
closed_whole s t x y e =
    let same = closed-apart s t x y e in
    (same, append_cancel_left (closed s) x y (e ∙ ap (λ r. closed r ++ y) (sym same)))

-- key bytes of values that are told otherwise
told_as : (t u v w : Tree) (x y : List ℕ) → t ≡ v → u ≡ w → key_bytes t ++ x ≡ key_bytes u ++ y
    → key_bytes v ++ x ≡ key_bytes w ++ y
told_as t u v w x y a b e = ap (λ r. key_bytes r ++ x) (sym a) ∙ e ∙ ap (λ r. key_bytes r ++ y) b

-- whatever follows it, a key part is that of one value of its kind
pub one_part : OnePart
one_part S t u x y h k e =
    let a = text_of t h in
    let b = text_of u k in
    let same = closed_whole a.0 b.0 x y (told_as t u (S_tree a.0) (S_tree b.0) x y a.1 b.1 e) in
    (a.1 ∙ ap S_tree same.0 ∙ sym b.1, same.1)
one_part N t u x y h k e =
    let a = number_of t h in
    let b = number_of u k in
    let same = spelled_apart a.0 b.0 x y a.2 b.2
    (told_as t u (N_tree a.0) (N_tree b.0) x y a.1 b.1 e) in
    (a.1 ∙ ap N_tree same.0 ∙ sym b.1, same.1)
one_part B t u x y h k e =
    let a = binary_of t h in
    let b = binary_of u k in
    let same = closed_whole a.0 b.0 x y (told_as t u (B_tree a.0) (B_tree b.0) x y a.1 b.1 e) in
    (a.1 ∙ ap B_tree same.0 ∙ sym b.1, same.1)

-- the order of values that are told otherwise
lie_as : (t u v w : Tree) (o : Ordering) → t ≡ v → u ≡ w → tree_order v w ≡ Some o
    → IsPartOrder v w o
    → (o : Ordering) × (tree_order t u ≡ Some o) × IsPartOrder t u o
lie_as t u v w o a b e p = (
  o,
  (λ i. tree_order (a i) (b i)) ∙ e,
  (λ x y. (λ i. text_order (key_bytes (a i) ++ x) (key_bytes (b i) ++ y)) ∙ p x y),
)

-- values of one kind have an order, which is that of their parts
pub parts_lie : PartsLie
parts_lie S t u h k =
    let a = text_of t h in
    let b = text_of u k in
    lie_as t u (S_tree a.0) (S_tree b.0) (text_order a.0 b.0) a.1 b.1 refl
    (λ x y. closed-order a.0 b.0 x y)
parts_lie N t u h k =
    let a = number_of t h in
    let b = number_of u k in
    lie_as t u (N_tree a.0) (N_tree b.0) (int_cmp a.0 b.0) a.1 b.1 refl
    (number_parts a.0 b.0 a.2 b.2)
parts_lie B t u h k =
    let a = binary_of t h in
    let b = binary_of u k in
    lie_as t u (B_tree a.0) (B_tree b.0) (text_order a.0 b.0) a.1 b.1 refl
    (λ x y. closed-order a.0 b.0 x y)

-- parts of the same kinds have an order
pub parts_have_order : (kinds : List KeyKind) (ts us : List Tree) → AreOfKinds kinds ts
    → AreOfKinds kinds us
    → (o : Ordering) × (parts_order ts us ≡ Some o)
parts_have_order [] [] [] h k = (Equal, refl)
parts_have_order [] [] (u ∷ us) h k = absurd k
parts_have_order [] (t ∷ ts) us h k = absurd h
parts_have_order (c ∷ cs) [] us h k = absurd h
parts_have_order (c ∷ cs) (t ∷ ts) [] h k = absurd k
parts_have_order (c ∷ cs) (t ∷ ts) (u ∷ us) h k =
    let first = parts_lie c t u h.0 k.0 in
    let others = parts_have_order cs ts us h.1 k.1 in
    (ordering_then first.0 others.0, (λ i. then_order (first.1 i) (others.1 i)))

-- whatever follows them, parts are those of one list of values of the kinds
pub one_parts : (kinds : List KeyKind) (ts us : List Tree) (x y : List ℕ) → AreOfKinds kinds ts
    → AreOfKinds kinds us
    → flat_map key_bytes ts ++ x ≡ flat_map key_bytes us ++ y → (ts ≡ us) × (x ≡ y)
one_parts [] [] [] x y h k e = (refl, e)
one_parts [] [] (u ∷ us) x y h k e = absurd k
one_parts [] (t ∷ ts) us x y h k e = absurd h
one_parts (c ∷ cs) [] us x y h k e = absurd h
one_parts (c ∷ cs) (t ∷ ts) [] x y h k e = absurd k
one_parts (c ∷ cs) (t ∷ ts) (u ∷ us) x y h k e =
    let first = one_part c t u (flat_map key_bytes ts ++ x) (flat_map key_bytes us ++ y) h.0 k.0
    (sym (append_assoc (key_bytes t) (flat_map key_bytes ts) x) ∙ e
    ∙ append_assoc (key_bytes u) (flat_map key_bytes us) y) in
    let others = one_parts cs ts us x y h.1 k.1 first.1 in
    ((λ i. first.0 i ∷ others.0 i), others.1)

-- ---- what was taken

-- a key attribute's value of a kind is of that kind
key_of_kind : (kind : KeyKind) (t : Tree) → IsKeyOf kind t → IsOfKind kind t
key_of_kind S (S_tree s) h = tt
key_of_kind N (N_tree z) h = h
key_of_kind B (B_tree b) h = tt
key_of_kind kind t h = absurd h

-- the value that was taken is the one whose part stands there
pub taken_is : (kind : KeyKind) (bytes : List ℕ) (u : Tree) (len : ℕ) (t : Tree) (behind : List ℕ)
    → IsPart kind bytes u len
    → IsKeyOf kind t → bytes ≡ key_bytes t ++ behind → (u ≡ t) × (len ≡ length (key_bytes t))
taken_is kind bytes u len t behind part key e =
    let same = one_part kind u t part.behind behind (key_of_kind kind u part.key)
    (key_of_kind kind t key) (sym part.is ∙ e) in
    (same.0, part.count ∙ ap (λ v. length (key_bytes v)) same.0)
