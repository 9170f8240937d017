-- The byte order of key bytes is the order of places.
use Rattle.std.proofs.Common.{◌≡◌, refl, sym, ap, subst, ◌∙◌, ℕ, suc, ◌+◌, ◌*◌, ◌%◌, ◌^◌, ◌<◌, ◌≤◌, List, [], ◌∷◌, ◌++◌, inl, inr, arith, append_assoc, Option, Some, None, IfSome}
use Rattle.std.specs.Prelude.{ℤ}
use Rattle.std.specs.Int.{w64, to_be_bytes, byte_at, bytes_high_first}
use Rattle.std.specs.List.{AllByRecursion, flat_map}
use Rattle.std.specs.Ordering.{nat_cmp, int_cmp, ordering_then}
use Rattle.std.specs.declared.cmp.Ordering.{Ordering}
use Rattle.std.specs.declared.cmp.Ordering.TheVariants.{Less, Equal, Greater}
use Rattle.std.proofs.Math.Nat.{mul-le-mul_right}
use Rattle.std.proofs.lemmas.Bool.{cases_order}
use Rattle.std.proofs.lemmas.Map.Lookups.{exact_bytes, exact_signed}
use Rattle.alt_base.proofs.Orderings.{nat_cmp-equal, nat_cmp-greater, nat_cmp-less, then-equal, then-equal_both}
use Rattle.alt_decimal.specs.Number.{FitsDecimal}
use Rattle.alt_decimal.specs.Spelled.{spelled}
use Rattle.alt_decimal.proofs.Normals.{spelled_apart, spelled_order}
use Rattle.alt_value.specs.Members.{text_order}
use Rattle.alt_value.specs.Order.{tree_order}
use Rattle.alt_value.specs.Tree.{Tree, S_tree, N_tree, B_tree}
use Rattle.alt_keyorder.specs.KeyBytes.{key_bytes, IsPartOrder}
use Rattle.alt_keyorder.specs.Laws.{KeysLieAsPlaces, KeysTellPlaces}
use Rattle.alt_keyorder.specs.Place.{Place, then_order, parts_order, place_order, place_bytes, IsKeyValue}
use Rattle.alt_keyorder.proofs.Parts.{then-assoc, text_order-refl, apart-order, text_law, binary_law}

-- ---- numbers of 8 bytes

-- a higher digit decides first
lexical : (a b r s B : ℕ) → r < B → s < B → nat_cmp (a * B + r) (b * B + s)
    ≡ ordering_then (nat_cmp a b) (nat_cmp r s)
lexical a b r s B hr hs = elim (cases_order a b) [
  | inl e ↦ rw (e, nat_cmp-equal b b refl) (elim (cases_order r s) [
    | inl f ↦ nat_cmp-equal (b * B + r) (b * B + s) (omega (arith, f)) ∙ sym (nat_cmp-equal r s f)
    | inr o ↦ elim o [
      | inl lt ↦ nat_cmp-less (b * B + r) (b * B + s) (omega (arith, lt))
          ∙ sym (nat_cmp-less r s lt)
      | inr gt ↦ nat_cmp-greater (b * B + r) (b * B + s) (omega (arith, gt))
          ∙ sym (nat_cmp-greater r s gt)
    ]
  ])
  | inr o ↦ elim o [
    | inl lt ↦
        let le : (a + 1) * B ≤ b * B = mul-le-mul_right B (omega (arith, lt)) in
        nat_cmp-less (a * B + r) (b * B + s) (omega (arith, le, hr))
        ∙ sym (ap (λ q. ordering_then q (nat_cmp r s)) (nat_cmp-less a b lt))
    | inr gt ↦
        let le : (b + 1) * B ≤ a * B = mul-le-mul_right B (omega (arith, gt)) in
        nat_cmp-greater (a * B + r) (b * B + s) (omega (arith, le, hs))
        ∙ sym (ap (λ q. ordering_then q (nat_cmp r s)) (nat_cmp-greater a b gt))
  ]
]

-- the lowest k bytes lie as what they tell, a number modulo B
abbrev LieBelow : ℕ → ℕ → Type 0
LieBelow k B =
    (m n : ℕ) (x y : List ℕ) → text_order (bytes_high_first k m ++ x) (bytes_high_first k n ++ y)
    ≡ ordering_then (nat_cmp (m % B) (n % B)) (text_order x y)

-- one byte more
one_byte : (k B C : ℕ) → ((n : ℕ) → n % B < B) → ((n : ℕ) → byte_at k n * B + n % B ≡ n % C)
    → LieBelow k B → LieBelow (suc k) C
one_byte k B C small whole below m n x y =
    ap (ordering_then (nat_cmp (byte_at k m) (byte_at k n))) (below m n x y)
    ∙ sym (then-assoc (nat_cmp (byte_at k m) (byte_at k n)) (nat_cmp (m % B) (n % B))
    (text_order x y))
    ∙ ap (λ o. ordering_then o (text_order x y))
    (sym (lexical (byte_at k m) (byte_at k n) (m % B) (n % B) B (small m) (small n))
    ∙ (λ i. nat_cmp (whole m i) (whole n i)))

-- from no byte up to eight of them
no_byte : LieBelow 0 1
no_byte m n x y = ap (λ o. ordering_then o (text_order x y))
    (sym (nat_cmp-equal (m % 1) (n % 1) (omega arith)))

one_bytes : LieBelow 1 256
one_bytes = one_byte 0 1 256 (λ n. omega arith) (λ n. omega arith) no_byte

two_bytes : LieBelow 2 65536
two_bytes = one_byte 1 256 65536 (λ n. omega arith) (λ n. omega arith) one_bytes

three_bytes : LieBelow 3 16777216
three_bytes = one_byte 2 65536 16777216 (λ n. omega arith) (λ n. omega arith) two_bytes

four_bytes : LieBelow 4 4294967296
four_bytes = one_byte 3 16777216 4294967296 (λ n. omega arith) (λ n. omega arith) three_bytes

five_bytes : LieBelow 5 1099511627776
five_bytes = one_byte 4 4294967296 1099511627776 (λ n. omega arith) (λ n. omega arith) four_bytes

six_bytes : LieBelow 6 281474976710656
six_bytes = one_byte 5 1099511627776 281474976710656 (λ n. omega arith)
    (λ n. omega arith) five_bytes

seven_bytes : LieBelow 7 72057594037927936
seven_bytes = one_byte 6 281474976710656 72057594037927936 (λ n. omega arith)
    (λ n. omega arith) six_bytes

eight_bytes : LieBelow 8 18446744073709551616
eight_bytes = one_byte 7 72057594037927936 18446744073709551616 (λ n. omega arith)
    (λ n. omega arith) seven_bytes

-- numbers lie as their 8 bytes do
pub token-order : (m n : ℕ) (x y : List ℕ) → m < 2 ^ 64 → n < 2 ^ 64
    → text_order (to_be_bytes w64 m ++ x) (to_be_bytes w64 n ++ y)
    ≡ ordering_then (nat_cmp m n) (text_order x y)
token-order m n x y hm hn =
    let em : m % 18446744073709551616 ≡ m = omega (arith, hm) in
    let en : n % 18446744073709551616 ≡ n = omega (arith, hn) in
    eight_bytes m n x y ∙ (λ i. ordering_then (nat_cmp (em i) (en i)) (text_order x y))

-- ---- numbers that fit, spelled

-- numbers lie as their parts do
pub number_parts : (u v : ℤ) → FitsDecimal u → FitsDecimal v → IsPartOrder (N_tree u) (N_tree v) (int_cmp u v)
number_parts u v fu fv x y =
    apart-order (spelled u) (spelled v) x y (λ r s e. ap spelled (spelled_apart u v r s fu fv e).0)
    ∙ ap (λ o. ordering_then o (text_order x y)) (sym (spelled_order u v fu fv))

-- ---- parts

-- a number beside another key value, and any two key values
number_law : (z : ℤ) (u : Tree) → FitsDecimal z → IsKeyValue u
    → IfSome (tree_order (N_tree z) u) (IsPartOrder (N_tree z) u)
number_law z (N_tree v) h k = number_parts z v h k
number_law z u h k = tt

part_law : (t u : Tree) → IsKeyValue t → IsKeyValue u → IfSome (tree_order t u) (IsPartOrder t u)
part_law (S_tree s) u k l = text_law s u
part_law (N_tree z) u k l = number_law z u k l
part_law (B_tree b) u k l = binary_law b u
part_law t u k l = absurd k

-- equal options have equal values
same_some : (o p : Ordering) → Some o ≡ Some p → o ≡ p
same_some o p e = cc

-- parts that tie are one value
tied_texts : (s : List ℕ) (u : Tree) → tree_order (S_tree s) u ≡ Some Equal → S_tree s ≡ u
tied_texts s (S_tree t) e = ap S_tree (exact_bytes s t (same_some (text_order s t) Equal e))
tied_texts s u e = absurd (let f : ⊥ = cc in f)

tied_numbers : (z : ℤ) (u : Tree) → tree_order (N_tree z) u ≡ Some Equal → N_tree z ≡ u
tied_numbers z (N_tree v) e = ap N_tree (exact_signed z v (same_some (int_cmp z v) Equal e))
tied_numbers z u e = absurd (let f : ⊥ = cc in f)

tied_binaries : (s : List ℕ) (u : Tree) → tree_order (B_tree s) u ≡ Some Equal → B_tree s ≡ u
tied_binaries s (B_tree b) e = ap B_tree (exact_bytes s b (same_some (text_order s b) Equal e))
tied_binaries s u e = absurd (let f : ⊥ = cc in f)

tied : (t u : Tree) → IsKeyValue t → tree_order t u ≡ Some Equal → t ≡ u
tied (S_tree s) u k e = tied_texts s u e
tied (N_tree z) u k e = tied_numbers z u e
tied (B_tree b) u k e = tied_binaries b u e
tied t u k e = absurd k

-- ---- places

-- where there is an order of both, there is one of each
record Both (a b : Option Ordering) (o : Ordering) : Type 0 where
  first : Ordering
  second : Ordering
  a_is : a ≡ Some first
  b_is : b ≡ Some second
  is : ordering_then first second ≡ o

-- of two orders one after another, each
both_of : (a b : Option Ordering) (o : Ordering) → then_order a b ≡ Some o → Both a b o
both_of (Some p) (Some q) o e = record {
  first = p;
  second = q;
  a_is = refl;
  b_is = refl;
  is =
      same_some (ordering_then p q) o e;
}
both_of (Some p) None o e = absurd (let f : ⊥ = cc in f)
both_of None b o e = absurd (let f : ⊥ = cc in f)

-- the parts of two places lie so
parts_law : (ts us : List Tree) (o : Ordering) (x y : List ℕ) → AllByRecursion IsKeyValue ts
    → AllByRecursion IsKeyValue us → parts_order ts us ≡ Some o
    → text_order (flat_map key_bytes ts ++ x) (flat_map key_bytes us ++ y)
    ≡ ordering_then o (text_order x y)
parts_law [] [] o x y k l e = ap (λ p. ordering_then p (text_order x y)) (same_some Equal o e)
parts_law [] (u ∷ us) o x y k l e = absurd (let f : ⊥ = cc in f)
parts_law (t ∷ ts) [] o x y k l e = absurd (let f : ⊥ = cc in f)
parts_law (t ∷ ts) (u ∷ us) o x y k l e =
    let d = both_of (tree_order t u) (parts_order ts us) o e in
    let here : IsPartOrder t u d.first = subst (λ r. IfSome r (IsPartOrder t u)) d.a_is
    (part_law t u k.0 l.0) in
    (λ i. text_order (append_assoc (key_bytes t) (flat_map key_bytes ts) x i)
    (append_assoc (key_bytes u) (flat_map key_bytes us) y i))
    ∙ here (flat_map key_bytes ts ++ x) (flat_map key_bytes us ++ y)
    ∙ ap (ordering_then d.first) (parts_law ts us d.second x y k.1 l.1 d.b_is)
    ∙ sym (then-assoc d.first d.second (text_order x y))
    ∙ ap (λ p. ordering_then p (text_order x y)) d.is

-- the key bytes of two places lie as the places do
pub keys-lie : KeysLieAsPlaces
keys-lie p q o x y hp hq e =
    let d = both_of (Some (nat_cmp p.token q.token)) (parts_order p.parts q.parts) o e in
    (λ i. text_order (append_assoc (to_be_bytes w64 p.token) (flat_map key_bytes p.parts) x i)
    (append_assoc (to_be_bytes w64 q.token) (flat_map key_bytes q.parts) y i))
    ∙ token-order p.token q.token (flat_map key_bytes p.parts ++ x)
    (flat_map key_bytes q.parts ++ y) hp.token hq.token
    ∙ (λ i. ordering_then (same_some (nat_cmp p.token q.token) d.first d.a_is i)
    (parts_law p.parts q.parts d.second x y hp.parts hq.parts d.b_is i))
    ∙ sym (then-assoc d.first d.second (text_order x y))
    ∙ ap (λ r. ordering_then r (text_order x y)) d.is

-- parts that tie are one list
tied_parts : (ts us : List Tree) → AllByRecursion IsKeyValue ts → parts_order ts us ≡ Some Equal
    → ts ≡ us
tied_parts [] [] k e = refl
tied_parts [] (u ∷ us) k e = absurd (let f : ⊥ = cc in f)
tied_parts (t ∷ ts) [] k e = absurd (let f : ⊥ = cc in f)
tied_parts (t ∷ ts) (u ∷ us) k e =
    let d = both_of (tree_order t u) (parts_order ts us) Equal e in
    let first : d.first ≡ Equal = then-equal d.first d.second d.is in
    let second : d.second ≡ Equal = then-second d.first d.second first d.is in
    (λ i. tied t u k.0 (d.a_is ∙ ap (λ (r : Ordering). Some r) first) i ∷ tied_parts ts us k.1
    (d.b_is ∙ ap (λ (r : Ordering). Some r) second) i)
  where
    then-second : (o p : Ordering) → o ≡ Equal → ordering_then o p ≡ Equal → p ≡ Equal
    then-second Less p e h = absurd (let f : ⊥ = cc in f)
    then-second Equal p e h = h
    then-second Greater p e h = absurd (let f : ⊥ = cc in f)

-- tokens that tie are equal, and places are their parts
nat_tied : (m n : ℕ) → nat_cmp m n ≡ Equal → m ≡ n
nat_tied m n e = grind arith

same_place : (p q : Place) → p.token ≡ q.token → p.parts ≡ q.parts → p ≡ q
same_place p q e f = λ i. record { token = e i; parts = f i }

-- places that tie are one place
pub tied_places : (p q : Place) → AllByRecursion IsKeyValue p.parts → place_order p q ≡ Some Equal
    → p ≡ q
tied_places p q keys e =
    let d = both_of (Some (nat_cmp p.token q.token)) (parts_order p.parts q.parts) Equal e in
    let both = then-equal_both d.first d.second d.is in
    same_place p q (nat_tied p.token q.token (same_some (nat_cmp p.token q.token) d.first d.a_is
    ∙ both.0))
    (tied_parts p.parts q.parts keys (d.b_is ∙ ap (λ (r : Ordering). Some r) both.1))

-- key bytes that are equal are those of places that tie
pub keys-tell : KeysTellPlaces
keys-tell p q o hp hq e same =
    let equal : ordering_then o Equal ≡ Equal =
    sym (keys-lie p q o [] [] hp hq e) ∙ ap (λ b. text_order (b ++ []) (place_bytes q ++ [])) same
    ∙ text_order-refl (place_bytes q ++ []) in
    tied_places p q hp.parts (e ∙ ap (λ (r : Ordering). Some r) (then-equal o Equal equal))
