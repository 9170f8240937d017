-- The places of stored items are bytes.
use Rattle.std.proofs.Common.{◌≡◌, refl, sym, ap, subst, ◌∙◌, ℕ, zero, suc, ◌+◌, ◌<◌, ◌≤◌, ◌/◌, ◌%◌, ◌==◌, cond, ltb, Bool, true, false, ◌&&◌, ⊎_elim, List, [], ◌∷◌, ◌++◌, length, Option, Some, None, ℤ, pos, nat_abs, arith}
use Rattle.std.proofs.Math.Utf8.{scalar, scalars, encode, encodes, scalar_cases}
use Rattle.std.proofs.lemmas.Int.Digits.{all_below_base_digits_of, length-digits_of-le}
use Rattle.std.proofs.lemmas.Option.{same_Some}
use Rattle.std.specs.Int.{w64, to_be_bytes, is_negative}
use Rattle.std.specs.Int.Digits.{digits_of, AllBelowBase}
use Rattle.std.specs.List.{AllByRecursion, flat_map}
use Rattle.std.specs.Str.{IsUtf8}
use Rattle.alt_decimal.specs.Digits.{width, trimmed}
use Rattle.alt_decimal.specs.Number.{FitsDecimal, IsMagnitude}
use Rattle.alt_decimal.specs.Spelled.{spelled, magnitude_bytes, digit_pairs, complement}
use Rattle.alt_keyorder.specs.KeyBytes.{escaped, closed, key_bytes}
use Rattle.alt_keyorder.specs.Place.{key_values, place_bytes, place_in_table}
use Rattle.alt_keyorder.specs.Range.{IsByteString}
use Rattle.alt_keyorder.specs.Token.{token_of}
use Rattle.alt_ops_query.specs.Places.{MayStand}
use Rattle.alt_ops_query.proofs.Stored.{IsBeside, has_both, keyed}
use Rattle.alt_schema.specs.declared.schema.IndexSchema.{IndexSchema}
use Rattle.alt_schema.specs.declared.schema.KeyAttr.{KeyAttr}
use Rattle.alt_schema.specs.declared.schema.TableSchema.{TableSchema}
use Rattle.alt_value.specs.Tree.{Tree, S_tree, N_tree, B_tree, BOOL_tree, NULL_tree, SS_tree, NS_tree, BS_tree, L_tree, M_tree, Pair, fields_of}
use Rattle.alt_value.specs.Values.{IsValue, AreFields}
use Rattle.alt_value.proofs.NamedPairs.{value_at}

-- bytes behind bytes are bytes
both_bytes : (a b : List ℕ) → IsByteString a → IsByteString b → IsByteString (a ++ b)
both_bytes [] b h k = k
both_bytes (x ∷ a) b h k = (h.0, both_bytes a b h.1 k)

-- by a test
by_test : (b : Bool) (x y : List ℕ) → (b ≡ true → IsByteString x) → (b ≡ false → IsByteString y)
    → IsByteString (cond b x y)
by_test true x y h k = h refl
by_test false x y h k = k refl

-- numbers below 256 are bytes
all_bytes : (bs : List ℕ) → AllByRecursion (λ b. b < 256) bs → IsByteString bs
all_bytes [] h = tt
all_bytes (b ∷ bs) h = (h.0, all_bytes bs h.1)

-- ---- texts and binaries

-- bytes in which each 0 is escaped are bytes
escaped_bytes : (s : List ℕ) → IsByteString s → IsByteString (escaped s)
escaped_bytes [] h = tt
escaped_bytes (zero ∷ s) h = (omega arith, (omega arith, escaped_bytes s h.1))
escaped_bytes (suc b ∷ s) h = (h.0, escaped_bytes s h.1)

-- so are those with the end that is put behind them
closed_bytes : (s : List ℕ) → IsByteString s → IsByteString (closed s)
closed_bytes s h =
    both_bytes (escaped s) (0 ∷ 0 ∷ []) (escaped_bytes s h) (omega arith, (omega arith, tt))

-- the number of a character is below 1114112
scalar_below : (c : ℕ) → scalar c ≡ true → c < 1114112
scalar_below c e = ⊎_elim (λ (h : c < 55296). omega (arith, h))
    (λ (h : (57344 ≤ c) × (c < 1114112)). h.1) (scalar_cases c e)

-- so what stands for it in UTF-8 is bytes
character_bytes : (c : ℕ) → scalar c ≡ true → IsByteString (encode c)
unfolding encode
character_bytes c ok =
    let most : c < 1114112 = scalar_below c ok in
    let next : ℕ → ℕ = λ bits. 128 + bits % 64 in
    let four : List ℕ =
    (240 + c / 262144) ∷ next (c / 4096) ∷ next (c / 64) ∷ next c ∷ [] in
    let three : List ℕ = (224 + c / 4096) ∷ next (c / 64) ∷ next c ∷ [] in
    let two : List ℕ = (192 + c / 64) ∷ next c ∷ [] in
    by_test (ltb c 128) (c ∷ []) (cond (ltb c 2048) two (cond (ltb c 65536) three four))
    (λ e. let low : c < 128 = grind (arith, e) in (omega (arith, low), tt))
    (λ e. by_test (ltb c 2048) two (cond (ltb c 65536) three four)
    (λ f. let low : c < 2048 = grind (arith, f) in (omega (arith, low), (omega arith, tt)))
    (λ f. by_test (ltb c 65536) three four
    (λ g. let low : c < 65536 = grind (arith, g) in
    (omega (arith, low), (omega arith, (omega arith, tt))))
    (λ g. (omega (arith, most), (omega arith, (omega arith, (omega arith, tt)))))))

-- and what stands for several characters is
characters_bytes : (cs : List ℕ) → scalars cs ≡ true → IsByteString (encodes cs)
characters_bytes [] ok = tt
characters_bytes (c ∷ cs) ok = by (scalar c) refl ok (λ e. characters_bytes cs e)
  where
    by : (b : Bool) → scalar c ≡ b → (b && scalars cs) ≡ true
        → (scalars cs ≡ true → IsByteString (encodes cs)) → IsByteString (encode c ++ encodes cs)
    by true is e rest = both_bytes (encode c) (encodes cs) (character_bytes c is) (rest e)
    by false is e rest = absurd (let f : ⊥ = cc in f)

-- a text that is UTF-8 is bytes
text_bytes : (s : List ℕ) → IsUtf8 s → IsByteString s
text_bytes s u = subst IsByteString u.1.1 (characters_bytes u.0 u.1.0)

-- ---- numbers

-- digits in pairs are bytes
pairs_bytes : (ds : List ℕ) → AllBelowBase 10 ds → IsByteString (digit_pairs ds)
pairs_bytes [] h = tt
pairs_bytes (a ∷ []) h = (omega (arith, h.0), tt)
pairs_bytes (a ∷ b ∷ ds) h = (omega (arith, h.0, h.1.0), pairs_bytes ds h.1.1)

-- so are the complements of any bytes
complement_bytes : (bs : List ℕ) → IsByteString (complement bs)
complement_bytes [] = tt
complement_bytes (b ∷ bs) = (omega arith, complement_bytes bs)

-- the exponent and the digits of a number that fits are bytes
magnitude_are_bytes : (m : ℕ) → IsMagnitude m → IsByteString (magnitude_bytes m)
unfolding magnitude_bytes width
magnitude_are_bytes m size =
    let few : length (digits_of 10 m) ≤ 293 =
    length-digits_of-le 10 293 m (omega arith) size.below in (
      omega (arith, few),
      both_bytes (digit_pairs (digits_of 10 (trimmed m))) (0 ∷ [])
          (pairs_bytes (digits_of 10 (trimmed m))
          (all_below_base_digits_of 10 (trimmed m) (omega arith)))
          (omega arith, tt),
    )

-- and its key part is, whatever its sign
spelled_bytes : (z : ℤ) → FitsDecimal z → IsByteString (spelled z)
unfolding spelled
spelled_bytes z fits = by_test (nat_abs z == 0) _ _ (λ e. (omega arith, tt))
    (λ e. by_test (is_negative z) _ _
    (λ f. (omega arith, complement_bytes (magnitude_bytes (nat_abs z))))
    (λ f. (omega arith, magnitude_are_bytes (nat_abs z) (size e))))
  where
    size : (nat_abs z == 0) ≡ false → IsMagnitude (nat_abs z)
    size e = ⊎_elim
        (λ (is : z ≡ pos 0). let no : true ≡ false = ap (λ x. nat_abs x == 0) (sym is) ∙ e in
        absurd (let f : ⊥ = cc in f))
        (λ (h : IsMagnitude (nat_abs z)). h) fits

-- ---- places

-- the key part of a value
part_bytes : (t : Tree) → IsValue t → IsByteString (key_bytes t)
part_bytes (S_tree s) v = closed_bytes s (text_bytes s v.0)
part_bytes (N_tree z) v = spelled_bytes z v
part_bytes (B_tree b) v = closed_bytes b (all_bytes b v.0)
part_bytes (BOOL_tree b) v = tt
part_bytes NULL_tree v = tt
part_bytes (SS_tree ss) v = tt
part_bytes (NS_tree zs) v = tt
part_bytes (BS_tree bs) v = tt
part_bytes (L_tree ts) v = tt
part_bytes (M_tree fs) v = tt

-- a token is spelled in bytes
token_are_bytes : (n : ℕ) → IsByteString (to_be_bytes w64 n)
token_are_bytes n = (
  omega arith,
  (
    omega arith,
    (
      omega arith,
      (
        omega arith,
        (
          omega arith,
          (
            omega arith,
            (omega arith, (omega arith, tt)),
          ),
        ),
      ),
    ),
  ),
)

-- the place of values
pub values_place : (hash : Tree) (range : Option Tree) → IsValue hash
    → ((t : Tree) → range ≡ Some t → IsValue t) → IsByteString (place_bytes (place_in_table hash range))
values_place hash None h r = both_bytes (to_be_bytes w64 (token_of hash)) (key_bytes hash ++ [])
    (token_are_bytes (token_of hash)) (both_bytes (key_bytes hash) [] (part_bytes hash h) tt)
values_place hash (Some range) h r =
    both_bytes (to_be_bytes w64 (token_of hash)) (key_bytes hash ++ (key_bytes range ++ []))
    (token_are_bytes (token_of hash)) (both_bytes (key_bytes hash) (key_bytes range ++ [])
    (part_bytes hash h) (both_bytes (key_bytes range) [] (part_bytes range (r range refl)) tt))

-- the RANGE value of an item is a value
beside_value : (item : List Pair) (k : Option KeyAttr) (range : Option Tree)
    → AreFields (fields_of item) → IsBeside item k range → (t : Tree) → range ≡ Some t → IsValue t
beside_value item None None h beside t e = absurd (let f : ⊥ = cc in f)
beside_value item None (Some u) h beside t e = absurd beside
beside_value item (Some key) None h beside t e = absurd beside
beside_value item (Some key) (Some u) h beside t e =
    subst IsValue (same_Some u t e) (value_at key.name item u h beside.at)

-- the parts of a key
values_bytes : (hash : Tree) (range : Option Tree) → IsValue hash
    → ((t : Tree) → range ≡ Some t → IsValue t)
    → IsByteString (flat_map key_bytes (key_values hash range))
values_bytes hash None h r = both_bytes (key_bytes hash) [] (part_bytes hash h) tt
values_bytes hash (Some range) h r = both_bytes (key_bytes hash) (key_bytes range ++ [])
    (part_bytes hash h) (both_bytes (key_bytes range) [] (part_bytes range (r range refl)) tt)

-- the place of what stands in a table or in an index
pub bytes_there : (d : TableSchema) (i : Option IndexSchema) (key : List ℕ) (item : List Pair)
    → MayStand d i key item → IsByteString key
bytes_there d None key item may =
    let (keys, none) = keyed d item key may.1.fields may.0.stands in
    subst IsByteString (sym keys.is)
    (both_bytes (place_bytes (place_in_table keys.hash keys.range)) keys.behind
    (values_place keys.hash keys.range
    (value_at d.hash.name item keys.hash may.1.fields keys.has_hash.at)
    (beside_value item d.range keys.range may.1.fields keys.has_range))
    (subst IsByteString (sym none) tt))
bytes_there d (Some i) key row may =
    let both = has_both d i may.1 key row may.3 may.4 in
    subst IsByteString (sym both.is)
    (both_bytes (place_bytes (place_in_table both.own.hash both.own.range))
    (flat_map key_bytes (key_values both.of_table.hash both.of_table.range))
    (values_place both.own.hash both.own.range
    (value_at i.hash.name row both.own.hash both.fields both.owns.0.at)
    (beside_value row i.range both.own.range both.fields both.owns.1))
    (values_bytes both.of_table.hash both.of_table.range
    (value_at d.hash.name row both.of_table.hash both.fields both.keys.0.at)
    (beside_value row d.range both.of_table.range both.fields both.keys.1)))
