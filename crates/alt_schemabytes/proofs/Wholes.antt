-- What is read as a part stands there, and what stands there is read.
use Rattle.std.proofs.Common.{◌≡◌, refl, sym, ap, ◌∙◌, ℕ, zero, suc, ◌+◌, ◌-◌, ◌<◌, ◌≤◌, ◌^◌, Bool, true, false, cond, ◌&&◌, ◌==◌, nat_le, if◌then◌else◌, List, [], ◌∷◌, ◌++◌, length, take, drop, get_or, Option, Some, None, arith, append_assoc, length-append}
use Rattle.std.specs.Int.{w32, w64, to_be_bytes, from_be_bytes}
use Rattle.std.specs.List.{find}
use Rattle.std.specs.Option.{option_map_or}
use Rattle.std.specs.Str.{is_utf8, IsUtf8}
use Rattle.std.proofs.lemmas.Str.{IsUtf8-from_is_utf8}
use Rattle.std.proofs.lemmas.Bool.{eqb-true, leb-true, le-leb}
use Rattle.std.proofs.lemmas.List.{take-append-drop, length-take-le, take_at, drop_at}
use Rattle.std.proofs.lemmas.Nat.{be_bytes_4, be_bytes_8, from_be_bytes-to_be_bytes_4, from_be_bytes-to_be_bytes_8}
use Rattle.std.specs.Cmp.{first_so as left, second_so}
use Rattle.alt_fields.specs.Field.{field}
use Rattle.alt_schemabytes.specs.Parts.{ReadOutcome, got, stops, followed_by, read_bytes, read_u64, read_u32, read_field, any_name, read_name, read_byte, read_more}

-- ---- bytes are below 256

-- each is below 256
pub Small : List ℕ → Type 0
Small bytes = (i : ℕ) → get_or bytes i 0 < 256

-- such bytes
pub small_of : (bytes : List ℕ) → ((i : ℕ) → get_or bytes i 0 < 256) → Small bytes
unfolding Small
small_of bytes h = h

-- a byte at a place
pub small_at : (bytes : List ℕ) → Small bytes → (i : ℕ) → get_or bytes i 0 < 256
unfolding Small
small_at bytes h = h

-- those behind a front
pub small_back : (xs ys : List ℕ) → Small (xs ++ ys) → Small ys
unfolding Small
small_back [] ys h = h
small_back (x ∷ xs) ys h = small_back xs ys (λ i. h (suc i))

-- with one more in front
small_cons : (b : ℕ) (bytes : List ℕ) → b < 256 → Small bytes → Small (b ∷ bytes)
unfolding Small
small_cons b bytes h s = λ i. elim i as (λ n. get_or (b ∷ bytes) n 0 < 256)
    [ zero ↦ h | suc n ↦ s n ]

-- the first of them
pub small_take : (n : ℕ) (bytes : List ℕ) → Small bytes → Small (take n bytes)
unfolding Small
small_take zero bytes h = λ i. omega arith
small_take (suc n) [] h = λ i. omega arith
small_take (suc n) (b ∷ bytes) h =
    small_cons b (take n bytes) (h zero) (small_take n bytes (λ j. h (suc j)))

-- ---- what a reader got

-- what was got is one value
pub got_value : {A : Type 0} (x y : A) (r s : List ℕ) → got x r ≡ got y s → x ≡ y
got_value x y r s e = cc

-- with one rest
pub got_rest : {A : Type 0} (x y : A) (r s : List ℕ) → got x r ≡ got y s → r ≡ s
got_rest x y r s e = cc

-- reading doesn't stop where it got a value
pub no_stop : {A : Type 0} (n : ℕ) (y : A) (s : List ℕ) → stops n ≡ got y s → ⊥
no_stop n y s e = cc

-- both parts were got
pub record Both {A B : Type 0} (next : A → List ℕ → ReadOutcome B) (r : ReadOutcome A) (y : B)
    (rest : List ℕ) : Type 0 where
  pub x : A
  pub mid : List ℕ
  pub first : r ≡ got x mid
  pub second : next x mid ≡ got y rest

-- where two parts were got, each was
pub both_got : {A B : Type 0} (next : A → List ℕ → ReadOutcome B) (r : ReadOutcome A) (y : B) (rest : List ℕ)
    → followed_by next r ≡ got y rest → Both next r y rest
both_got next (got x mid) y rest e = record { x = x; mid = mid; first = refl; second = e }
both_got next (stops n) y rest e = absurd (no_stop n y rest e)

-- where a value was got, there were bytes enough
pub within : {A : Type 0} (k m : ℕ) (r : ReadOutcome A) (n : ℕ) (y : A) (rest : List ℕ)
    → (if nat_le k m then r else stops n) ≡ got y rest → (k ≤ m) × (r ≡ got y rest)
within k m r n y rest e =
    (elim (nat_le k m) as (λ b. nat_le k m ≡ b → cond b r (stops n) ≡ got y rest → (k ≤ m)
    × (r ≡ got y rest)) [
      | true ↦ λ t f. (leb-true k m t, f)
      | false ↦ λ t f. absurd (no_stop n y rest f)
    ]) refl e

-- where a value was got, the test passed
pub passes : {A : Type 0} (b : Bool) (r : ReadOutcome A) (n : ℕ) (y : A) (rest : List ℕ)
    → (if b then r else stops n) ≡ got y rest → (b ≡ true) × (r ≡ got y rest)
passes true r n y rest e = (refl, e)
passes false r n y rest e = absurd (no_stop n y rest e)

-- ---- numbers and fields

-- a number that is read stands there
pub u64_got : (bytes : List ℕ) (n : ℕ) (rest : List ℕ) → Small bytes → read_u64 bytes ≡ got n rest
    → bytes ≡ to_be_bytes w64 n ++ rest
unfolding read_u64 Small
u64_got bytes n rest small e =
    let w = within 8 (length bytes)
    (got (from_be_bytes w64 (take 8 bytes)) (drop 8 bytes)) 0 n rest e in
    let v : from_be_bytes w64 (take 8 bytes) ≡ n = got_value _ _ _ _ w.1 in
    let piece : to_be_bytes w64 n ≡ take 8 bytes =
    be_bytes_8 (take 8 bytes) n (length-take-le 8 bytes w.0) (small_take 8 bytes small)
    (sym v) in
    sym (take-append-drop 8 bytes) ∙ (λ j. sym piece j ++ got_rest _ _ _ _ w.1 j)

-- the same of 4 bytes
pub u32_got : (bytes : List ℕ) (n : ℕ) (rest : List ℕ) → Small bytes → read_u32 bytes ≡ got n rest
    → bytes ≡ to_be_bytes w32 n ++ rest
unfolding read_u32 Small
u32_got bytes n rest small e =
    let w = within 4 (length bytes)
    (got (from_be_bytes w32 (take 4 bytes)) (drop 4 bytes)) 0 n rest e in
    let v : from_be_bytes w32 (take 4 bytes) ≡ n = got_value _ _ _ _ w.1 in
    let piece : to_be_bytes w32 n ≡ take 4 bytes =
    be_bytes_4 (take 4 bytes) n (length-take-le 4 bytes w.0) (small_take 4 bytes small)
    (sym v) in
    sym (take-append-drop 4 bytes) ∙ (λ j. sym piece j ++ got_rest _ _ _ _ w.1 j)

-- what stands there is read
pub u64_read : (n : ℕ) (rest : List ℕ) → n < 2 ^ 64 → read_u64 (to_be_bytes w64 n ++ rest)
    ≡ got n rest
unfolding read_u64
u64_read n rest h =
    let bytes = to_be_bytes w64 n ++ rest in
    let long : nat_le 8 (length bytes) ≡ true =
    le-leb 8 (length bytes) (omega (arith, length-append (to_be_bytes w64 n) rest)) in
    ap (λ b. cond b (got (from_be_bytes w64 (take 8 bytes)) (drop 8 bytes)) (stops 0)) long
    ∙ (λ j. got (from_be_bytes w64 (take_at (to_be_bytes w64 n) rest 8 refl j))
    (drop_at (to_be_bytes w64 n) rest 8 refl j))
    ∙ ap (λ v. got v rest) (from_be_bytes-to_be_bytes_8 n h)

-- the same of 4 bytes
pub u32_read : (n : ℕ) (rest : List ℕ) → n < 2 ^ 32 → read_u32 (to_be_bytes w32 n ++ rest)
    ≡ got n rest
unfolding read_u32
u32_read n rest h =
    let bytes = to_be_bytes w32 n ++ rest in
    let long : nat_le 4 (length bytes) ≡ true =
    le-leb 4 (length bytes) (omega (arith, length-append (to_be_bytes w32 n) rest)) in
    ap (λ b. cond b (got (from_be_bytes w32 (take 4 bytes)) (drop 4 bytes)) (stops 0)) long
    ∙ (λ j. got (from_be_bytes w32 (take_at (to_be_bytes w32 n) rest 4 refl j))
    (drop_at (to_be_bytes w32 n) rest 4 refl j))
    ∙ ap (λ v. got v rest) (from_be_bytes-to_be_bytes_4 n h)

-- bytes that are read stand there
pub bytes_got : (n : ℕ) (bytes s rest : List ℕ) → read_bytes n bytes ≡ got s rest
    → (bytes ≡ s ++ rest) × (length s ≡ n)
unfolding read_bytes
bytes_got n bytes s rest e =
    let w = within n (length bytes) (got (take n bytes) (drop n bytes)) 0 s rest e in (
      sym (take-append-drop n bytes)
          ∙ (λ j. got_value _ _ _ _ w.1 j ++ got_rest _ _ _ _ w.1 j),
      ap length
          (sym (got_value _ _ _ _ w.1)) ∙ length-take-le n bytes w.0,
    )

-- bytes that stand there are read
bytes_read : (s rest : List ℕ) → read_bytes (length s) (s ++ rest) ≡ got s rest
unfolding read_bytes
bytes_read s rest =
    let long : nat_le (length s) (length (s ++ rest)) ≡ true =
    le-leb (length s) (length (s ++ rest)) (omega (arith, length-append s rest)) in
    ap (λ b. cond b (got (take (length s) (s ++ rest)) (drop (length s) (s ++ rest))) (stops 0))
    long
    ∙ (λ j. got (take_at s rest (length s) refl j) (drop_at s rest (length s) refl j))

-- a field that is read stands there
pub field_got : (bytes s rest : List ℕ) → Small bytes → read_field bytes ≡ got s rest → bytes
    ≡ field s ++ rest
unfolding read_field
field_got bytes s rest small e =
    let b = both_got read_bytes (read_u64 bytes) s rest e in
    let c = bytes_got b.x b.mid s rest b.second in
    u64_got bytes b.x b.mid small b.first ∙ (λ j. to_be_bytes w64 (sym c.1 j) ++ c.0 j)
    ∙ sym (append_assoc (to_be_bytes w64 (length s)) s rest)

-- a field that stands there is read
pub field_read : (s rest : List ℕ) → length s < 2 ^ 64 → read_field (field s ++ rest) ≡ got s rest
unfolding read_field
field_read s rest h =
    ap read_field' (append_assoc (to_be_bytes w64 (length s)) s rest)
    ∙ ap (followed_by read_bytes) (u64_read (length s) (s ++ rest) h) ∙ bytes_read s rest
  where
    read_field' : List ℕ → ReadOutcome (List ℕ)
    read_field' bytes = followed_by read_bytes (read_u64 bytes)

-- a text that is read stands there, and passed the test
pub name_got : (test : List ℕ → Bool) (bytes s rest : List ℕ) → Small bytes → read_name test bytes
    ≡ got s rest
    → (bytes ≡ field s ++ rest) × (is_utf8 s ≡ true) × (test s ≡ true)
unfolding read_name
name_got test bytes s rest small e =
    let b = both_got (λ t r. if is_utf8 t && test t then got t r else stops (length bytes))
    (read_field bytes) s rest e in
    let p = passes (is_utf8 b.x && test b.x) (got b.x b.mid) (length bytes) s rest b.second in
    let v : b.x ≡ s = got_value _ _ _ _ p.1 in
    let good : (is_utf8 s && test s) ≡ true = ap (λ t. is_utf8 t && test t) (sym v) ∙ p.0 in (
      field_got bytes b.x b.mid small b.first
          ∙ (λ j. field (v j) ++ got_rest _ _ _ _ p.1 j),
      left (is_utf8 s) (test s) good,
      second_so
          (is_utf8 s) (test s) good,
    )

-- a text that passes the test is read
pub name_read : (test : List ℕ → Bool) (s rest : List ℕ) → length s < 2 ^ 64 → is_utf8 s ≡ true
    → test s ≡ true → read_name test (field s ++ rest) ≡ got s rest
unfolding read_name
name_read test s rest h u t =
    ap (followed_by (λ x r. if is_utf8 x
    && test x then got x r else stops (length (field s ++ rest)))) (field_read s rest h)
    ∙ ap (λ b. cond b (got s rest) (stops (length (field s ++ rest)))) ((λ j. u j && t j))

-- a field of UTF-8 is read as a text
pub text_in : (bytes s content rest : List ℕ) → read_field bytes ≡ got content rest → s ≡ content
    → is_utf8 content ≡ true → read_name any_name bytes ≡ got s rest
unfolding read_name
text_in bytes s content rest part same u =
    ap (followed_by (λ x r. if is_utf8 x && any_name x then got x r else stops (length bytes))) part
    ∙ ap (λ b. cond (b && true) (got content rest) (stops (length bytes))) u
    ∙ ap (λ x. got x rest) (sym same)

-- another field isn't
pub text_out : (bytes content rest : List ℕ) → read_field bytes ≡ got content rest → is_utf8 content
    ≡ false → read_name any_name bytes ≡ stops (length bytes)
unfolding read_name
text_out bytes content rest part u =
    ap (followed_by (λ x r. if is_utf8 x && any_name x then got x r else stops (length bytes))) part
    ∙ ap (λ b. cond (b && true) (got content rest) (stops (length bytes))) u

-- the test of what isn't UTF-8
pub not_utf8 : (s : List ℕ) → (IsUtf8 s → ⊥) → is_utf8 s ≡ false
not_utf8 s wrong =
    (elim (is_utf8 s) as (λ b. is_utf8 s ≡ b → b ≡ false) [
      | true ↦ λ t. absurd (wrong (IsUtf8-from_is_utf8 s t))
      | false ↦ λ t. refl
    ]) refl

-- ---- one part of many

module _ {A : Type 0} (R : List A → List ℕ → ReadOutcome A) where
  -- where one of many is read, the rest is read behind it
  pub more_step : (n d : ℕ) (before : List A) (bytes : List ℕ) (x : A) (mid : List ℕ) → d < n
      → R before bytes ≡ got x mid
      → read_more R (n - d) before bytes ≡ read_more R (n - (d + 1)) (before ++ x ∷ []) mid
  unfolding read_more
  more_step n d before bytes x mid h e =
      let k : n - d ≡ suc (n - (d + 1)) = omega arith in
      ap (λ m. read_more R m before bytes) k
      ∙ ap (followed_by (λ y rest. read_more R (n - (d + 1)) (before ++ y ∷ []) rest)) e

  -- where it isn't, reading many stops there too
  pub more_stop : (n d : ℕ) (before : List A) (bytes : List ℕ) (left : ℕ) → d < n → R before bytes
      ≡ stops left
      → read_more R (n - d) before bytes ≡ stops left
  unfolding read_more
  more_stop n d before bytes left h e =
      let k : n - d ≡ suc (n - (d + 1)) = omega arith in
      ap (λ m. read_more R m before bytes) k
      ∙ ap (followed_by (λ y rest. read_more R (n - (d + 1)) (before ++ y ∷ []) rest)) e

  -- where all are read, they are what is read
  pub more_end : (n d : ℕ) (before : List A) (bytes : List ℕ) → n ≤ d
      → read_more R (n - d) before bytes ≡ got before bytes
  unfolding read_more
  more_end n d before bytes h =
      let k : n - d ≡ 0 = omega arith in
      ap (λ m. read_more R m before bytes) k

-- ---- a byte of some

-- what was found passes
found_passes : {A : Type 0} (test : A → Bool) (xs : List A) (x : A) → find test xs ≡ Some x → test x
    ≡ true
found_passes test [] x e = absurd (let f : ⊥ = cc in f)
found_passes test (y ∷ xs) x e =
    (elim (test y) as (λ b. test y ≡ b → cond b (Some y) (find test xs) ≡ Some x → test x ≡ true) [
      | true ↦ λ t f. let same : y ≡ x = cc in ap test (sym same) ∙ t
      | false ↦ λ t f. found_passes test xs x f
    ]) refl e

-- where a value was got, one was found
pub some_got : {A : Type 0} (o : Option A) (rest : List ℕ) (n : ℕ) (x : A) (r : List ℕ)
    → option_map_or (λ y. got y rest) o (stops n) ≡ got x r → (o ≡ Some x) × (rest ≡ r)
some_got None rest n x r e = absurd (no_stop n x r e)
some_got (Some y) rest n x r e = (ap Some (got_value y x rest r e), got_rest y x rest r e)

-- a byte that is read stands there
pub byte_got : {A : Type 0} (byte_of : A → ℕ) (values : List A) (bytes : List ℕ) (x : A)
    (rest : List ℕ) → read_byte byte_of values bytes ≡ got x rest
    → bytes ≡ byte_of x ∷ rest
unfolding read_byte
byte_got byte_of values [] x rest e = absurd (no_stop 0 x rest e)
byte_got byte_of values (b ∷ bytes) x rest e =
    let s = some_got (find (λ y. b == byte_of y) values) bytes (suc (length bytes)) x rest e in
    λ j. eqb-true b (byte_of x) (found_passes (λ y. b == byte_of y) values x s.0) j ∷ s.1 j

-- a byte that stands there is read
pub byte_read : {A : Type 0} (byte_of : A → ℕ) (values : List A) (x : A) (rest : List ℕ)
    → find (λ y. byte_of x == byte_of y) values ≡ Some x
    → read_byte byte_of values (byte_of x ∷ rest) ≡ got x rest
unfolding read_byte
byte_read byte_of values x rest e =
    ap (λ o. option_map_or (λ y. got y rest) o (stops (suc (length rest)))) e
