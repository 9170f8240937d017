-- Pieces of bytes one behind another, and which ones they are, whatever follows them.
use Rattle.std.proofs.Common.{◌≡◌, refl, sym, ap, ◌∙◌, ℕ, ◌+◌, ◌<◌, ◌≤◌, ◌^◌, List, [], ◌∷◌, ◌++◌, length, take, drop, arith, append_assoc, length-append}
use Rattle.std.specs.List.{AllByRecursion, flat_map}
use Rattle.std.specs.Int.{w64, to_be_bytes, from_be_bytes, w32}
use Rattle.std.proofs.lemmas.List.{take_at, drop_at, take-append-drop}
use Rattle.std.proofs.lemmas.Nat.{from_be_bytes-to_be_bytes_8, from_be_bytes-to_be_bytes_4}
use Rattle.alt_base.proofs.Lists.{cons_rest, cons_first}
use Rattle.alt_fields.specs.Bytes.{IsShort}
use Rattle.alt_fields.specs.Field.{field, StandsAt, told_length}
use Rattle.alt_fields.proofs.Numbers.{stands_within}

-- whatever follows them, four bytes are those of one number
pub number_four-apart : (m n : ℕ) (x y : List ℕ) → m < 2 ^ 32 → n < 2 ^ 32
    → to_be_bytes w32 m ++ x ≡ to_be_bytes w32 n ++ y → (m ≡ n) × (x ≡ y)
number_four-apart m n x y small_m small_n e = (
  sym (from_be_bytes-to_be_bytes_4 m small_m)
      ∙ ap (from_be_bytes w32) (sym (take_at (to_be_bytes w32 m) x 4 refl) ∙ ap (take 4) e
      ∙ take_at (to_be_bytes w32 n) y 4 refl) ∙ from_be_bytes-to_be_bytes_4 n small_n,
  sym (drop_at (to_be_bytes w32 m) x 4 refl) ∙ ap (drop 4) e ∙ drop_at (to_be_bytes w32 n) y 4 refl,
)

-- ---- lists

-- a list with an element isn't the one without
pub nothing : {A : Type 0} (x : A) (xs : List A) → [] ≡ x ∷ xs → ⊥
nothing x xs e = absurd (cc)

-- lists of one length in front of others
pub same_fronts : {A : Type 0} (s t x y : List A) → length s ≡ length t → s ++ x ≡ t ++ y
    → (s ≡ t) × (x ≡ y)
same_fronts [] [] x y n e = (refl, e)
same_fronts [] (b ∷ t) x y n e = absurd (omega (arith, n))
same_fronts (a ∷ s) [] x y n e = absurd (omega (arith, n))
same_fronts (a ∷ s) (b ∷ t) x y n e =
    let h = same_fronts s t x y (omega (arith, n)) (cons_rest a b (s ++ x) (t ++ y) e) in
    (rw (cons_first a b (s ++ x) (t ++ y) e, h.0) refl, h.1)

-- what holds of each element of two lists holds of those of both, of the front and of the back
module _ {A : Type 0} (P : A → Type 0) where
  pub all_append : (xs ys : List A) → AllByRecursion P xs → AllByRecursion P ys
      → AllByRecursion P (xs ++ ys)
  all_append [] ys a b = b
  all_append (x ∷ xs) ys a b = (a.0, all_append xs ys a.1 b)

  -- what holds of each of two lists together holds of each of the first
  pub all_front : (xs ys : List A) → AllByRecursion P (xs ++ ys) → AllByRecursion P xs
  all_front [] ys a = tt
  all_front (x ∷ xs) ys a = (a.0, all_front xs ys a.1)

  -- what holds of each of two lists together holds of each of the second
  pub all_back : (xs ys : List A) → AllByRecursion P (xs ++ ys) → AllByRecursion P ys
  all_back [] ys a = a
  all_back (x ∷ xs) ys a = all_back xs ys a.1

-- what follows of each element
pub all_map : {A : Type 0} (P Q : A → Type 0) (xs : List A) → ((x : A) → P x → Q x)
    → AllByRecursion P xs
    → AllByRecursion Q xs
all_map P Q [] f a = tt
all_map P Q (x ∷ xs) f a = (f x a.0, all_map P Q xs f a.1)

-- ---- spellings

module _ {K : Type 0} (spell : K → List ℕ) (P : K → Type 0) where
  -- no other spelling stands where this one does
  abbrev pub IsApart : K → Type 0
  IsApart k = (l : K) (x y : List ℕ) → P l → spell k ++ x ≡ spell l ++ y → (k ≡ l) × (x ≡ y)

  -- the first spellings are of one, and the others follow
  step : (k l : K) (ks ls : List K) (x y : List ℕ) → IsApart k → P l
      → flat_map spell (k ∷ ks) ++ x ≡ flat_map spell (l ∷ ls) ++ y
      → (k ≡ l) × (flat_map spell ks ++ x ≡ flat_map spell ls ++ y)
  step k l ks ls x y a b e =
      a l (flat_map spell ks ++ x) (flat_map spell ls ++ y) b
      (sym (append_assoc (spell k) (flat_map spell ks) x) ∙ e
      ∙ append_assoc (spell l) (flat_map spell ls) y)

  -- as many spellings are of the same
  pub same_many : (ks ls : List K) (x y : List ℕ) → AllByRecursion IsApart ks → AllByRecursion P ls
      → length ks ≡ length ls → flat_map spell ks ++ x ≡ flat_map spell ls ++ y
      → (ks ≡ ls) × (x ≡ y)
  same_many [] [] x y a b n e = (refl, e)
  same_many [] (l ∷ ls) x y a b n e = absurd (omega (arith, n))
  same_many (k ∷ ks) [] x y a b n e = absurd (omega (arith, n))
  same_many (k ∷ ks) (l ∷ ls) x y a b n e =
      let h = step k l ks ls x y a.0 b.0 e in
      let t = same_many ks ls x y a.1 b.1 (omega (arith, n)) h.1 in
      (rw (h.0, t.0) refl, t.1)

  -- and so are those up to an end, where none is of no bytes
  pub same_whole : ((k : K) → 0 < length (spell k)) → (ks ls : List K) → AllByRecursion IsApart ks
      → AllByRecursion P ls → flat_map spell ks ≡ flat_map spell ls → ks ≡ ls
  same_whole some [] [] a b e = refl
  same_whole some [] (l ∷ ls) a b e =
      absurd (omega (arith, some l, ap length e, length-append (spell l) (flat_map spell ls)))
  same_whole some (k ∷ ks) [] a b e =
      absurd (omega (arith, some k, ap length e, length-append (spell k) (flat_map spell ks)))
  same_whole some (k ∷ ks) (l ∷ ls) a b e =
      let h = a.0 l (flat_map spell ks) (flat_map spell ls) b.0 e in
      rw (h.0, same_whole some ks ls a.1 b.1 h.1) refl

  -- behind fewer spellings stands the next one
  pub record Further (ks ls : List K) (x y : List ℕ) : Type 0 where
    pub next : K
    pub others : List K
    pub is : ls ≡ ks ++ next ∷ others
    pub there : x ≡ spell next ++ (flat_map spell others ++ y)

  -- where pieces read alike and there are more of the second kind, those left over stand where the first ones end
  pub further : (ks ls : List K) (x y : List ℕ) → AllByRecursion IsApart ks → AllByRecursion P ls
      → length ks < length ls → flat_map spell ks ++ x ≡ flat_map spell ls ++ y → Further ks ls x y
  further [] [] x y a b n e = absurd (omega (arith, n))
  further [] (l ∷ ls) x y a b n e =
      record { next = l; others = ls; is = refl; there = e ∙ append_assoc (spell l) (flat_map spell ls) y }
  further (k ∷ ks) [] x y a b n e = absurd (omega (arith, n))
  further (k ∷ ks) (l ∷ ls) x y a b n e =
      let h = step k l ks ls x y a.0 b.0 e in
      let t = further ks ls x y a.1 b.1 (omega (arith, n)) h.1 in
      record {
        next = t.next;
        others = t.others;
        is = ap (λ m. m ∷ ls) (sym h.0) ∙ ap (λ ms. k ∷ ms) t.is;
        there = t.there;
      }

  -- one spelling more behind those so far
  pub flat_map_snoc : (ks : List K) (k : K) (x : List ℕ)
      → flat_map spell ks ++ (spell k ++ x) ≡ flat_map spell (ks ++ k ∷ []) ++ x
  flat_map_snoc [] k x = sym (append_assoc (spell k) [] x)
  flat_map_snoc (l ∷ ks) k x =
      append_assoc (spell l) (flat_map spell ks) (spell k ++ x)
      ∙ ap (λ s. spell l ++ s) (flat_map_snoc ks k x)
      ∙ sym (append_assoc (spell l) (flat_map spell (ks ++ k ∷ [])) x)

-- ---- numbers and fields

-- the number that eight bytes spell
pub told : (n : ℕ) (x : List ℕ) → n < 2 ^ 64
    → from_be_bytes w64 (take 8 (to_be_bytes w64 n ++ x)) ≡ n
told n x h = ap (from_be_bytes w64) (take_at (to_be_bytes w64 n) x 8 refl)
    ∙ from_be_bytes-to_be_bytes_8 n h

-- whatever follows them, eight bytes are those of one number
pub number-apart : (m n : ℕ) (x y : List ℕ) → m < 2 ^ 64 → n < 2 ^ 64
    → to_be_bytes w64 m ++ x ≡ to_be_bytes w64 n ++ y → (m ≡ n) × (x ≡ y)
number-apart m n x y hm hn e = (
  sym (told m x hm) ∙ ap (λ l. from_be_bytes w64 (take 8 l)) e ∙ told n y hn,
  sym (drop_at (to_be_bytes w64 m) x 8 refl) ∙ ap (drop 8) e ∙ drop_at (to_be_bytes w64 n) y 8 refl,
)

-- whatever follows it, a field is that of one byte string
pub field-apart : (s t x y : List ℕ) → IsShort s → IsShort t → field s ++ x ≡ field t ++ y
    → (s ≡ t) × (x ≡ y)
field-apart s t x y hs ht e =
    let h = number-apart (length s) (length t) (s ++ x) (t ++ y) hs ht
    (sym (append_assoc (to_be_bytes w64 (length s)) s x) ∙ e
    ∙ append_assoc (to_be_bytes w64 (length t)) t y) in
    same_fronts s t x y h.0 h.1

-- how long a field is
pub length-field : (s : List ℕ) → length (field s) ≡ 8 + length s
length-field s = omega (arith, length-append (to_be_bytes w64 (length s)) s)

-- where a field stands, none is cut off
pub field_whole : (bytes s behind : List ℕ) → IsShort s → bytes ≡ field s ++ behind
    → length bytes < 8 + told_length bytes 0 → ⊥
field_whole bytes s behind short is cut =
    let n : told_length bytes 0 ≡ length s =
    ap (λ l. told_length l 0) (is ∙ append_assoc (to_be_bytes w64 (length s)) s behind)
    ∙ told (length s) (s ++ behind) short in
    omega (arith, cut, n, ap length is, length-append (field s) behind, length-field s)

-- ---- what stands at the front

-- a piece at the front, with what is behind it
pub cut_front : (bytes piece rest : List ℕ) (end : ℕ) → StandsAt bytes 0 piece → end ≡ length piece
    → rest ≡ drop end bytes → bytes ≡ piece ++ rest
cut_front bytes piece rest end at e r =
    sym (take-append-drop end bytes) ∙ ap (λ s. s ++ drop end bytes) (ap (λ n. take n bytes) e ∙ at)
    ∙ ap (λ s. piece ++ s) (sym r)

-- a number that stands there ends within the bytes
pub number_within : (bytes : List ℕ) (n end : ℕ) → StandsAt bytes 0 (to_be_bytes w64 n) → end ≡ 8
    → end ≤ length bytes
number_within bytes n end at e =
    omega (arith, stands_within bytes (to_be_bytes w64 n) 0 8 at refl (omega arith), e)
