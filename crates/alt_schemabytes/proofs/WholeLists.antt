-- Counted parts: what is read as many parts stands there, and what stands there is read.
use Rattle.std.proofs.Common.{◌≡◌, refl, sym, ap, subst, ◌∙◌, ℕ, zero, suc, ◌<◌, ◌^◌, true, false, List, [], ◌∷◌, ◌++◌, length, append_assoc}
use Rattle.std.specs.Int.{w64, to_be_bytes}
use Rattle.std.specs.List.{AllByRecursion}
use Rattle.std.proofs.lemmas.List.{append-nil}
use Rattle.alt_schemabytes.specs.Format.{each, counted_list}
use Rattle.alt_schemabytes.specs.Parts.{ReadOutcome, got, followed_by, read_u64, read_more, read_counted}
use Rattle.alt_schemabytes.specs.Places.{AllNext}
use Rattle.alt_schema.specs.Rules.{is_defined, all_differ}
use Rattle.alt_schema.specs.declared.schema.KeyAttr.{KeyAttr}
use Rattle.alt_schema.proofs.Differ.{differ_more, not_before}
use Rattle.alt_schemabytes.proofs.Wholes.{Small, small_back, got_value, got_rest, both_got, u64_got, u64_read}

module _ {A : Type 0} (bytes_of : A → List ℕ) (P : List A → A → Type 0)
    (R : List A → List ℕ → ReadOutcome A) where
  -- so many stand there, behind those before
  pub record Many (n : ℕ) (before : List A) (bytes : List ℕ) (xs : List A)
      (rest : List ℕ) : Type 0 where
    pub new : List A
    pub is : xs ≡ before ++ new
    pub many : length new ≡ n
    pub stands : bytes ≡ each bytes_of new ++ rest
    pub good : AllNext P before new

  module _ (sound : (before : List A) (b : List ℕ) (x : A) (r : List ℕ) → Small b → R before b
      ≡ got x r → (b ≡ bytes_of x ++ r) × P before x) where
    many_got : (n : ℕ) (before : List A) (bytes : List ℕ) (xs : List A) (rest : List ℕ)
        → Small bytes → read_more R n before bytes ≡ got xs rest
        → Many n before bytes xs rest
    unfolding read_more
    many_got zero before bytes xs rest small e = record {
      new = [];
      is = sym (got_value before xs bytes rest e) ∙ sym (append-nil before);
      many = refl;
      stands = got_rest before xs bytes rest e;
      good = tt;
    }
    many_got (suc n) before bytes xs rest small e =
        let b = both_got (λ x r. read_more R n (before ++ x ∷ []) r) (R before bytes) xs rest e in
        let s = sound before bytes b.x b.mid small b.first in
        let m = many_got n (before ++ b.x ∷ []) b.mid xs rest
        (small_back (bytes_of b.x) b.mid (subst Small s.0 small)) b.second in
        record {
          new = b.x ∷ m.new;
          is = m.is ∙ append_assoc before (b.x ∷ []) m.new;
          many = ap suc m.many;
          stands = s.0 ∙ ap (λ z. bytes_of b.x ++ z) m.stands
              ∙ sym (append_assoc (bytes_of b.x) (each bytes_of m.new) rest);
          good = (s.1, m.good);
        }

    pub counted_got : (bytes : List ℕ) (xs : List A) (rest : List ℕ) → Small bytes
        → read_counted R bytes ≡ got xs rest
        → (bytes ≡ counted_list bytes_of xs ++ rest) × AllNext P [] xs
    unfolding read_counted
    counted_got bytes xs rest small e =
        let b = both_got (λ n r. read_more R n [] r) (read_u64 bytes) xs rest e in
        let s = u64_got bytes b.x b.mid small b.first in
        let m = many_got b.x [] b.mid xs rest
        (small_back (to_be_bytes w64 b.x) b.mid (subst Small s small)) b.second in (
          s ∙ (λ j. to_be_bytes w64 (sym m.many j) ++ m.stands j)
              ∙ ap (λ zs. to_be_bytes w64 (length zs) ++ (each bytes_of zs ++ rest)) (sym m.is)
              ∙ sym (append_assoc (to_be_bytes w64 (length xs)) (each bytes_of xs) rest),
          subst (AllNext P []) (sym m.is) m.good,
        )

  module _ (complete : (before : List A) (x : A) (r : List ℕ) → P before x
      → R before (bytes_of x ++ r) ≡ got x r) where
    many_read : (xs before : List A) (rest : List ℕ) → AllNext P before xs
        → read_more R (length xs) before (each bytes_of xs ++ rest) ≡ got (before ++ xs) rest
    unfolding read_more
    many_read [] before rest h = ap (λ l. got l rest) (sym (append-nil before))
    many_read (x ∷ xs) before rest h =
        ap (followed_by (λ y r. read_more R (length xs) (before ++ y ∷ []) r))
        (ap (R before) (append_assoc (bytes_of x) (each bytes_of xs) rest)
        ∙ complete before x (each bytes_of xs ++ rest) h.0)
        ∙ many_read xs (before ++ x ∷ []) rest h.1
        ∙ ap (λ l. got l rest) (append_assoc before (x ∷ []) xs)

    pub counted_read : (xs : List A) (rest : List ℕ) → length xs < 2 ^ 64 → AllNext P [] xs
        → read_counted R (counted_list bytes_of xs ++ rest) ≡ got xs rest
    unfolding read_counted
    counted_read xs rest h good =
        ap (λ b. followed_by (λ n r. read_more R n [] r) (read_u64 b))
        (append_assoc (to_be_bytes w64 (length xs)) (each bytes_of xs) rest)
        ∙ ap (followed_by (λ n r. read_more R n [] r))
        (u64_read (length xs) (each bytes_of xs ++ rest) h)
        ∙ many_read xs [] rest good

-- ---- those of which nothing before tells

-- what holds of each holds of each in view of those before
pub all_next : {A : Type 0} (P : A → Type 0) (xs before : List A) → AllByRecursion P xs
    → AllNext (λ b. P) before xs
all_next P [] before h = tt
all_next P (x ∷ xs) before h = (h.0, all_next P xs (before ++ x ∷ []) h.1)

-- and the other way round
pub next_all : {A : Type 0} (P : A → Type 0) (xs before : List A) → AllNext (λ b. P) before xs
    → AllByRecursion P xs
next_all P [] before h = tt
next_all P (x ∷ xs) before h = (h.0, next_all P xs (before ++ x ∷ []) h.1)

-- ---- names that differ

-- a definition whose name no one before has
abbrev pub HasNewName : List KeyAttr → KeyAttr → Type 0
HasNewName before d = is_defined before d.name ≡ false

-- where each name is new behind those before, all differ
pub next_differ : (ds before : List KeyAttr) → all_differ (λ k. k.name) before ≡ true
    → AllNext HasNewName before ds → all_differ (λ k. k.name) (before ++ ds) ≡ true
next_differ [] before h new = ap (all_differ (λ k. k.name)) (append-nil before) ∙ h
next_differ (d ∷ ds) before h new =
    ap (all_differ (λ k. k.name)) (sym (append_assoc before (d ∷ []) ds))
    ∙ next_differ ds (before ++ d ∷ []) (differ_more before d h new.0) new.1

-- and where all differ, each is new
pub differ_next : (ds before : List KeyAttr) → all_differ (λ k. k.name) (before ++ ds) ≡ true
    → AllNext HasNewName before ds
differ_next [] before h = tt
differ_next (d ∷ ds) before h = (
  not_before before d ds h,
  differ_next ds (before ++ d ∷ [])
      (ap (all_differ (λ k. k.name)) (append_assoc before (d ∷ []) ds) ∙ h),
)
