-- No spelling is a prefix of another.
use Rattle.std.proofs.Common.{◌≡◌, ◌≢◌, ℕ, ◌+◌, ◌-◌, ◌*◌, ◌^◌, List, [], ◌∷◌, ◌++◌, refl, sym, ap, ◌∙◌, arith, append_assoc}
use Rattle.std.specs.Prelude.{ℤ}
use Rattle.std.specs.Ordering.{nat_cmp, int_cmp}
use Rattle.std.specs.declared.cmp.Ordering.TheVariants.{Equal}
use Rattle.std.specs.Cmp.Lexicographic.{slice_cmp}
use Rattle.std.proofs.lemmas.Map.Lookups.{exact_signed}
use Rattle.std.proofs.lemmas.List.{map-append, append-nil}
use Rattle.std.specs.Int.Digits.{digits_of}
use Rattle.alt_base.proofs.Lists.{cons_rest, cons_first}
use Rattle.alt_base.proofs.Orderings.{nat_cmp-equal}
use Rattle.alt_decimal.specs.Digits.{width}
use Rattle.alt_decimal.specs.declared.Decimal.TheInside.{Inside}
use Rattle.alt_decimal.specs.Form.{units_of, IsNormal}
use Rattle.alt_decimal.specs.Spelled.{digit_pairs, complement, magnitude_bytes, spelled}
use Rattle.alt_decimal.proofs.Unspelling.{IsPairs}
use Rattle.alt_decimal.proofs.Spelling.{magnitude_bytes-mul}
use Rattle.alt_decimal.proofs.SpellingOrder.{Fitting, all_coefficient, Look, at_zero, over, under, look, spelled_cmp}

-- no byte of the list is e
abbrev Without : ℕ → List ℕ → Type 0
Without e [] = Unit {0}
Without e (b ∷ bs) = (b ≢ e) × Without e bs

-- two byte strings, and what follows them, are the same
record Same (xs ys r s : List ℕ) : Type 0 where
  lists : xs ≡ ys
  rests : r ≡ s

-- a list ends at the first such byte
ends_same : (e : ℕ) (xs ys r s : List ℕ) → Without e xs → Without e ys → xs ++ e ∷ r ≡ ys ++ e ∷ s
    → Same xs ys r s
ends_same e [] [] r s hx hy is = record { lists = refl; rests = cc }
ends_same e [] (y ∷ ys) r s hx hy is = let same : y ≡ e = cc in absurd (hy.0 same)
ends_same e (x ∷ xs) [] r s hx hy is = let same : x ≡ e = cc in absurd (hx.0 same)
ends_same e (x ∷ xs) (y ∷ ys) r s hx hy is =
    let first : x ≡ y = cc in
    let rest : xs ++ e ∷ r ≡ ys ++ e ∷ s = cc in
    let t = ends_same e xs ys r s hx.1 hy.1 rest in
    record { lists = rw first (ap (λ ts. y ∷ ts) t.lists); rests = t.rests }

-- pairs have no closing byte, nor have flipped ones
pairs_without : (ps : List ℕ) → IsPairs ps → Without 0 ps
pairs_without [] h = tt
pairs_without (p ∷ ps) h = (λ z. omega (arith, h.0, z), pairs_without ps h.1)

flipped_without : (ps : List ℕ) → IsPairs ps → Without 255 (complement ps)
flipped_without [] h = tt
flipped_without (p ∷ ps) h = (λ z. omega (arith, h.0, z), flipped_without ps h.1)

-- bytes of a magnitude, and what follows them
plain_shape : (t z : ℕ) → Fitting t z → (r : List ℕ)
    → magnitude_bytes (t * 10 ^ z) ++ r ≡ (width t + z - 38) ∷ (digit_pairs (digits_of 10 t) ++ 0 ∷ r)
plain_shape t z f r =
    ap (λ ts. ts ++ r) (magnitude_bytes-mul t z f.last)
    ∙ ap (λ ts. (width t + z - 38) ∷ ts) (append_assoc (digit_pairs (digits_of 10 t)) (0 ∷ []) r)

-- bytes of a magnitude below zero, and what follows them
flipped_shape : (t z : ℕ) → Fitting t z → (r : List ℕ)
    → complement (magnitude_bytes (t * 10 ^ z)) ++ r
    ≡ (255 - (width t + z - 38)) ∷ (complement (digit_pairs (digits_of 10 t)) ++ 255 ∷ r)
flipped_shape t z f r =
    ap (λ ts. complement ts ++ r) (magnitude_bytes-mul t z f.last)
    ∙ ap (λ ts. (255 - (width t + z - 38)) ∷ (ts ++ r))
    (map-append (λ b. 255 - b) (digit_pairs (digits_of 10 t)) (0 ∷ []))
    ∙ ap (λ ts. (255 - (width t + z - 38)) ∷ ts)
    (append_assoc (complement (digit_pairs (digits_of 10 t))) (255 ∷ []) r)

-- spellings that begin differently, kind by kind
apart : (u v : ℤ) (x y : ℕ) (xs ys r s : List ℕ) → spelled u ≡ x ∷ xs → spelled v ≡ y ∷ ys
    → spelled u ++ r ≡ spelled v ++ s → x ∷ (xs ++ r) ≡ y ∷ (ys ++ s)
apart u v x y xs ys r s e f is = sym (ap (λ ts. ts ++ r) e) ∙ is ∙ ap (λ ts. ts ++ s) f

looks_apart : (u v : ℤ) (r s : List ℕ) → Look u → Look v → spelled u ++ r ≡ spelled v ++ s
    → Same (spelled u) (spelled v) r s
looks_apart u v r s (at_zero e a) (at_zero f b) is =
    record { lists = a ∙ sym b; rests = cons_rest 2 2 r s (apart u v 2 2 [] [] r s a b is) }
looks_apart u v r s (at_zero e a) (over t z h f b) is =
    absurd (omega (arith, cons_first _ _ _ _ (apart u v 2 3 _ _ r s a b is)))
looks_apart u v r s (at_zero e a) (under t z h f b) is =
    absurd (omega (arith, cons_first _ _ _ _ (apart u v 2 1 _ _ r s a b is)))
looks_apart u v r s (over t y g e a) (at_zero f b) is =
    absurd (omega (arith, cons_first _ _ _ _ (apart u v 3 2 _ _ r s a b is)))
looks_apart u v r s (over t y g e a) (under t' z h f b) is =
    absurd (omega (arith, cons_first _ _ _ _ (apart u v 3 1 _ _ r s a b is)))
looks_apart u v r s (under t y g e a) (at_zero f b) is =
    absurd (omega (arith, cons_first _ _ _ _ (apart u v 1 2 _ _ r s a b is)))
looks_apart u v r s (under t y g e a) (over t' z h f b) is =
    absurd (omega (arith, cons_first _ _ _ _ (apart u v 1 3 _ _ r s a b is)))
looks_apart u v r s (over t y g e a) (over t' z h f b) is =
    let behind = cons_rest 3 3 _ _ (apart u v 3 3 _ _ r s a b is) in
    let shapes = sym (plain_shape t y g r) ∙ behind ∙ plain_shape t' z h s in
    let first = cons_first _ _ _ _ shapes in
    let w = ends_same 0 (digit_pairs (digits_of 10 t)) (digit_pairs (digits_of 10 t')) r s
    (pairs_without _ (all_coefficient t y g)) (pairs_without _ (all_coefficient t' z h))
    (cons_rest _ _ _ _ shapes) in
    let same : magnitude_bytes (t * 10 ^ y) ≡ magnitude_bytes (t' * 10 ^ z) =
    magnitude_bytes-mul t y g.last ∙ ap (λ p. p ∷ (digit_pairs (digits_of 10 t) ++ 0 ∷ [])) first
    ∙ ap (λ ps. (width t' + z - 38) ∷ (ps ++ 0 ∷ [])) w.lists
    ∙ sym (magnitude_bytes-mul t' z h.last) in
    record { lists = a ∙ ap (λ ts. 3 ∷ ts) same ∙ sym b; rests = w.rests }
looks_apart u v r s (under t y g e a) (under t' z h f b) is =
    let behind = cons_rest 1 1 _ _ (apart u v 1 1 _ _ r s a b is) in
    let shapes = sym (flipped_shape t y g r) ∙ behind ∙ flipped_shape t' z h s in
    let first = cons_first _ _ _ _ shapes in
    let w = ends_same 255 (complement (digit_pairs (digits_of 10 t)))
    (complement (digit_pairs (digits_of 10 t'))) r s
    (flipped_without _ (all_coefficient t y g)) (flipped_without _ (all_coefficient t' z h))
    (cons_rest _ _ _ _ shapes) in
    let plain : complement (magnitude_bytes (t * 10 ^ y)) ++ []
    ≡ complement (magnitude_bytes (t' * 10 ^ z)) ++ [] =
    flipped_shape t y g [] ∙ ap (λ p. p ∷ (complement (digit_pairs (digits_of 10 t)) ++ 255 ∷ [])) first
    ∙ ap (λ ps. (255 - (width t' + z - 38)) ∷ (ps ++ 255 ∷ [])) w.lists
    ∙ sym (flipped_shape t' z h []) in
    let same : complement (magnitude_bytes (t * 10 ^ y))
    ≡ complement (magnitude_bytes (t' * 10 ^ z)) = sym (append-nil _) ∙ plain ∙ append-nil _ in
    record { lists = a ∙ ap (λ ts. 1 ∷ ts) same ∙ sym b; rests = w.rests }

-- a list ties with itself
cmp_refl : (xs : List ℕ) → slice_cmp nat_cmp xs xs ≡ Equal
cmp_refl [] = refl
cmp_refl (x ∷ xs) = rw (nat_cmp-equal x x refl) (cmp_refl xs)

-- no spelling is a prefix of another, whatever follows
pub spelled-apart : (d e : Inside) → IsNormal d → IsNormal e → (r s : List ℕ)
    → spelled (units_of d) ++ r ≡ spelled (units_of e) ++ s → units_of d ≡ units_of e
spelled-apart d e n m r s is =
    let t = looks_apart (units_of d) (units_of e) r s (look d n) (look e m) is in
    let equal : int_cmp (units_of d) (units_of e) ≡ Equal =
    spelled_cmp d e n m ∙ ap (slice_cmp nat_cmp (spelled (units_of d))) (sym t.lists)
    ∙ cmp_refl (spelled (units_of d)) in
    exact_signed (units_of d) (units_of e) equal
