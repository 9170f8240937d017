-- Two lists of seen values, compared place by place.
use Rattle.std.proofs.Common.{◌≡◌, sym, ap, ◌∙◌, ℕ, zero, suc, ◌+◌, ◌<◌, List, [], ◌∷◌, length, drop, map, get_or, add-one, arith}

module _ {A B : Type 0} (f : A → B) where
  -- one more place at which they are equal
  pub same_more : (xs ys : List A) (i : ℕ) (x y : A) → i < length xs → i < length ys
      → x ≡ get_or xs i x → y ≡ get_or ys i y → f x ≡ f y
      → drop (suc i) (map f xs) ≡ drop (suc i) (map f ys) → drop i (map f xs) ≡ drop i (map f ys)
  same_more [] ys i x y p q at at' e rest = absurd (omega arith)
  same_more (z ∷ zs) [] i x y p q at at' e rest = absurd (omega arith)
  same_more (z ∷ zs) (w ∷ ws) zero x y p q at at' e rest =
      let h : f z ≡ f w = ap f (sym at) ∙ e ∙ ap f at' in
      λ i. h i ∷ rest i
  same_more (z ∷ zs) (w ∷ ws) (suc i) x y p q at at' e rest =
      same_more zs ws i x y (omega arith) (omega arith) at at' e rest

  -- one place at which they differ
  pub differ : (xs ys : List A) (i : ℕ) (x y : A) → i < length xs → i < length ys
      → x ≡ get_or xs i x → y ≡ get_or ys i y
      → map f xs ≡ map f ys → f x ≡ f y
  differ [] ys i x y p q at at' e = absurd (omega arith)
  differ (z ∷ zs) [] i x y p q at at' e = absurd (omega arith)
  differ (z ∷ zs) (w ∷ ws) zero x y p q at at' e =
      let h : f z ≡ f w = cc in
      ap f at ∙ h ∙ ap f (sym at')
  differ (z ∷ zs) (w ∷ ws) (suc i) x y p q at at' e =
      let h : map f zs ≡ map f ws = cc in
      differ zs ws i x y (omega arith) (omega arith) at at' h

  -- the same, of the lists as they are seen
  pub same_step : (xs ys : List A) (us vs : List B) (i : ℕ) (x y : A) → map f xs ≡ us
      → map f ys ≡ vs → i < length xs → i < length ys
      → x ≡ get_or xs i x → y ≡ get_or ys i y → f x ≡ f y → drop (i + 1) us ≡ drop (i + 1) vs
      → drop i us ≡ drop i vs
  same_step xs ys us vs i x y ea eb p q at at' e rest =
      let r : drop (suc i) (map f xs) ≡ drop (suc i) (map f ys) = rw (ea, eb, ← add-one i) rest in
      rw (← ea, ← eb) (same_more xs ys i x y p q at at' e r)

  -- equal lists are seen alike at each place
  pub differ_seen : (xs ys : List A) (us vs : List B) (i : ℕ) (x y : A) → map f xs ≡ us
      → map f ys ≡ vs → i < length xs → i < length ys
      → x ≡ get_or xs i x → y ≡ get_or ys i y → us ≡ vs → f x ≡ f y
  differ_seen xs ys us vs i x y ea eb p q at at' e = differ xs ys i x y p q at at' (ea ∙ e ∙ sym eb)
