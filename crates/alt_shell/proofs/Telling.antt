-- How logs grow, one stretch of calls after another.
use Rattle.std.proofs.Common.{◌≡◌, ◌-◌, ℕ, zero, suc, List, [], ◌∷◌, ◌++◌, length, take}
use Rattle.std.proofs.Common.{Option, Some, None, refl, sym, ap, ◌∙◌, append_assoc, append-nil, length-append, arith}
use Rattle.alt_shell.specs.Log.{Log, Grows, GrowsBy, StillGrows, TellsMoments, with_told, most_told, entries_of}

-- entries and then more entries, where they are told
GrowsBy-then : (a b c : Option Log) (x y : Log) → GrowsBy a b x → GrowsBy b c y
    → GrowsBy a c (x ++ y)
GrowsBy-then None b c x y p q = tt
GrowsBy-then (Some es) None c x y p q = absurd p
GrowsBy-then (Some es) (Some fs) None x y p q = absurd q
GrowsBy-then (Some es) (Some fs) (Some gs) x y p q = q ∙ ap (λ zs. zs ++ y) p ∙ append_assoc es x y

-- so in logs
pub Grows-then : (a b c : Log) (x y : Log) → Grows a b x → Grows b c y → Grows a c (x ++ y)
Grows-then a b c x y p q = GrowsBy-then (entries_of a) (entries_of b) (entries_of c) x y p q

-- entries that stay have none more
pub GrowsBy-nil : (a b : Option Log) → b ≡ a → GrowsBy a b []
GrowsBy-nil None b same = tt
GrowsBy-nil (Some es) None same = absurd (let f : ⊥ = cc in f)
GrowsBy-nil (Some es) (Some fs) same =
    let here : fs ≡ es = cc in here ∙ sym (append-nil es)

-- so in a log that stays
pub Grows-nil : (a : Log) → Grows a a []
Grows-nil a = GrowsBy-nil (entries_of a) (entries_of a) refl

-- notes and then more notes
pub StillGrows-then : (a b c : Option (List ℕ)) (x y : List ℕ) → StillGrows a b x → StillGrows b c y
    → StillGrows a c (x ++ y)
StillGrows-then a b None x y p q = tt
StillGrows-then a None (Some z) x y p q = absurd q
StillGrows-then None (Some v) (Some z) x y p q = absurd p
StillGrows-then (Some u) (Some v) (Some z) x y p q = q ∙ ap (λ zs. zs ++ y) p ∙ append_assoc u x y

-- notes that stay
pub StillGrows-nil : (a : Option (List ℕ)) → StillGrows a a []
StillGrows-nil None = tt
StillGrows-nil (Some x) = sym (append-nil x)

-- a front of two lists, in two parts
take-two : (n : ℕ) (x y : List ℕ) → take n (x ++ y) ≡ take n x ++ take (n - length (take n x)) y
take-two zero x y = refl
take-two (suc n) [] y = ap (λ (k : ℕ). take k y) (let e : suc n ≡ suc n - 0 = omega arith in e)
take-two (suc n) (b ∷ x) y =
    ap (λ (l : List ℕ). b ∷ l) (take-two n x y)
    ∙ ap (λ (k : ℕ). b ∷ (take n x ++ take k y))
    (let e : n - length (take n x) ≡ suc n - suc (length (take n x)) = omega arith in e)

-- moments told, and then more of them
with_told-then : (a x y : List ℕ) → with_told (with_told a x) y ≡ with_told a (x ++ y)
with_told-then a x y =
    let room : ℕ = most_told - length a in
    let front : List ℕ = take room x in
    let left : most_told - length (a ++ front) ≡ room - length front =
    omega (arith, length-append a front) in
    append_assoc a front (take (most_told - length (a ++ front)) y)
    ∙ ap (λ (k : ℕ). a ++ (front ++ take k y)) left
    ∙ ap (λ (l : List ℕ). a ++ l) (sym (take-two room x y))

-- so in logs
pub Tells-then : (a b c : Option (List ℕ)) (x y : List ℕ) → TellsMoments a b x → TellsMoments b c y
    → TellsMoments a c (x ++ y)
Tells-then None None None x y p q = tt
Tells-then None None (Some z) x y p q = absurd q
Tells-then None (Some v) c x y p q = absurd p
Tells-then (Some u) None c x y p q = absurd p
Tells-then (Some u) (Some v) None x y p q = absurd q
Tells-then (Some u) (Some v) (Some z) x y p q = q ∙ ap (λ w. with_told w y) p ∙ with_told-then u x y

-- none told
take-none : (n : ℕ) → take n (let none : List ℕ = [] in none) ≡ []
take-none zero = refl
take-none (suc n) = refl

-- moments that stay
pub Tells-nil : (a b : Option (List ℕ)) → b ≡ a → TellsMoments a b []
Tells-nil None None same = tt
Tells-nil None (Some y) same = absurd (let f : ⊥ = cc in f)
Tells-nil (Some x) None same = absurd (let f : ⊥ = cc in f)
Tells-nil (Some x) (Some y) same =
    let here : y ≡ x = cc in
    here ∙ sym (append-nil x) ∙ ap (λ (l : List ℕ). x ++ l) (sym (take-none (most_told - length x)))
