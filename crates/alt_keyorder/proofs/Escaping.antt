-- How bytes are escaped, up to the next 0 and behind it.
use Rattle.std.proofs.Common.{◌≡◌, ℕ, zero, suc, ◌<◌, List, [], ◌∷◌, ◌++◌, length, take, drop, get_or, refl, sym, ap, ◌∙◌, subst, append_assoc, arith}
use Rattle.alt_base.specs.Prefix.{IsPrefix}
use Rattle.alt_keyorder.specs.KeyBytes.{escaped, closed, IsClean}

-- no byte is 0 where none passes the test
pub clean_from_tests : (s : List ℕ) → ((k : ℕ) → k < length s → get_or s k 0 ≡ 0 → ⊥) → IsClean s
clean_from_tests [] clean = tt
clean_from_tests (zero ∷ s) clean = absurd (clean 0 (omega arith) refl)
clean_from_tests (suc b ∷ s) clean = clean_from_tests s (λ k lt is. clean (suc k) (omega arith) is)

-- the bytes before the first 0
pub clean_front : (s : List ℕ) (i : ℕ) → ((k : ℕ) → k < i → get_or s k 0 ≡ 0 → ⊥) → i < length s
    → IsClean (take i s)
clean_front [] i before h = absurd (omega arith)
clean_front (x ∷ s) zero before h = tt
clean_front (zero ∷ s) (suc i) before h = absurd (before 0 (omega arith) refl)
clean_front (suc b ∷ s) (suc i) before h = clean_front s i
    (λ k lt is. before (suc k) (omega arith) is) (omega arith)

-- the 0 and what stands around it
pub cut : (s : List ℕ) (i : ℕ) → i < length s → get_or s i 0 ≡ 0
    → s ≡ take i s ++ 0 ∷ drop 1 (drop i s)
cut [] i h at = absurd (omega arith)
cut (x ∷ s) zero h at = ap (λ (y : ℕ). y ∷ s) at
cut (x ∷ s) (suc i) h at = ap (λ (t : List ℕ). x ∷ t) (cut s i (omega arith) at)

-- what was found before the first 0, and behind it
pub clean_as : (s : List ℕ) (i : ℕ) (front : List ℕ) → ((k : ℕ) → k < i → get_or s k 0 ≡ 0 → ⊥)
    → i < length s → front ≡ take i s → IsClean front
clean_as s i front before h e = let P : List ℕ
    → Type 0 = λ t. IsClean t in subst P (sym e) (clean_front s i before h)

-- bytes are cut at a 0 into those before it and those behind it
pub cut_as : (s : List ℕ) (i : ℕ) (front rest behind : List ℕ) → i < length s → get_or s i 0 ≡ 0
    → front ≡ take i s → rest ≡ drop i s
    → behind ≡ drop 1 rest → s ≡ front ++ 0 ∷ behind
cut_as s i front rest behind h at e f g =
    cut s i h at ∙ ap (λ t. t ++ 0 ∷ drop 1 (drop i s)) (sym e)
    ∙ ap (λ t. front ++ 0 ∷ t) (sym (g ∙ ap (drop 1) f))

-- without a 0 nothing is changed
pub escaped-clean : (s : List ℕ) → IsClean s → escaped s ≡ s
escaped-clean [] clean = refl
escaped-clean (zero ∷ s) clean = absurd clean
escaped-clean (suc b ∷ s) clean = ap (λ (t : List ℕ). suc b ∷ t) (escaped-clean s clean)

-- bytes one behind another are escaped one behind another
pub escaped-append : (s t : List ℕ) → escaped (s ++ t) ≡ escaped s ++ escaped t
escaped-append [] t = refl
escaped-append (zero ∷ s) t = ap (λ (u : List ℕ). 0 ∷ 255 ∷ u) (escaped-append s t)
escaped-append (suc b ∷ s) t = ap (λ (u : List ℕ). suc b ∷ u) (escaped-append s t)

-- up to the first 0 nothing is changed
pub escaped-cut : (front behind : List ℕ) → IsClean front
    → escaped (front ++ 0 ∷ behind) ≡ front ++ 0 ∷ 255 ∷ escaped behind
escaped-cut front behind clean = escaped-append front (0 ∷ behind)
    ∙ ap (λ s. s ++ 0 ∷ 255 ∷ escaped behind) (escaped-clean front clean)

-- one step: what is written and what is left make the same
pub step : (out s front behind : List ℕ) → s ≡ front ++ 0 ∷ behind → IsClean front
    → ((out ++ front) ++ 0 ∷ 255 ∷ []) ++ closed behind ≡ out ++ closed s
step out s front behind is clean =
    let e = ap (λ u. out ++ (u ++ 0 ∷ 0 ∷ [])) (ap escaped is ∙ escaped-cut front behind clean) in
    let f : ((out ++ front) ++ 0 ∷ 255 ∷ []) ++ closed behind
    ≡ out ++ ((front ++ 0 ∷ 255 ∷ escaped behind) ++ 0 ∷ 0 ∷ []) = simp append_assoc in
    f ∙ sym e

-- the last step
pub last_step : (out s : List ℕ) → IsClean s → (out ++ s) ++ 0 ∷ 0 ∷ [] ≡ out ++ closed s
last_step out s clean = append_assoc out s (0 ∷ 0 ∷ [])
    ∙ ap (λ t. out ++ (t ++ 0 ∷ 0 ∷ [])) (sym (escaped-clean s clean))

-- a prefix of bytes is one of longer bytes
pub prefix-more : (a b c d : List ℕ) → IsPrefix a b → c ≡ b ++ d → IsPrefix a c
prefix-more a b c d p e = (p.0 ++ d, e ∙ ap (λ t. t ++ d) p.1 ∙ append_assoc a p.0 d)
