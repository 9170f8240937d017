-- One walk finds exactly what nests too deep.
use Rattle.std.proofs.Common.{◌≡◌, refl, ℕ, zero, suc, ◌+◌, ◌<◌, ◌≤◌, Bool, true, false, cond, ◌||◌, ◌⊎◌, ◌↔◌, inl, inr, if◌then◌else◌, List, [], ◌∷◌, take, nat_lt, arith}
use Rattle.std.specs.Prelude.{IsTrue}
use Rattle.std.proofs.lemmas.Bool.{cases_Bool, ltb-true, ltb-false, or_parts, or_cases}
use Rattle.alt_expr.specs.Tokens.{Tok, is_mark, is_keyword}
use Rattle.alt_expr.specs.declared.token.Keyword.TheVariants.{Not}
use Rattle.alt_expr.specs.declared.token.Mark.TheVariants.{LeftRound, RightRound}
use Rattle.alt_expr.specs.Nesting.{brackets_opened, brackets_closed, nots, NestsTooDeep}
use Rattle.alt_expr.specs.Walks.{deep_from, is_deep}

-- too deep after this many of each
abbrev Deep : ℕ → ℕ → ℕ → List Tok → Type 0
Deep o c n ts = ((k : ℕ) × (c + brackets_closed (take k ts) + 64 < o + brackets_opened (take k ts)))
    ⊎ (64 < n + nots ts)

one_if : (b : Bool) (n : ℕ) → (if b then suc n else n) ≡ cond b 1 0 + n
one_if true n = omega arith
one_if false n = omega arith

nots_on : (t : Tok) (ts : List Tok) → nots (t ∷ ts) ≡ cond (is_keyword Not t) 1 0 + nots ts
nots_on t ts = one_if _ _

opened_on : (k : ℕ) (t : Tok) (ts : List Tok)
    → brackets_opened (take (suc k) (t ∷ ts)) ≡ cond (is_mark LeftRound t) 1 0 + brackets_opened (take k ts)
opened_on k t ts = one_if _ _

closed_on : (k : ℕ) (t : Tok) (ts : List Tok)
    → brackets_closed (take (suc k) (t ∷ ts)) ≡ cond (is_mark RightRound t) 1 0 + brackets_closed (take k ts)
closed_on k t ts = one_if _ _

found : (ts : List Tok) (o c n : ℕ) → deep_from o c n ts ≡ true → Deep o c n ts
found [] o c n h = absurd (cc)
found (t ∷ ts) o c n h =
    let x : ℕ = cond (is_mark LeftRound t) 1 0 in
    let y : ℕ = cond (is_mark RightRound t) 1 0 in
    let z : ℕ = cond (is_keyword Not t) 1 0 in
    elim (cases_Bool (nat_lt (c + y + 64) (o + x) || nat_lt 64 (n + z))) [
      | inl here ↦ elim (or_cases _ _ here) [
        | inl a ↦ let f : c + y + 64 < o + x = ltb-true _ _ a in
            inl (1, omega (arith, f, opened_on 0 t ts, closed_on 0 t ts))
        | inr b ↦ let f : 64 < n + z = ltb-true _ _ b in inr (omega (arith, f, nots_on t ts))
      ]
      | inr on ↦ elim (found ts (o + x) (c + y) (n + z) (rw on at h)) [
        | inl a ↦ inl (suc a.0, omega (arith, a.1, opened_on a.0 t ts, closed_on a.0 t ts))
        | inr b ↦ inr (omega (arith, b, nots_on t ts))
      ]
    ]

missed : (ts : List Tok) (o c n : ℕ) → o ≤ c + 64 → n ≤ 64 → deep_from o c n ts ≡ false
    → Deep o c n ts → ⊥
missed [] o c n a b h (inl (zero, more)) = omega arith
missed [] o c n a b h (inl (suc k, more)) = omega arith
missed [] o c n a b h (inr more) = omega arith
missed (t ∷ ts) o c n a b h d =
    let x : ℕ = cond (is_mark LeftRound t) 1 0 in
    let y : ℕ = cond (is_mark RightRound t) 1 0 in
    let z : ℕ = cond (is_keyword Not t) 1 0 in
    elim (cases_Bool (nat_lt (c + y + 64) (o + x) || nat_lt 64 (n + z))) [
      | inl here ↦ let g = rw here at h in absurd (cc)
      | inr on ↦
          let f = or_parts _ _ on in
          let low : o + x ≤ c + y + 64 = ltb-false _ _ f.0 in
          let few : n + z ≤ 64 = ltb-false _ _ f.1 in
          missed ts (o + x) (c + y) (n + z) low few (rw on at h) (elim d [
            | inl (zero, more) ↦ absurd (omega (arith, more))
            | inl (suc k, more) ↦ inl (k, omega (arith, more, opened_on k t ts, closed_on k t ts))
            | inr more ↦ inr (omega (arith, more, nots_on t ts))
          ])
    ]

deep_yes : (toks : List Tok) → is_deep toks ≡ true → NestsTooDeep toks
unfolding is_deep
deep_yes toks h =
    elim (found toks 0 0 0
    h) [ inl (k, more) ↦ inl (k, omega (arith, more)) | inr more ↦ inr (omega (arith, more)) ]

deep_no : (toks : List Tok) → is_deep toks ≡ false → NestsTooDeep toks → ⊥
unfolding is_deep
deep_no toks h d = missed toks 0 0 0 (omega arith) (omega arith) h
    (elim d [ inl (k, more) ↦ inl (k, omega (arith, more)) | inr more ↦ inr (omega (arith, more)) ])

-- the walk's answer
pub deep_is : (toks : List Tok) → IsTrue (is_deep toks) ↔ NestsTooDeep toks
deep_is toks = elim (cases_Bool (is_deep toks)) [
  | inl yes_deep ↦ rw yes_deep ((λ _. deep_yes toks yes_deep), (λ _. refl))
  | inr no_deep ↦ rw no_deep ((λ h. absurd (cc)), (λ d. absurd (deep_no toks no_deep d)))
]
