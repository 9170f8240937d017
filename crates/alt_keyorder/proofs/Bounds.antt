-- The keys under a prefix lie between it and its bound.
use Rattle.std.proofs.Common.{◌≡◌, ℕ, ◌+◌, ◌<◌, List, [], ◌∷◌, ◌++◌, refl, sym, ap, ◌∙◌, subst, inl, inr, arith, append_assoc, ◌≢◌, Ordering}
use Rattle.std.specs.declared.cmp.Ordering.TheVariants.{Less, Equal, Greater}
use Rattle.std.specs.Ordering.{ordering_reverse}
use Rattle.std.specs.Cmp.Lexicographic.{nat_list_cmp_total}
use Rattle.std.proofs.lemmas.Bool.{cases_order}
use Rattle.std.proofs.lemmas.List.{append-nil}
use Rattle.alt_base.specs.Prefix.{IsPrefix}
use Rattle.alt_base.proofs.Orderings.{nat_cmp-equal, nat_cmp-greater, nat_cmp-less}
use Rattle.alt_value.specs.Members.{text_order}
use Rattle.alt_keyorder.specs.Range.{IsByteString, IsBelow, IsBoundOf, AreHighestBytes, IsUpTo}
use Rattle.alt_keyorder.proofs.Parts.{text_order-refl}

-- bytes up to some that are below others are below these
pub up_to_below : (a b c : List ℕ) → IsUpTo a b → IsBelow b c → IsBelow a c
up_to_below a b c p q = by (text_order a b) refl p
  where
    by : (o : Ordering) → text_order a b ≡ o → o ≢ Greater → text_order a c ≡ Less
    by Less is h = nat_list_cmp_total.trans a b c is q
    by Equal is h = nat_list_cmp_total.congr a b c is ∙ q
    by Greater is h = absurd (h refl)

-- no bytes are up to others and above them
pub up_to_not_above : (a b : List ℕ) → IsUpTo a b → IsBelow b a → ⊥
up_to_not_above a b p q = p (nat_list_cmp_total.antisymm a b ∙ ap ordering_reverse q)

-- behind the front the prefix has bytes 255 alone
pub record IsEnd (front prefix : List ℕ) : Type 0 where
  pub behind : List ℕ
  pub is : prefix ≡ front ++ behind
  pub full : AreHighestBytes behind

-- bytes up to the bound, where it is at the front, and behind it
pub end_at_first : (s : List ℕ) → IsEnd s s
end_at_first s = record { behind = []; is = sym (append-nil s); full = tt }

-- a last byte of 255 is one of those behind: the prefix is what stands before it, and then bytes of 255
pub end_before : (front before prefix : List ℕ) (last : ℕ) → front ≡ before ++ last ∷ []
    → last ≡ 255 → IsEnd front prefix → IsEnd before prefix
end_before front before prefix last e high h = record {
  behind = last ∷ h.behind;
  is = h.is ∙ ap (λ s. s ++ h.behind) e ∙ append_assoc before (last ∷ []) h.behind;
  full = (high, h.full);
}

-- the bound of bytes that begin with it
pub bound_here : (front before prefix : List ℕ) (last : ℕ) → front ≡ before ++ last ∷ []
    → last < 255 → IsEnd front prefix → IsBoundOf before last prefix
bound_here front before prefix last e low h = record {
  behind = h.behind;
  is = h.is ∙ ap (λ s. s ++ h.behind) e ∙ append_assoc before (last ∷ []) h.behind;
  full = h.full;
  below = low;
}

-- bytes of which each is 255
pub all_full : (prefix : List ℕ) → IsEnd [] prefix → AreHighestBytes prefix
all_full prefix h = rw h.is h.full

-- less isn't greater
less-greater : Less ≡ Greater → ⊥
less-greater e = cc

equal-greater : Equal ≡ Greater → ⊥
equal-greater e = cc

greater-less : Greater ≡ Less → ⊥
greater-less e = cc

-- the order of bytes with one front
pub text_order-front : (f s t : List ℕ) → text_order (f ++ s) (f ++ t) ≡ text_order s t
text_order-front [] s t = refl
text_order-front (x ∷ f) s t = rw (nat_cmp-equal x x refl) (text_order-front f s t)

-- bytes are up to those that go on from them
pub up_to_append : (s r : List ℕ) → IsUpTo s (s ++ r)
up_to_append [] [] = equal-greater
up_to_append [] (x ∷ r) = less-greater
up_to_append (x ∷ s) r = rw (nat_cmp-equal x x refl) (up_to_append s r)

-- what is not below bytes 255 begins with them
pub above_full : (t k : List ℕ) → AreHighestBytes t → IsByteString k → IsUpTo t k → IsPrefix t k
above_full [] k full bytes h = (k, refl)
above_full (x ∷ t) [] full bytes h = absurd (h refl)
above_full (x ∷ t) (y ∷ k) full bytes h = elim (cases_order x y) [
  | inl e ↦
      let more = above_full t k full.1 bytes.1 (rw (nat_cmp-equal x y e) at h) in
      (more.0, (λ i. sym e i ∷ more.1 i))
  | inr o ↦ elim o [
    | inl lt ↦ absurd (omega (arith, full.0, bytes.0))
    | inr gt ↦ absurd ((rw (nat_cmp-greater x y gt) at h) refl)
  ]
]

-- nothing is below no bytes
pub never_below_nothing : (k : List ℕ) → IsBelow k [] → ⊥
never_below_nothing [] h = let e : Equal ≡ Less = h in absurd (cc)
never_below_nothing (x ∷ k) h = greater-less h

-- what lies between a prefix and its bound begins with the prefix
pub between : (f : List ℕ) (x : ℕ) (t k : List ℕ) → AreHighestBytes t → IsByteString k → IsUpTo (f ++ x ∷ t) k
    → IsBelow k (f ++ (x + 1) ∷ []) → IsPrefix (f ++ x ∷ t) k
between [] x t [] full bytes h below = absurd (h refl)
between [] x t (y ∷ k) full bytes h below = elim (cases_order x y) [
  | inl e ↦
      let more = above_full t k full bytes.1 (rw (nat_cmp-equal x y e) at h) in
      (more.0, (λ i. sym e i ∷ more.1 i))
  | inr o ↦ elim o [
    | inl lt ↦ elim (cases_order y (x + 1)) [
      | inl e ↦ absurd (never_below_nothing k (rw (nat_cmp-equal y (x + 1) e) at below))
      | inr p ↦ elim p [
        | inl less ↦ absurd (omega (arith, less, lt))
        | inr more ↦ absurd (greater-less (rw (nat_cmp-greater y (x + 1) more) at below))
      ]
    ]
    | inr gt ↦ absurd ((rw (nat_cmp-greater x y gt) at h) refl)
  ]
]
between (a ∷ f) x t [] full bytes h below = absurd (h refl)
between (a ∷ f) x t (y ∷ k) full bytes h below = elim (cases_order a y) [
  | inl e ↦
      let more = between f x t k full bytes.1 (rw (nat_cmp-equal a y e) at h)
      (rw (nat_cmp-equal y a (sym e)) at below) in
      (more.0, (λ i. sym e i ∷ more.1 i))
  | inr o ↦ elim o [
    | inl lt ↦ absurd (greater-less (rw (nat_cmp-greater y a lt) at below))
    | inr gt ↦ absurd ((rw (nat_cmp-greater a y gt) at h) refl)
  ]
]

-- what begins with a prefix lies below its bound
pub below_bound : (f : List ℕ) (x : ℕ) (t r : List ℕ)
    → IsBelow ((f ++ x ∷ t) ++ r) (f ++ (x + 1) ∷ [])
below_bound f x t r =
    ap (λ s. text_order s (f ++ (x + 1) ∷ [])) (append_assoc f (x ∷ t) r)
    ∙ text_order-front f ((x ∷ t) ++ r) ((x + 1) ∷ [])
    ∙ rw (nat_cmp-less x (x + 1) (omega arith)) refl

-- each byte of a full prefix is 255
full-last : (f : List ℕ) (x : ℕ) (t : List ℕ) → AreHighestBytes (f ++ x ∷ t) → x ≡ 255
full-last [] x t full = full.0
full-last (y ∷ f) x t full = full-last f x t full.1

-- a prefix with a bound isn't full
pub bound-not_full : (f : List ℕ) (x : ℕ) (p : List ℕ) → IsBoundOf f x p → AreHighestBytes p → ⊥
bound-not_full f x p h full =
    let e : x ≡ 255 = full-last f x h.behind (let P : List ℕ
    → Type 0 = λ s. AreHighestBytes s in subst P h.is full) in
    let low = h.below in
    omega (arith, e, low)

-- the keys under a prefix lie from it on and below its bound
pub under_from_range : (f : List ℕ) (x : ℕ) (p b k : List ℕ) → IsBoundOf f x p
    → b ≡ f ++ (x + 1) ∷ [] → IsByteString k
    → IsUpTo p k → IsBelow k b → IsPrefix p k
under_from_range f x p b k h e bytes low high =
    let P : List ℕ → Type 0 = λ s. IsUpTo s k in
    let Q : List ℕ → Type 0 = λ s. IsBelow k s in
    let under = between f x h.behind k h.full bytes (subst P h.is low) (subst Q e high) in
    (under.0, under.1 ∙ ap (λ s. s ++ under.0) (sym h.is))

-- the keys under a prefix are those of the range
pub range_from_under : (f : List ℕ) (x : ℕ) (p b k : List ℕ) → IsBoundOf f x p
    → b ≡ f ++ (x + 1) ∷ []
    → IsPrefix p k → IsUpTo p k × IsBelow k b
range_from_under f x p b k h e under = (
  (let P : List ℕ → Type 0 = λ s. IsUpTo p s in subst P (sym under.1) (up_to_append p under.0)),
  ap (λ s. text_order s b) (under.1 ∙ ap (λ s. s ++ under.0) h.is)
      ∙ ap (text_order ((f ++ x ∷ h.behind) ++ under.0)) e
      ∙ below_bound f x h.behind under.0,
)

-- where all bytes are 255 there is no end
pub full_range : (p k : List ℕ) → IsPrefix p k → IsUpTo p k
full_range p k under = let P : List ℕ → Type 0 = λ s. IsUpTo p s in
    subst P (sym under.1) (up_to_append p under.0)

-- what is below another is up to it
pub less-not_greater : (s t : List ℕ) → IsBelow s t → IsUpTo s t
less-not_greater s t h = λ g. less-greater (sym h ∙ g)

-- no bytes below the bound are above all keys under the prefix
pub bound_least : (f : List ℕ) (x : ℕ) (p b c : List ℕ) → IsBoundOf f x p → b ≡ f ++ (x + 1) ∷ []
    → IsByteString c
    → ((k : List ℕ) → IsPrefix p k → IsBelow k c) → IsUpTo b c
bound_least f x p b c h e bytes above = λ greater.
    let lower : IsBelow c b = nat_list_cmp_total.antisymm c b ∙ ap ordering_reverse greater in
    let under = under_from_range f x p b c h e bytes
    (less-not_greater p c (above p ([], sym (append-nil p)))) lower in
    let same : Less ≡ Equal = sym (above c under) ∙ text_order-refl c in
    absurd (cc)
