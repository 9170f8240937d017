-- A list with edits within it, by the indexes that they name.
use Rattle.std.proofs.Common.{◌≡◌, refl, sym, ap, ◌∙◌, ℕ, suc, ◌+◌, ◌≤◌, Bool, true, false, cond, T, List, [], ◌∷◌, ◌++◌, map, take, length, Option, Some, None, arith}
use Rattle.std.specs.Prelude.{option_to_list, nat_le, ◌==◌, if◌then◌else◌}
use Rattle.std.specs.List.{AllByRecursion}
use Rattle.std.specs.List.Sorted.{IsStrictlySortedBy}
use Rattle.std.specs.Map.{lookup, keys_of}
use Rattle.std.specs.Option.{option_or}
use Rattle.std.specs.Ordering.{eq_by_cmp, is_eq, nat_cmp}
use Rattle.std.specs.Cmp.{nat_cmp_total, unsigned_ties}
use Rattle.std.specs.FinMap.{nat_cmp-IsAntisymmetric}
use Rattle.std.specs.FinMap.Entries.{find, put, below_all, is_sorted, is_sorted-put, find-put, same_entries}
use Rattle.std.specs.declared.cmp.Ordering.TheVariants.{Less}
use Rattle.std.proofs.lemmas.List.{append_assoc, append-nil, map-append}
use Rattle.alt_base.proofs.Bools.{both_hold}
use Rattle.alt_base.proofs.Lists.{length-front}
use Rattle.alt_base.proofs.Orderings.{less-holds, is_eq-true}
use Rattle.alt_value.specs.Tree.{Tree, trees_of, elements}
use Rattle.alt_expr.specs.declared.path.PathPart.TheVariants.{Name, Index}
use Rattle.alt_expr.specs.Updated.{Edit, under, changed, changed_elements, put_here, elements_past_end}
use Rattle.alt_expr.proofs.Picked.{elements-then, passed}
use Rattle.alt_updeval.specs.Shown.{indexed_edits, edits_past_end}
use Rattle.alt_updeval.proofs.Under.{at_key, at_filter, indexed-under}

-- what becomes of elements from i on
abbrev pub walked : (ℕ → List Edit) → ℕ → List Tree → List Tree
walked edits i [] = []
walked edits i (t ∷ ts) = option_to_list (changed (edits i) t) ++ walked edits (suc i) ts

-- a walk over a list makes of it what the edits do
pub walked-elements : (es : List Edit) (i : ℕ) (ts : List Tree)
    → walked (λ k. under (Index k) es) i ts ≡ elements (changed_elements es i (trees_of ts))
walked-elements es i [] = refl
walked-elements es i (t ∷ ts) =
    ap (λ (l : List Tree). option_to_list (changed (under (Index i) es) t) ++ l)
    (walked-elements es (suc i) ts)
    ∙ sym (elements-then (changed (under (Index i) es) t)
    (changed_elements es (suc i) (trees_of ts)))

-- walks by the same edits make the same
pub walked-same : (f g : ℕ → List Edit) (i : ℕ) (ts : List Tree) → ((k : ℕ) → f k ≡ g k)
    → walked f i ts ≡ walked g i ts
walked-same f g i [] e = refl
walked-same f g i (t ∷ ts) e =
    λ j. option_to_list (changed (e i j) t) ++ walked-same f g (suc i) ts e j

-- a walk goes on with what its edits make of one element more
walked-append : (f : ℕ → List Edit) (i n : ℕ) (ts : List Tree) (t : Tree) → n ≡ i + length ts
    → walked f i (ts ++ t ∷ []) ≡ walked f i ts ++ option_to_list (changed (f n) t)
walked-append f i n [] t e =
    append-nil (option_to_list (changed (f i) t))
    ∙ ap (λ k. option_to_list (changed (f k) t)) (let same : i ≡ n = omega (arith, e) in same)
walked-append f i n (s ∷ ts) t e =
    let rest : n ≡ suc i + length ts = omega (arith, e) in
    ap (λ (l : List Tree). option_to_list (changed (f i) s) ++ l)
    (walked-append f (suc i) n ts t rest)
    ∙ sym (append_assoc (option_to_list (changed (f i) s)) (walked f (suc i) ts)
    (option_to_list (changed (f n) t)))

-- one element more
pub walked-more : (f : ℕ → List Edit) (xs : List Tree) (i : ℕ) (t : Tree) → i ≤ length xs
    → take (i + 1) xs ≡ take i xs ++ t ∷ []
    → walked f 0 (take (i + 1) xs) ≡ walked f 0 (take i xs) ++ option_to_list (changed (f i) t)
walked-more f xs i t le e =
    let place : i ≡ 0 + length (take i xs) = omega (arith, length-front xs i le) in
    ap (walked f 0) e ∙ walked-append f 0 i (take i xs) t place

-- ---- what is put past the end

sorted-past : (n : ℕ) (es : List Edit) → T (is_sorted nat_cmp (elements_past_end n es))
sorted-past n [] = tt
sorted-past n ((Index i ∷ [], Some t) ∷ es) =
    elim (nat_le n i) as (λ b. T
    (is_sorted nat_cmp (if b then put nat_cmp i t (elements_past_end n es) else elements_past_end n es))) [
      | true ↦ is_sorted-put nat_cmp nat_cmp_total i t (elements_past_end n es) (sorted-past n es)
      | false ↦ sorted-past n es
    ]
sorted-past n (_ ∷ es) = sorted-past n es

same_index : (q i : ℕ) → eq_by_cmp nat_cmp q i ≡ true → q ≡ i
same_index q i e = nat_cmp-IsAntisymmetric q i (is_eq-true (nat_cmp q i) e)

abbrev from_n : ℕ → ℕ → Option Tree → Option Tree
from_n n q o = if nat_le n q then o else None

nothing : (b : Bool) → ◌≡◌ {A = Option Tree} None (if b then None else None)
nothing true = refl
nothing false = refl

-- an index past the end that is put, or isn't
at_past : (n q i : ℕ) (t : Tree) (es : List Edit)
    → find nat_cmp q (elements_past_end n es) ≡ from_n n q (put_here (under (Index q) es))
    → find nat_cmp q (if nat_le n i then put nat_cmp i t (elements_past_end n es) else elements_past_end n es)
    ≡ from_n n q (put_here (cond (q == i) (([], Some t) ∷ []) [] ++ under (Index q) es))
at_past n q i t es rest =
    let told : eq_by_cmp nat_cmp q i ≡ (q == i) = sym (unsigned_ties q i) in
    elim (eq_by_cmp nat_cmp q i) as (λ b. eq_by_cmp nat_cmp q i ≡ b
    → find nat_cmp q (if nat_le n i then put nat_cmp i t (elements_past_end n es) else elements_past_end n es)
    ≡ from_n n q (put_here (cond b (([], Some t) ∷ []) [] ++ under (Index q) es))) [
      | true ↦ λ e.
          let same = same_index q i e in
          elim (nat_le n i) as (λ b. nat_le n i ≡ b
          → find nat_cmp q (if b then put nat_cmp i t (elements_past_end n es) else elements_past_end n es)
          ≡ from_n n q (Some t)) [
            | true ↦ λ le. find-put nat_cmp nat_cmp_total q i t (elements_past_end n es)
                ∙ ap (λ b. cond b (Some t) (find nat_cmp q (elements_past_end n es))) e
                ∙ ap (λ b. if b then Some t else None) (sym (ap (nat_le n) same ∙ le))
            | false ↦ λ gt. rest ∙ ap (λ b. if b then put_here (under (Index q) es) else None)
                (ap (nat_le n) same ∙ gt)
                ∙ ap (λ b. if b then Some t else None) (sym (ap (nat_le n) same ∙ gt))
          ] refl
      | false ↦ λ e.
          elim (nat_le n i) as (λ b. find nat_cmp q
          (if b then put nat_cmp i t (elements_past_end n es) else elements_past_end n es)
          ≡ from_n n q (put_here (under (Index q) es))) [
            | true ↦ find-put nat_cmp nat_cmp_total q i t (elements_past_end n es)
                ∙ ap (λ b. cond b (Some t) (find nat_cmp q (elements_past_end n es))) e ∙ rest
            | false ↦ rest
          ]
    ] refl ∙ ap (λ b. from_n n q (put_here (cond b (([], Some t) ∷ []) [] ++ under (Index q) es)))
    told

find-past : (n q : ℕ) (es : List Edit) → find nat_cmp q (elements_past_end n es)
    ≡ from_n n q (put_here (under (Index q) es))
find-past n q [] = nothing (nat_le n q)
find-past n q (([], v) ∷ es) = find-past n q es
find-past n q ((Name name ∷ ps, v) ∷ es) = find-past n q es
find-past n q ((Index i ∷ [], Some t) ∷ es) = at_past n q i t es (find-past n q es)
find-past n q ((Index i ∷ [], None) ∷ es) =
    find-past n q es
    ∙ ap (from_n n q) (passed ([], None) (under (Index q) es) (q == i) (λ vs. refl))
find-past n q ((Index i ∷ p ∷ ps, v) ∷ es) =
    find-past n q es
    ∙ ap (from_n n q) (passed (p ∷ ps, v) (under (Index q) es) (q == i) (λ vs. refl))

module _ {V : Type 0} (edits : V → List Edit) where
  -- entries with this one in front, if it has a value
  abbrev pub kept : ℕ → Option Tree → List (ℕ × Tree) → List (ℕ × Tree)
  kept k None ps = ps
  kept k (Some t) ps = (k, t) ∷ ps

  -- what groups of edits put, by their keys
  abbrev pub puts : List (ℕ × V) → List (ℕ × Tree)
  puts [] = []
  puts (g ∷ gs) = kept g.0 (put_here (edits g.1)) (puts gs)

  -- what is kept in front stays in front
  kept-append : (k : ℕ) (o : Option Tree) (ps qs : List (ℕ × Tree))
      → kept k o (ps ++ qs) ≡ kept k o ps ++ qs
  kept-append k None ps qs = refl
  kept-append k (Some t) ps qs = refl

  puts-append : (gs hs : List (ℕ × V)) → puts (gs ++ hs) ≡ puts gs ++ puts hs
  puts-append [] hs = refl
  puts-append (g ∷ gs) hs =
      ap (kept g.0 (put_here (edits g.1))) (puts-append gs hs)
      ∙ kept-append g.0 (put_here (edits g.1)) (puts gs) (puts hs)

  values_of_kept : (k : ℕ) (o : Option Tree) → map (λ (p : ℕ × Tree). p.1) (kept k o [])
      ≡ option_to_list o
  values_of_kept k None = refl
  values_of_kept k (Some t) = refl

  -- one group more
  pub puts-more : (base before now : List Tree) (gs : List (ℕ × V)) (g : ℕ × V)
      → before ≡ base ++ map (λ (p : ℕ × Tree). p.1) (puts gs)
      → now ≡ before ++ option_to_list (put_here (edits g.1))
      → now ≡ base ++ map (λ (p : ℕ × Tree). p.1) (puts (gs ++ g ∷ []))
  puts-more base before now gs g was put =
      put ∙ ap (λ (l : List Tree). l ++ option_to_list (put_here (edits g.1))) was
      ∙ append_assoc base (map (λ (p : ℕ × Tree). p.1) (puts gs))
      (option_to_list (put_here (edits g.1)))
      ∙ ap (λ (l : List Tree). base ++ l)
      (ap (λ (l : List Tree). map (λ (p : ℕ × Tree). p.1) (puts gs) ++ l)
      (sym (values_of_kept g.0 (put_here (edits g.1))))
      ∙ sym (map-append (λ (p : ℕ × Tree). p.1) (puts gs) (puts (g ∷ [])))
      ∙ ap (map (λ (p : ℕ × Tree). p.1)) (sym (puts-append gs (g ∷ []))))

  -- a key below all entries is below what is kept of them
  below-kept : (x k : ℕ) (o : Option Tree) (ps : List (ℕ × Tree)) → nat_cmp x k ≡ Less
      → T (below_all nat_cmp x ps) → T (below_all nat_cmp x (kept k o ps))
  below-kept x k None ps p h = h
  below-kept x k (Some t) ps p h = both_hold _ _ (less-holds _ p) h

  below-puts : (x : ℕ) (gs : List (ℕ × V)) → AllByRecursion (λ y. nat_cmp x y ≡ Less) (keys_of gs)
      → T (below_all nat_cmp x (puts gs))
  below-puts x [] a = tt
  below-puts x (g ∷ gs) a =
      below-kept x g.0 (put_here (edits g.1)) (puts gs) a.0 (below-puts x gs a.1)

  sorted-kept : (k : ℕ) (o : Option Tree) (ps : List (ℕ × Tree)) → T (below_all nat_cmp k ps)
      → T (is_sorted nat_cmp ps) → T (is_sorted nat_cmp (kept k o ps))
  sorted-kept k None ps b h = h
  sorted-kept k (Some t) ps b h = both_hold _ _ b h

  sorted-puts : (gs : List (ℕ × V)) → IsStrictlySortedBy nat_cmp (keys_of gs)
      → T (is_sorted nat_cmp (puts gs))
  unfolding IsStrictlySortedBy
  sorted-puts [] s = tt
  sorted-puts (g ∷ gs) s =
      sorted-kept g.0 (put_here (edits g.1)) (puts gs) (below-puts g.0 gs s.0) (sorted-puts gs s.1)

  abbrev put_of : Option V → Option Tree
  put_of None = None
  put_of (Some v) = put_here (edits v)

  none_below : (k : ℕ) (gs : List (ℕ × V)) → AllByRecursion (λ y. nat_cmp k y ≡ Less) (keys_of gs)
      → lookup (eq_by_cmp nat_cmp k) gs ≡ None
  none_below k [] a = refl
  none_below k (g ∷ gs) a = ap (λ r. cond (is_eq r) (Some g.1) (lookup (eq_by_cmp nat_cmp k) gs))
      a.0 ∙ none_below k gs a.1

  first_put : (q k : ℕ) (o : Option Tree) (ps : List (ℕ × Tree))
      → find nat_cmp q (kept k o ps) ≡ cond (eq_by_cmp nat_cmp q k)
      (option_or o (find nat_cmp q ps)) (find nat_cmp q ps)
  first_put q k None ps = elim (eq_by_cmp nat_cmp q k) as (λ b. find nat_cmp q ps
      ≡ cond b (find nat_cmp q ps) (find nat_cmp q ps)) [ true ↦ refl | false ↦ refl ]
  first_put q k (Some t) ps = refl

  first_none : (o : Option Tree) → option_or o None ≡ o
  first_none None = refl
  first_none (Some t) = refl

  find-puts : (q : ℕ) (gs : List (ℕ × V)) → IsStrictlySortedBy nat_cmp (keys_of gs)
      → find nat_cmp q (puts gs) ≡ put_of (lookup (eq_by_cmp nat_cmp q) gs)
  unfolding IsStrictlySortedBy
  find-puts q [] s = refl
  find-puts q (g ∷ gs) s =
      let rest = find-puts q gs s.1 in
      first_put q g.0 (put_here (edits g.1)) (puts gs) ∙
      elim (eq_by_cmp nat_cmp q g.0) as (λ b. eq_by_cmp nat_cmp q g.0 ≡ b
      → cond b (option_or (put_here (edits g.1)) (find nat_cmp q (puts gs)))
      (find nat_cmp q (puts gs)) ≡ put_of
      (cond b (Some g.1) (lookup (eq_by_cmp nat_cmp q) gs))) [
        | true ↦ λ e.
            let same = same_index q g.0 e in
            let gone : lookup (eq_by_cmp nat_cmp q) gs
            ≡ None = ap (λ k. lookup (eq_by_cmp nat_cmp k) gs) same ∙ none_below g.0 gs s.0 in
            ap (option_or (put_here (edits g.1))) (rest ∙ ap put_of gone)
            ∙ first_none (put_here (edits g.1))
        | false ↦ λ e. rest
      ] refl

  -- the edits of a group, if there is one
  abbrev pub edits_of : Option V → List Edit
  edits_of None = []
  edits_of (Some v) = edits v

  -- what a group puts is what its edits put here
  put_edits : (o : Option V) → put_of o ≡ put_here (edits_of o)
  put_edits None = refl
  put_edits (Some v) = refl

  -- Groups from an index on put what is put past the end.
  pub puts-past : (n : ℕ) (es : List Edit) (gs : List (ℕ × V))
      → IsStrictlySortedBy nat_cmp (keys_of gs)
      → ((q : ℕ) → edits_of (lookup (eq_by_cmp nat_cmp q) gs)
      ≡ (if nat_le n q then under (Index q) es else [])) → puts gs ≡ elements_past_end n es
  puts-past n es gs s held =
      same_entries nat_cmp nat_cmp_total nat_cmp-IsAntisymmetric (puts gs) (elements_past_end n es)
      (sorted-puts gs s) (sorted-past n es)
      (λ q. find-puts q gs s ∙ put_edits (lookup (eq_by_cmp nat_cmp q) gs) ∙ ap put_here (held q)
      ∙ chosen (nat_le n q) (under (Index q) es) ∙ sym (find-past n q es))
    where
      chosen : (b : Bool) (us : List Edit) → put_here (if b then us else [])
          ≡ (if b then put_here us else None)
      chosen true us = refl
      chosen false us = refl

-- the edits past the end at an index are those at it, or none
pub past-under : (n k : ℕ) (es : List Edit) → at_key (λ i. eq_by_cmp nat_cmp i k)
    (edits_past_end n (indexed_edits es)) ≡ (if nat_le n k then under (Index k) es else [])
past-under n k es =
    at_filter nat_cmp nat_cmp-IsAntisymmetric (nat_le n) k (indexed_edits es)
    ∙ ap (λ (l : List Edit). if nat_le n k then l else []) (indexed-under k es)
