-- Of paths in order, two overlap exactly where one begins with the one right before it.
use Rattle.std.proofs.Common.{◌≡◌, refl, sym, ap, subst, ◌∙◌, ℕ, suc, ◌+◌, ◌<◌, Bool, true, false, ◌&&◌, ◌||◌, cond, List, [], ◌∷◌, map, length, get_or, arith}
use Rattle.std.specs.Prelude.{sum_by}
use Rattle.std.specs.List.{list_any, starts_with}
use Rattle.std.specs.List.Sorted.{IsPermutation, IsSorted}
use Rattle.std.specs.declared.cmp.Ordering.{Ordering}
use Rattle.std.specs.declared.cmp.Ordering.TheVariants.{Less, Equal, Greater}
use Rattle.std.specs.Ordering.{is_lt, is_gt, is_eq, ordering_then, ordering_reverse}
use Rattle.std.specs.Cmp.{IsTotalOrder, upto}
use Rattle.std.specs.Cmp.Lexicographic.{slice_cmp, lists_total}
use Rattle.std.proofs.lemmas.List.Sums.{sum_by-cons}
use Rattle.std.proofs.lemmas.List.Sorted.{sum_by-IsPermutation, length_permutation, IsPermutation-map}
use Rattle.std.proofs.lemmas.Bool.{and_parts}
use Rattle.alt_expr.specs.Projected.{same_step}
use Rattle.alt_expr.specs.PartOrder.{parts_total, parts_tie, parts_equiv}
use Rattle.alt_expr.specs.PathOrder.{part_cmp, is_one_before, is_before_one}
use Rattle.alt_expr.specs.PathsGrammar.{overlap, some_overlap}
use Rattle.alt_expr.specs.declared.path.PathPart.{PathPart}

abbrev begins : List PathPart → List PathPart → Bool
begins = starts_with same_step

abbrev path_cmp : List PathPart → List PathPart → Ordering
path_cmp = slice_cmp part_cmp

-- ---- in order

tied : (s t : PathPart) → same_step s t ≡ true → part_cmp s t ≡ Equal
tied s t e = equal (part_cmp s t) (sym (parts_tie s t) ∙ e)
  where
    equal : (r : Ordering) → is_eq r ≡ true → r ≡ Equal
    equal Less e = cc
    equal Equal e = refl
    equal Greater e = cc

one_step : (s t : PathPart) → part_cmp s t ≡ Equal → same_step s t ≡ true
one_step s t e = parts_tie s t ∙ ap is_eq e

-- a path between two of which the later begins with the earlier begins with it too
between : (a b c : List PathPart) → is_lt (path_cmp b a) ≡ false → is_lt (path_cmp c b) ≡ false
    → begins c a ≡ true → begins b a ≡ true
between [] b c below above e = refl
between (s ∷ ss) [] c below above e = cc
between (s ∷ ss) (u ∷ us) [] below above e = cc
between (s ∷ ss) (u ∷ us) (t ∷ ts) below above e =
    let p = and_parts (same_step s t) (begins ts ss) e in
    let st = tied s t p.0 in
    by (between ss us ts) (part_cmp u s) refl st p.1
  where
    by : (is_lt (path_cmp us ss) ≡ false → is_lt (path_cmp ts us) ≡ false → begins ts ss ≡ true
        → begins us ss ≡ true)
        → (r : Ordering) → part_cmp u s ≡ r → part_cmp s t ≡ Equal → begins ts ss ≡ true
        → begins (u ∷ us) (s ∷ ss) ≡ true
    by next Less is st more = let e : is_lt (ordering_then Less (path_cmp us ss))
        ≡ false = ap (λ r. is_lt (ordering_then r (path_cmp us ss))) (sym is) ∙ below in cc
    by next Equal is st more =
        let ut : part_cmp t u ≡ Equal = parts_total.antisymm t u
        ∙ ap ordering_reverse (parts_total.congr u s t is ∙ st) in
        let below' : is_lt (path_cmp us ss) ≡ false =
        ap (λ r. is_lt (ordering_then r (path_cmp us ss))) (sym is) ∙ below in
        let above' : is_lt (path_cmp ts us) ≡ false =
        ap (λ r. is_lt (ordering_then r (path_cmp ts us))) (sym ut) ∙ above in
        let su : same_step s u ≡ true = parts_equiv.symm s u ∙ one_step u s is in
        ap (λ b. b && begins us ss) su ∙ next below' above' more
    by next Greater is st more =
        let tu : part_cmp t u ≡ Less = sym (parts_total.congr s t u st) ∙ parts_total.antisymm s u
        ∙ ap ordering_reverse is in
        let e : is_lt (ordering_then Less (path_cmp ts us))
        ≡ false = ap (λ r. is_lt (ordering_then r (path_cmp ts us))) (sym tu) ∙ above in
        cc

-- of two paths in order that overlap, the later begins with the earlier
later_begins : (a c : List PathPart) → is_lt (path_cmp c a) ≡ false → begins a c ≡ true
    → begins c a ≡ true
later_begins [] c below e = refl
later_begins (s ∷ ss) [] below e = cc
later_begins (s ∷ ss) (t ∷ ts) below e =
    let p = and_parts (same_step t s) (begins ss ts) e in
    let below' : is_lt (path_cmp ts ss) ≡ false =
    ap (λ r. is_lt (ordering_then r (path_cmp ts ss))) (sym (tied t s p.0)) ∙ below in
    ap (λ b. b && begins ts ss) (parts_equiv.symm s t ∙ p.0) ∙ later_begins ss ts below' p.1

overlap_begins : (a c : List PathPart) → is_lt (path_cmp c a) ≡ false → overlap a c ≡ begins c a
overlap_begins a c below = by (begins c a) (begins a c) (later_begins a c below)
  where
    by : (x y : Bool) → (y ≡ true → x ≡ true) → (x || y) ≡ x
    by true y f = refl
    by false true f = let e : false ≡ true = f refl in cc
    by false false f = refl

-- each path isn't below the one before it
abbrev Rising : List PathPart → List (List PathPart) → Type 0
Rising a [] = Unit {0}
Rising a (b ∷ bs) = (is_lt (path_cmp b a) ≡ false) × Rising b bs

paths_total : IsTotalOrder path_cmp
paths_total = lists_total parts_total

turned : (a b : List PathPart) → is_gt (path_cmp a b) ≡ is_lt (path_cmp b a)
turned a b = ap is_gt (paths_total.antisymm a b) ∙ reversed (path_cmp b a)
  where
    reversed : (r : Ordering) → is_gt (ordering_reverse r) ≡ is_lt r
    reversed Less = refl
    reversed Equal = refl
    reversed Greater = refl

-- the order goes over a path between
over : (a b c : List PathPart) → is_lt (path_cmp b a) ≡ false → is_lt (path_cmp c b) ≡ false
    → is_lt (path_cmp c a) ≡ false
over a b c below above =
    sym (turned a c) ∙ upto paths_total a b c (turned a b ∙ below) (turned b c ∙ above)

skip : (a b : List PathPart) (bs : List (List PathPart)) → is_lt (path_cmp b a) ≡ false
    → Rising b bs → Rising a bs
skip a b [] below r = tt
skip a b (c ∷ cs) below r = (over a b c below r.0, r.1)

-- what overlaps a path in order stands right behind it
right_behind : (a b : List PathPart) (bs : List (List PathPart)) → Rising a (b ∷ bs)
    → list_any (overlap a) (b ∷ bs) ≡ true → begins b a ≡ true
right_behind a b [] r e = sym (overlap_begins a b r.0) ∙ alone (overlap a b) e
  where
    alone : (x : Bool) → (x || false) ≡ true → x ≡ true
    alone true e = refl
    alone false e = cc
right_behind a b (c ∷ cs) r e =
    by (overlap a b) refl (right_behind a c cs (skip a b (c ∷ cs) r.0 r.1)) e
  where
    by : (x : Bool) → overlap a b ≡ x → (list_any (overlap a) (c ∷ cs) ≡ true → begins c a ≡ true)
        → (x || list_any (overlap a) (c ∷ cs)) ≡ true → begins b a ≡ true
    by true is next e = sym (overlap_begins a b r.0) ∙ is
    by false is next e = between a b c r.0 r.1.0 (next e)

nowhere : (x : Bool) → (x ≡ true → false ≡ true) → x ≡ false
nowhere true f = let e : false ≡ true = f refl in cc
nowhere false f = refl

in_order : (a : List PathPart) (bs : List (List PathPart)) → Rising a bs
    → some_overlap (a ∷ bs) ≡ is_one_before a bs
in_order a [] r = refl
in_order a (b ∷ bs) r = by (begins b a) refl (in_order b bs r.1)
  where
    by : (x : Bool) → begins b a ≡ x → some_overlap (b ∷ bs) ≡ is_one_before b bs
        → some_overlap (a ∷ b ∷ bs) ≡ (x || is_one_before b bs)
    by true is next = ap (λ y. (y || list_any (overlap a) bs) || some_overlap (b ∷ bs))
        (overlap_begins a b r.0 ∙ is)
    by false is next =
        ap (λ y. y || some_overlap (b ∷ bs))
        (nowhere (list_any (overlap a) (b ∷ bs)) (λ e. sym is ∙ right_behind a b bs r e)) ∙ next

module _ {X : Type 0} (at : X → List PathPart) where
  abbrev IsOrdered : List X → Type 0
  IsOrdered xs = IsSorted (λ x y. path_cmp (at x) (at y)) xs

  rising : (x : X) (xs : List X) → IsOrdered (x ∷ xs) → Rising (at x) (map at xs)
  rising x [] s = tt
  rising x (y ∷ ys) s = (
    s 0 x (omega arith) (omega arith),
    rising y ys (λ k d low high.
        let next : suc k + 1 ≡ suc (k + 1) = omega arith in
        subst (λ m. is_lt (path_cmp (at (get_or (x ∷ y ∷ ys) m d)) (at (get_or (y ∷ ys) k d)))
        ≡ false) next (s (suc k) d (omega arith) (omega (arith, high)))),
  )

  sorted : (xs : List X) → IsOrdered xs → some_overlap (map at xs) ≡ is_before_one (map at xs)
  sorted [] s = refl
  sorted (x ∷ xs) s = in_order (at x) (map at xs) (rising x xs s)

-- ---- in whatever order

abbrev one_if : Bool → ℕ
one_if b = cond b 1 0

-- how many of the paths a path overlaps
abbrev met_by : List (List PathPart) → List PathPart → ℕ
met_by ps p = sum_by (λ q. one_if (overlap p q)) ps

-- the same of each path, itself among them
abbrev meetings : List (List PathPart) → ℕ
meetings ps = sum_by (met_by ps) ps

-- all paths have as many meetings in whatever order
meetings_moved : (ps qs : List (List PathPart)) → IsPermutation ps qs → meetings qs ≡ meetings ps
meetings_moved ps qs moved =
    ap (λ f. sum_by f qs) (λ i p. sum_by-IsPermutation (λ q. one_if (overlap p q)) ps qs moved i)
    ∙ sum_by-IsPermutation (met_by ps) ps qs moved

-- as many meetings, or more where something overlaps
abbrev Counted : Bool → ℕ → ℕ → Type 0
Counted true n m = n < m
Counted false n m = m ≡ n

begins_itself : (p : List PathPart) → begins p p ≡ true
begins_itself [] = refl
begins_itself (s ∷ ss) = ap (λ b. b && begins ss ss) (parts_equiv.refl s) ∙ begins_itself ss

meets_itself : (p : List PathPart) → overlap p p ≡ true
meets_itself p = ap (λ b. b || b) (begins_itself p)

turned_round : (p q : List PathPart) → overlap p q ≡ overlap q p
turned_round p q = or_turned (begins q p) (begins p q)
  where
    or_turned : (a b : Bool) → (a || b) ≡ (b || a)
    or_turned true true = refl
    or_turned true false = refl
    or_turned false true = refl
    or_turned false false = refl

any_met : (p : List PathPart) (qs : List (List PathPart))
    → Counted (list_any (overlap p) qs) 0 (met_by qs p)
any_met p [] = refl
any_met p (q ∷ qs) = by (overlap p q) refl (any_met p qs)
  where
    by : (b : Bool) → overlap p q ≡ b → Counted (list_any (overlap p) qs) 0 (met_by qs p)
        → Counted (b || list_any (overlap p) qs) 0 (met_by (q ∷ qs) p)
    by true is next =
        let e : met_by (q ∷ qs) p ≡ 1 + met_by qs p = sum_by-cons (λ r. one_if (overlap p r)) q qs
        ∙ ap (λ b. one_if b + met_by qs p) is in
        omega (arith, e)
    by false is next =
        let e : met_by (q ∷ qs) p ≡ 0 + met_by qs p = sum_by-cons (λ r. one_if (overlap p r)) q qs
        ∙ ap (λ b. one_if b + met_by qs p) is in
        let f : met_by qs p ≡ met_by (q ∷ qs) p = omega (arith, e) in
        subst (Counted (list_any (overlap p) qs) 0) f next

sum_of_both : (f g : List PathPart → ℕ) (ps : List (List PathPart))
    → sum_by (λ p. f p + g p) ps ≡ sum_by f ps + sum_by g ps
sum_of_both f g [] = refl
sum_of_both f g (p ∷ ps) = omega (arith, sum_by-cons (λ p. f p + g p) p ps, sum_by-cons f p ps, sum_by-cons g p ps, sum_of_both f g ps)

-- one path more meets itself, and each that it overlaps meets it too
one_more : (x : List PathPart) (xs : List (List PathPart))
    → meetings (x ∷ xs) ≡ 1 + met_by xs x + (met_by xs x + meetings xs)
one_more x xs =
    let own : met_by (x ∷ xs) x ≡ 1 + met_by xs x = sum_by-cons (λ q. one_if (overlap x q)) x xs
    ∙ ap (λ b. one_if b + met_by xs x) (meets_itself x) in
    let each : met_by (x ∷ xs) ≡ (λ p. one_if (overlap x p) + met_by xs p) =
    λ i p. (sum_by-cons (λ q. one_if (overlap p q)) x xs
    ∙ ap (λ b. one_if b + met_by xs p) (turned_round p x)) i in
    let others : sum_by (met_by (x ∷ xs)) xs ≡ met_by xs x + meetings xs =
    ap (λ f. sum_by f xs) each ∙ sum_of_both (λ p. one_if (overlap x p)) (met_by xs) xs in
    omega (arith, sum_by-cons (met_by (x ∷ xs)) x xs, own, others)

-- a path meets itself, and more meetings than paths are an overlap
counted : (ps : List (List PathPart)) → Counted (some_overlap ps) (length ps) (meetings ps)
counted [] = refl
counted (p ∷ ps) =
    subst (Counted (some_overlap (p ∷ ps)) (suc (length ps))) (sym (one_more p ps))
    (joined (list_any (overlap p) ps) (some_overlap ps) (length ps) (met_by ps p) (meetings ps)
    (any_met p ps) (counted ps))
  where
    joined : (a b : Bool) (n m all : ℕ) → Counted a 0 m → Counted b n all
        → Counted (a || b) (suc n) (1 + m + (m + all))
    joined true true n m all h g = omega (arith, h, g)
    joined true false n m all h g = omega (arith, h, g)
    joined false true n m all h g = omega (arith, h, g)
    joined false false n m all h g = omega (arith, h, g)

-- paths overlap in whatever order they stand
moved : (ps qs : List (List PathPart)) → IsPermutation ps qs → some_overlap ps ≡ some_overlap qs
moved ps qs p =
    same (some_overlap ps) (some_overlap qs) (length ps) (meetings ps) (counted ps)
    (subst (λ m. Counted (some_overlap qs) (length ps) m) (meetings_moved ps qs p)
    (subst (λ n. Counted (some_overlap qs) n (meetings qs)) (length_permutation ps qs p)
    (counted qs)))
  where
    same : (a b : Bool) (n m : ℕ) → Counted a n m → Counted b n m → a ≡ b
    same true true n m h g = refl
    same false false n m h g = refl
    same true false n m h g = absurd (omega (arith, h, g))
    same false true n m h g = absurd (omega (arith, h, g))

-- paths overlap exactly where, once they are put in order, one begins with the one right before it
pub overlap_sorted : {X : Type 0} (at : X → List PathPart) (xs ys : List X) → IsPermutation xs ys
    → IsSorted (λ x y. path_cmp (at x) (at y)) ys
    → some_overlap (map at xs) ≡ is_before_one (map at ys)
overlap_sorted at xs ys p s = moved (map at xs) (map at ys) (IsPermutation-map at xs ys p)
    ∙ sorted at ys s
