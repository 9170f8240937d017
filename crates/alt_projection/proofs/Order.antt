-- Where paths in rising order stand to a step.
use Rattle.std.proofs.Common.{◌≡◌, refl, sym, ap, ◌∙◌, ℕ, zero, suc, ◌<◌, ◌≤◌, Bool, true, false, ◌||◌, List, [], ◌∷◌, drop, length, get_or, nat_le, arith}
use Rattle.std.proofs.lemmas.Bool.{lt-leb as no, le-leb}
use Rattle.std.specs.List.{list_any}
use Rattle.std.specs.declared.cmp.Ordering.{Ordering}
use Rattle.std.specs.declared.cmp.Ordering.TheVariants.{Less, Equal, Greater}
use Rattle.std.specs.Ordering.{is_lt, is_le, ordering_then, ordering_reverse}
use Rattle.alt_base.proofs.Orderings.{is_lt-true, less-is_lt}
use Rattle.alt_value.proofs.Places.{less_tied}
use Rattle.alt_expr.specs.PathOrder.{part_cmp}
use Rattle.alt_expr.specs.PartOrder.{parts_total}
use Rattle.alt_expr.specs.Projected.{ends, is_chosen_whole}
use Rattle.alt_expr.specs.declared.path.PathPart.{PathPart}
use Rattle.alt_projection.specs.Ways.{path_cmp, side, tails, Rise}

-- a step that isn't above another is below it, or the same
upto : (p q : PathPart) (ps qs : List PathPart) {P : Type 0}
    → is_lt (ordering_then (part_cmp q p) (path_cmp qs ps)) ≡ false
    → (part_cmp p q ≡ Less → P) → (part_cmp p q ≡ Equal → P) → P
upto p q ps qs {P} rise under same = by (part_cmp p q) refl
  where
    by : (r : Ordering) → part_cmp p q ≡ r → P
    by Less e = under e
    by Equal e = same e
    by Greater e =
        let back : part_cmp q p ≡ Less = parts_total.antisymm q p ∙ ap ordering_reverse e in
        let no : is_lt (ordering_then Less (path_cmp qs ps)) ≡ false =
        ap (λ r. is_lt (ordering_then r (path_cmp qs ps))) (sym back) ∙ rise in
        cc

-- a path before one that stands below the step stands below it too
pub side_lt : (s : PathPart) (a b : List PathPart) → is_lt (path_cmp b a) ≡ false
    → is_lt (side s b) ≡ true → is_lt (side s a) ≡ true
side_lt s [] b rise e = refl
side_lt s (p ∷ ps) [] rise e = cc
side_lt s (p ∷ ps) (q ∷ qs) rise e =
    let qs' : part_cmp q s ≡ Less = is_lt-true (part_cmp q s) e in
    upto p q ps qs rise
    (λ lt. less-is_lt (part_cmp p s) (parts_total.trans p q s lt qs'))
    (λ eq. less-is_lt (part_cmp p s) (parts_total.congr p q s eq ∙ qs'))

-- the same of one that doesn't stand above it
pub side_le : (s : PathPart) (a b : List PathPart) → is_lt (path_cmp b a) ≡ false
    → is_le (side s b) ≡ true → is_le (side s a) ≡ true
side_le s [] b rise e = refl
side_le s (p ∷ ps) [] rise e = cc
side_le s (p ∷ ps) (q ∷ qs) rise e =
    upto p q ps qs rise
    (λ lt. by (part_cmp q s) refl e lt)
    (λ eq. ap is_le (parts_total.congr p q s eq) ∙ e)
  where
    by : (r : Ordering) → part_cmp q s ≡ r → is_le r ≡ true → part_cmp p q ≡ Less
        → is_le (part_cmp p s) ≡ true
    by Less is e lt = ap is_le (parts_total.trans p q s lt is)
    by Equal is e lt = ap is_le (less_tied part_cmp parts_total p q s lt is)
    by Greater is e lt = cc

-- behind a step that they share, paths rise as before
pub rest_rises : (s : PathPart) (a b : List PathPart) → side s a ≡ Equal → side s b ≡ Equal
    → is_lt (path_cmp b a) ≡ false → is_lt (path_cmp (drop 1 b) (drop 1 a)) ≡ false
rest_rises s [] b at_a at_b rise = cc
rest_rises s (p ∷ ps) [] at_a at_b rise = cc
rest_rises s (p ∷ ps) (q ∷ qs) at_a at_b rise =
    let back : part_cmp s p ≡ Equal = parts_total.antisymm s p ∙ ap ordering_reverse at_a in
    let tie : part_cmp q p ≡ Equal = parts_total.congr q s p at_b ∙ back in
    ap (λ r. is_lt (ordering_then r (path_cmp qs ps))) (sym tie) ∙ rise

-- one step more is gone
pub drop-next : (depth : ℕ) (w : List PathPart) → drop (suc depth) w ≡ drop 1 (drop depth w)
drop-next zero [] = refl
drop-next zero (p ∷ w) = refl
drop-next (suc depth) [] = refl
drop-next (suc depth) (p ∷ w) = drop-next depth w

-- a path with a step behind so many has more
pub longer : (s : PathPart) (depth : ℕ) (w : List PathPart) → side s (drop depth w) ≡ Equal
    → depth < length w
longer s zero [] e = cc
longer s zero (p ∷ w) e = omega arith
longer s (suc depth) [] e = cc
longer s (suc depth) (p ∷ w) e = let less : depth < length w = longer s depth w e in omega (arith, less)

-- ---- a path that ends stands first

later_goes_on : (a b : List PathPart) → is_lt (path_cmp b a) ≡ false → ends a ≡ false
    → ends b ≡ false
later_goes_on [] b rise e = cc
later_goes_on (p ∷ ps) [] rise e = cc
later_goes_on (p ∷ ps) (q ∷ qs) rise e = refl

all_go_on : (depth : ℕ) (a : List PathPart) (ws : List (List PathPart)) → ends a ≡ false
    → ((k : ℕ) (e : List PathPart) → k < length ws
    → is_lt (path_cmp (drop depth (get_or ws k e)) a) ≡ false)
    → list_any ends (tails depth ws) ≡ false
all_go_on depth a [] e rise = refl
all_go_on depth a (w ∷ ws) e rise =
    ap (λ b. b || list_any ends (tails depth ws))
    (later_goes_on a (drop depth w) (rise 0 w (omega arith)) e)
    ∙ all_go_on depth a ws e (λ k d less. rise (suc k) d (omega (arith, less)))

-- a path ends behind so many steps where it has no more
fits : (depth : ℕ) (w : List PathPart) → ends (drop depth w) ≡ true → length w ≤ depth
fits zero [] e = omega arith
fits zero (p ∷ w) e = cc
fits (suc depth) [] e = omega arith
fits (suc depth) (p ∷ w) e = let le : length w ≤ depth = fits depth w e in omega (arith, le)

goes_on : (depth : ℕ) (w : List PathPart) → ends (drop depth w) ≡ false → depth < length w
goes_on zero [] e = cc
goes_on zero (p ∷ w) e = omega arith
goes_on (suc depth) [] e = cc
goes_on (suc depth) (p ∷ w) e = let lt : depth < length w = goes_on depth w e in omega (arith, lt)

-- whether one ends is told by the first
pub whole_first : (depth : ℕ) (ways : List (List PathPart)) (w : List PathPart) → 0 < length ways
    → w ≡ get_or ways 0 w → Rise depth ways → nat_le (length w) depth ≡ is_chosen_whole (tails depth ways)
whole_first depth [] w some is rise = absurd (omega (arith, some))
whole_first depth (v ∷ vs) w some is rise =
    ap (λ u. nat_le (length u) depth) is ∙ by (ends (drop depth v)) refl
  where
    by : (b : Bool) → ends (drop depth v) ≡ b
        → nat_le (length v) depth ≡ (b || list_any ends (tails depth vs))
    by true e = le-leb (length v) depth (fits depth v e)
    by false e = no (length v) depth (goes_on depth v e)
        ∙ sym (all_go_on depth (drop depth v) vs e
        (λ k d less. rise 0 (suc k) d (omega arith) (omega (arith, less))))

-- of no paths none is left
pub none_left : (ws : List (List PathPart)) → length ws < 1 → ws ≡ []
none_left [] less = refl
none_left (w ∷ ws) less = absurd (omega (arith, less))
