-- The paths that go on from a step stand together.
use Rattle.std.proofs.Common.{◌≡◌, refl, sym, ap, subst, ◌∙◌, ℕ, suc, ◌+◌, ◌-◌, ◌<◌, true, false, cond, List, [], ◌∷◌, ◌++◌, take, drop, length, get_or, length-take, length-drop, add-one, arith}
use Rattle.std.specs.List.{AllWithin}
use Rattle.std.specs.List.Sorted.{IsPartitionedBy, IsPartitionPoint}
use Rattle.std.specs.declared.cmp.Ordering.{Ordering}
use Rattle.std.specs.declared.cmp.Ordering.TheVariants.{Less, Equal, Greater}
use Rattle.std.specs.Ordering.{is_lt, is_le, is_eq}
use Rattle.std.proofs.lemmas.List.{append_assoc, append-nil, map-append, take_all, take-append-drop, get_or-take, get_or-drop}
use Rattle.alt_expr.specs.PathOrder.{part_cmp}
use Rattle.alt_expr.specs.PartOrder.{parts_tie, parts_equiv}
use Rattle.alt_expr.specs.Projected.{under, paths_behind, same_step}
use Rattle.alt_expr.specs.declared.path.PathPart.{PathPart}
use Rattle.alt_projection.specs.Ways.{path_cmp, side, tails, Rise, Longer}
use Rattle.alt_projection.proofs.Order.{side_lt, side_le, rest_rises, drop-next, longer}

-- the paths that go on from a step, of two lists one behind the other
under-append : (s : PathPart) (xs ys : List (List PathPart))
    → under s (xs ++ ys) ≡ under s xs ++ under s ys
under-append s [] ys = refl
under-append s (x ∷ xs) ys = ap (λ (l : List (List PathPart)). paths_behind s x ++ l) (under-append s xs ys)
    ∙ sym (append_assoc (paths_behind s x) (under s xs) (under s ys))

tied : (r : Ordering) → is_lt r ≡ false → is_le r ≡ true → r ≡ Equal
tied Less f e = cc
tied Equal f e = refl
tied Greater f e = cc

lt_apart : (r : Ordering) → is_lt r ≡ true → is_eq r ≡ false
lt_apart Less e = refl
lt_apart Equal e = cc
lt_apart Greater e = cc

gt_apart : (r : Ordering) → is_le r ≡ false → is_eq r ≡ false
gt_apart Less e = cc
gt_apart Equal e = cc
gt_apart Greater e = refl

-- a step is the same as one that it ties with
stepped : (s p : PathPart) → same_step s p ≡ is_eq (part_cmp p s)
stepped s p = parts_equiv.symm s p ∙ parts_tie p s

-- what goes on behind a step that the path has, and behind one that it hasn't
behind-same : (s : PathPart) (a : List PathPart) → side s a ≡ Equal → paths_behind s a ≡ drop 1 a ∷ []
behind-same s [] e = cc
behind-same s (p ∷ ps) e =
    ap (λ b. cond b (ps ∷ []) []) (stepped s p ∙ ap is_eq e)

behind-other : (s : PathPart) (a : List PathPart) → is_eq (side s a) ≡ false → paths_behind s a ≡ []
behind-other s [] e = refl
behind-other s (p ∷ ps) e = ap (λ b. cond b (ps ∷ []) []) (stepped s p ∙ e)

module _ (s : PathPart) (depth : ℕ) where
  -- how a path stands to the step behind so many
  abbrev at : List PathPart → Ordering
  at w = side s (drop depth w)

  -- no path goes on from it
  none : (ws : List (List PathPart)) → AllWithin (λ w. is_eq (at w) ≡ false) ws 0 (length ws)
      → under s (tails depth ws) ≡ []
  none [] h = refl
  none (w ∷ ws) h =
      ap (λ (l : List (List PathPart)). l ++ under s (tails depth ws))
      (behind-other s (drop depth w) (h 0 w (omega arith) (omega arith)))
      ∙ none ws (λ k e low less. h (suc k) e (omega arith) (omega (arith, less)))

  -- each path does
  all : (ws : List (List PathPart)) → AllWithin (λ w. at w ≡ Equal) ws 0 (length ws)
      → under s (tails depth ws) ≡ tails (suc depth) ws
  all [] h = refl
  all (w ∷ ws) h =
      ap (λ (l : List (List PathPart)). l ++ under s (tails depth ws))
      (behind-same s (drop depth w) (h 0 w (omega arith) (omega arith)))
      ∙ ap (λ (q : List PathPart). q ∷ under s (tails depth ws)) (sym (drop-next depth w))
      ∙ ap (λ (l : List (List PathPart)). drop (suc depth) w ∷ l)
      (all ws (λ k e low less. h (suc k) e (omega arith) (omega (arith, less))))

  module _ (ways : List (List PathPart)) (rise : Rise depth ways) where
    -- those that stand below the step come first
    pub below_first : IsPartitionedBy (λ w. is_lt (at w)) ways
    below_first i j e le less is =
        side_lt s (drop depth (get_or ways i e)) (drop depth (get_or ways j e)) (rise i j e le less) is

    -- behind the first ones, those that don't stand above it come first
    pub upto_first : (n : ℕ) → IsPartitionedBy (λ w. is_le (at w)) (drop n ways)
    upto_first n i j e le less is =
        let more : j < length ways - n = omega (arith, less, length-drop n ways) in
        let here = get_or-drop n ways i e in
        let there = get_or-drop n ways j e in
        subst (λ w. is_le (at w) ≡ true) (sym here)
        (side_le s (drop depth (get_or ways (n + i) e)) (drop depth (get_or ways (n + j) e))
        (rise (n + i) (n + j) e (omega (arith, le)) (omega (arith, more)))
        (subst (λ w. is_le (at w) ≡ true) there is))

    module _ (n m : ℕ)
        (low : IsPartitionPoint (λ w. is_lt (at w) ≡ true) (λ w. is_lt (at w) ≡ false) ways n)
        (high : IsPartitionPoint (λ w. is_le (at w) ≡ true) (λ w. is_le (at w) ≡ false)
        (drop n ways) m) where
      abbrev found : List (List PathPart)
      found = take m (drop n ways)

      within : (k : ℕ) → k < length found → (k < m) × (n + k < length ways)
      within k less = (
        omega (arith, less, length-take m (drop n ways)),
        omega (arith, less, length-take m (drop n ways), length-drop n ways),
      )

      -- where a path that was found stood
      stood : (k : ℕ) (e : List PathPart) → k < length found
          → get_or found k e ≡ get_or ways (n + k) e
      stood k e less = get_or-take m (drop n ways) k e (within k less).0 ∙ get_or-drop n ways k e

      has_step : AllWithin (λ w. at w ≡ Equal) found 0 (length found)
      has_step k e low_k less =
          let in_m = (within k less).0 in
          let in_ways = (within k less).1 in
          let not_lt : is_lt (at (get_or ways (n + k) e)) ≡ false =
          low.1 (n + k) e (omega arith) in_ways in
          let le : is_le (at (get_or (drop n ways) k e)) ≡ true =
          high.0 k e (omega arith) in_m in
          subst (λ w. at w ≡ Equal) (sym (stood k e less))
          (tied (at (get_or ways (n + k) e)) not_lt
          (subst (λ w. is_le (at w) ≡ true) (get_or-drop n ways k e) le))

      before : AllWithin (λ w. is_eq (at w) ≡ false) (take n ways) 0 (length (take n ways))
      before k e low_k less =
          let in_n : k < n = omega (arith, less, length-take n ways) in
          subst (λ w. is_eq (at w) ≡ false) (sym (get_or-take n ways k e in_n))
          (lt_apart (at (get_or ways k e)) (low.0 k e (omega arith) in_n))

      after : AllWithin (λ w. is_eq (at w) ≡ false) (drop m (drop n ways)) 0
          (length (drop m (drop n ways)))
      after k e low_k less =
          let in_rest : m + k < length (drop n ways) =
          omega (arith, less, length-drop m (drop n ways)) in
          subst (λ w. is_eq (at w) ≡ false) (sym (get_or-drop m (drop n ways) k e))
          (gt_apart (at (get_or (drop n ways) (m + k) e))
          (high.1 (m + k) e (omega arith) in_rest))

      -- what was found is what goes on from the step
      pub found-under : tails (depth + 1) found ≡ under s (tails depth ways)
      found-under =
          let rest : under s (tails depth (drop n ways)) ≡ tails (suc depth) found =
          ap (λ (l : List (List PathPart)). under s (tails depth l))
          (sym (take-append-drop m (drop n ways)))
          ∙ ap (under s) (map-append (λ (w : List PathPart). drop depth w) found (drop m (drop n ways)))
          ∙ under-append s (tails depth found) (tails depth (drop m (drop n ways)))
          ∙ ap (λ (l : List (List PathPart)). under s (tails depth found) ++ l)
          (none (drop m (drop n ways)) after)
          ∙ append-nil (under s (tails depth found))
          ∙ all found has_step in
          ap (λ k. tails k found) (add-one depth)
          ∙ sym (ap (λ (l : List (List PathPart)). under s (tails depth l))
          (sym (take-append-drop n ways))
          ∙ ap (under s) (map-append (λ (w : List PathPart). drop depth w) (take n ways) (drop n ways))
          ∙ under-append s (tails depth (take n ways)) (tails depth (drop n ways))
          ∙ ap (λ (l : List (List PathPart)). l ++ under s (tails depth (drop n ways)))
          (none (take n ways) before)
          ∙ rest)

      -- it rises behind that step
      pub found-rises : Rise (depth + 1) found
      found-rises i j e le less =
          let less_i : i < length found = omega (arith, le, less) in
          let in_i = (within i less_i).1 in
          let in_j = (within j less).1 in
          let a = get_or found i e in
          let b = get_or found j e in
          let was : is_lt (path_cmp (drop depth b) (drop depth a)) ≡ false =
          subst (λ w. is_lt (path_cmp (drop depth b) (drop depth w)) ≡ false) (sym (stood i e less_i))
          (subst (λ w. is_lt (path_cmp (drop depth w) (drop depth (get_or ways (n + i) e))) ≡ false)
          (sym (stood j e less))
          (rise (n + i) (n + j) e (omega (arith, le)) in_j)) in
          let now = rest_rises s (drop depth a) (drop depth b) (has_step i e (omega arith) less_i)
          (has_step j e (omega arith) less) was in
          let one : (w : List PathPart) → drop 1 (drop depth w) ≡ drop (depth + 1) w =
          λ w. sym (drop-next depth w) ∙ ap (λ k. drop k w) (sym (add-one depth)) in
          subst (λ w. is_lt (path_cmp w (drop (depth + 1) a)) ≡ false) (one b)
          (subst (λ w. is_lt (path_cmp (drop 1 (drop depth b)) w) ≡ false) (one a) now)

      -- and each of its paths has that step
      pub found-longer : Longer depth found
      found-longer k e low_k less = longer s depth (get_or found k e) (has_step k e low_k less)

-- a part that goes to the end of a list is what is left of it
pub whole_rest : (n : ℕ) (ways : List (List PathPart))
    → take (length ways - n) (drop n ways) ≡ drop n ways
whole_rest n ways = take_all (length ways - n) (drop n ways) (omega (arith, length-drop n ways))
