-- The places that a page passes step by step, and what it pays for them.
use Rattle.std.proofs.Common.{◌≡◌, ◌≤◌, ◌<◌, ◌+◌, ◌*◌, refl, sym, ap, subst, ◌∙◌, ℕ, zero, suc, Bool, true, false, not, ◌&&◌, cond, List, [], ◌∷◌, take, length, Option, Some, None, IfSome, arith}
use Rattle.std.proofs.Math.Nat.{mul-add, mul-le-mul_left}
use Rattle.std.specs.Cmp.{second_so}
use Rattle.std.specs.Cmp.Lexicographic.{nat_list_cmp_total}
use Rattle.std.specs.FinMap.{entries}
use Rattle.std.specs.List.{last_or}
use Rattle.std.specs.Ordering.{is_lt}
use Rattle.alt_base.proofs.Orderings.{is_lt-true}
use Rattle.alt_cells.specs.Walks.{RowList, RowMap}
use Rattle.alt_families.specs.Reads.{passed_of, versions_of}
use Rattle.alt_machine.specs.Walks.{is_beyond}
use Rattle.alt_ops_query.specs.PageReads.{is_passed_by_page}
use Rattle.alt_ops_query.specs.private.Filled.{is_behind_in_range, paid_for}
use Rattle.alt_ops_query.specs.private.Ranges.{IsBeyond}
use Rattle.alt_ops_query.proofs.Rests.{contains_beyond}
use Rattle.alt_request.specs.TablesReading.{is_place_reached, is_within}
use Rattle.alt_value.specs.Members.{text_order}

-- ---- versions at places

-- two tests don't pass together, and where one does a third does
abbrev pub fits : Bool → Bool → Bool → Bool
fits true true c = false
fits true false c = c
fits false true c = c
fits false false c = true

module _ (p q r : List ℕ → Bool) (fit : (key : List ℕ) → fits (p key) (q key) (r key) ≡ true) where
  -- what passes the first and what passes the second is no more than what passes the third
  counted : (es : RowList) → length (passed_of p es) + length (passed_of q es)
      ≤ length (passed_of r es)
  counted [] = omega arith
  counted (e ∷ es) = by (p e.0) (q e.0) (r e.0) (fit e.0) (passed_of p es) (passed_of q es)
      (passed_of r es) (counted es)
    where
      by : (a b c : Bool) → fits a b c ≡ true → (ps qs rs : RowList)
          → length ps + length qs ≤ length rs
          → length (cond a (e ∷ ps) ps) + length (cond b (e ∷ qs) qs) ≤ length (cond c (e ∷ rs) rs)
      by true true c f ps qs rs rest = absurd (let no : ⊥ = cc in no)
      by true false true f ps qs rs rest = omega (arith, rest)
      by true false false f ps qs rs rest = absurd (let no : ⊥ = cc in no)
      by false true true f ps qs rs rest = omega (arith, rest)
      by false true false f ps qs rs rest = absurd (let no : ⊥ = cc in no)
      by false false true f ps qs rs rest = omega (arith, rest)
      by false false false f ps qs rs rest = rest

  -- and so it is over all files
  versions : (maps : List RowMap) → versions_of p maps + versions_of q maps ≤ versions_of r maps
  versions [] = omega arith
  versions (m ∷ ms) = omega (arith, counted (entries m), versions ms)

  -- What was paid for the first, and once more for the second, is no more than for the third, where it is paid for once more at least.
  pub paid_more : (maps : List RowMap) (n m : ℕ) → n + 1 ≤ m
      → paid_for p maps n + paid_for q maps 1 ≤ paid_for r maps m
  paid_more maps n m more =
      let w = 2 * length maps in
      let times : w * n + w * 1 ≤ w * m =
      subst (λ x. x ≤ w * m) (mul-add w n 1) (mul-le-mul_left w more) in
      omega (arith, times, versions maps)

-- ---- places in the order of a walk

-- what lies beyond a place that lies beyond another lies beyond that one
pub beyond_trans : (forward : Bool) (first : Option (List ℕ)) (last key : List ℕ)
    → is_beyond forward first last ≡ true → is_beyond forward (Some last) key ≡ true
    → is_beyond forward first key ≡ true
beyond_trans forward None last key h k = refl
beyond_trans true (Some first) last key h k = ap is_lt (nat_list_cmp_total.trans first last key
    (is_lt-true (text_order first last) h) (is_lt-true (text_order last key) k))
beyond_trans false (Some first) last key h k = ap is_lt (nat_list_cmp_total.trans key last first
    (is_lt-true (text_order key last) k) (is_lt-true (text_order last first) h))

-- ---- a walk over a range, that goes on beyond a place

module _ (forward : Bool) (place : Option (List ℕ)) (from : List ℕ) (to : Option (List ℕ))
    (first : List ℕ) (last : Option (List ℕ)) (beyond : IsBeyond forward place from to first last)
  where
    -- what lies in the rest lies beyond the place
    pub within_beyond : (key : List ℕ) → is_within first last key ≡ true
        → is_beyond forward place key ≡ true
    within_beyond key h = second_so (is_within from to key) (is_beyond forward place key)
        (sym (contains_beyond forward place from to first last beyond key) ∙ h)

    module _ (end : List ℕ) (within : is_within first last end ≡ true) where
      -- what lies beyond a place of the rest lies beyond the first
      further : (key : List ℕ) → is_beyond forward (Some end) key ≡ true
          → is_beyond forward place key ≡ true
      further key = beyond_trans forward place end key (within_beyond end within)

      -- the places up to it are those up to the first and those of the rest up to it
      pub fits_behind : (key : List ℕ) → fits (is_behind_in_range forward from to place key)
          (is_behind_in_range forward first last (Some end) key) (is_behind_in_range forward from to (Some end) key)
          ≡ true
      fits_behind key = subst (λ b. fits (is_within from to key && not (is_beyond forward place key))
          (b && not (is_beyond forward (Some end) key))
          (is_within from to key && not (is_beyond forward (Some end) key)) ≡ true)
          (sym (contains_beyond forward place from to first last beyond key))
          (by (is_within from to key) (is_beyond forward place key)
          (is_beyond forward (Some end) key) (further key))
        where
          by : (w p q : Bool) → (q ≡ true → p ≡ true)
              → fits (w && not p) ((w && p) && not q) (w && not q) ≡ true
          by false p q h = refl
          by true true true h = refl
          by true true false h = refl
          by true false true h = absurd (let no : false ≡ true = h refl in cc no)
          by true false false h = refl

      -- what is left beyond it is what of the range lies beyond it
      pub beyond_on : (next : List ℕ) (stop : Option (List ℕ))
          → IsBeyond forward (Some end) first last next stop
          → IsBeyond forward (Some end) from to next stop
      beyond_on next stop more key = (
        λ h.
            let both = (more key).0 h in
            (((beyond key).0 both.0).0, both.1),
        λ h. (more key).1 ((beyond key).1 (h.0, further key h.1), h.1),
      )

    -- and so it is to the end of the page
    pub fits_passed : (end : Option (List ℕ))
        → IfSome end (λ place. is_within first last place ≡ true) → (key : List ℕ)
        → fits (is_behind_in_range forward from to place key) (is_passed_by_page forward first last end key)
        (is_passed_by_page forward from to end key) ≡ true
    fits_passed None within key = subst
        (λ b. fits (is_within from to key && not (is_beyond forward place key)) (b && true)
        (is_within from to key && true) ≡ true)
        (sym (contains_beyond forward place from to first last beyond key))
        (by (is_within from to key) (is_beyond forward place key))
      where
        by : (w p : Bool) → fits (w && not p) ((w && p) && true) (w && true) ≡ true
        by false p = refl
        by true true = refl
        by true false = refl
    fits_passed (Some end) within key = fits_behind end within key

-- ---- how far one step goes

-- a walk that finds as many items as it wants goes up to the last of them
pub reached_last : (forward : Bool) (n : ℕ) (places : List (List ℕ)) (o : Option (List ℕ))
    (last key : List ℕ) → 0 < n → n ≤ length places → last_or o (take n places) ≡ Some last
    → is_place_reached forward n places key ≡ not (is_beyond forward (Some last) key)
reached_last forward zero places o last key some many is = absurd (omega (arith, some))
reached_last forward (suc n) [] o last key some many is = absurd (omega (arith, many))
reached_last forward (suc zero) (p ∷ ps) o last key some many is =
    let same : p ≡ last = same_some p last is in
    ap (λ x. not (is_beyond forward (Some x) key)) same
  where
    same_some : (x y : List ℕ) → Some x ≡ Some y → x ≡ y
    same_some x y e = cc
reached_last forward (suc (suc n)) (p ∷ ps) o last key some many is =
    reached_last forward (suc n) ps (Some p) last key (omega arith) (omega (arith, many)) is

-- and one that doesn't goes on to the range's end
pub reached_all : (forward : Bool) (n : ℕ) (places : List (List ℕ)) (key : List ℕ)
    → length places < n → is_place_reached forward n places key ≡ true
reached_all forward zero places key few = absurd (omega (arith, few))
reached_all forward (suc n) [] key few = refl
reached_all forward (suc zero) (p ∷ ps) key few = absurd (omega (arith, few))
reached_all forward (suc (suc n)) (p ∷ ps) key few =
    reached_all forward (suc n) ps key (omega (arith, few))
