-- Entries in the order of their names: look-ups, and what a change at one place leaves.
use Rattle.std.proofs.Common.{◌≡◌, refl, sym, ap, ◌∙◌, ℕ, zero, suc, ◌+◌, ◌<◌, ◌≤◌, not, T, List, [], ◌∷◌, length, get_or, set, map, Option, Some, None, option_map, slice_get, inl, inr, arith}
use Rattle.std.specs.List.{insert, remove, HoldsAt}
use Rattle.std.specs.List.{find as find_first}
use Rattle.std.specs.List.Sorted.{IsPartitionPoint}
use Rattle.std.proofs.lemmas.List.{get_or_default}
use Rattle.std.proofs.lemmas.Bool.{cases_order}
use Rattle.std.specs.declared.cmp.Ordering.TheVariants.{Less, Equal, Greater}
use Rattle.std.specs.Ordering.{eq_by_cmp, is_lt}
use Rattle.std.specs.Cmp.{tied_itself}
use Rattle.std.specs.FinMap.Entries.{find, put, where_key, below_all, is_sorted}
use Rattle.alt_base.proofs.Bools.{first_holds, second_holds}
use Rattle.alt_base.proofs.Orderings.{is_lt-holds}
use Rattle.alt_value.specs.Members.{text_order}
use Rattle.alt_value.proofs.Places.{turned, Rises, Before, After, before_tied}
use Rattle.alt_value.proofs.TextTies.{same_text}
use Rattle.alt_value.proofs.Texts.{text_total, text_apart}

-- a name against another, and the other way round
name_after : (name other : List ℕ) → text_order other name ≡ Less → text_order name other ≡ Greater
name_after name other h = turned text_order text_total other name Less h

name_before : (name other : List ℕ) → text_order other name ≡ Greater → text_order name other ≡ Less
name_before name other h = turned text_order text_total other name Greater h

module _ {E X : Type 0} (name_of : E → List ℕ) (seen : E → X) where
  -- an entry as a pair of its name and what it stands for
  abbrev pub entry : E → List ℕ × X
  entry e = (name_of e, seen e)

  -- the names rise
  abbrev pub IsInOrder : List E → Type 0
  IsInOrder es = T (is_sorted text_order (map entry es))

  -- the names before the place are below the name
  abbrev pub Below : List ℕ → List E → ℕ → Type 0
  Below name es i = Before text_order text_total name_of name es i

  -- the names from the place on are above the name
  abbrev pub Above : List ℕ → List E → ℕ → Type 0
  Above name es i = After text_order text_total name_of name es i

  -- a name below all entries is below each of them
  below_at : (x : List ℕ) (es : List E) (k : ℕ) (d : E) → T (below_all text_order x (map entry es))
      → k < length es
      → text_order x (name_of (get_or es k d)) ≡ Less
  below_at x [] k d h within = absurd (omega arith)
  below_at x (e ∷ es) zero d h within = is_lt-holds _ (first_holds _ _ h)
  below_at x (e ∷ es) (suc k) d h within = below_at x es k d (second_holds _ _ h) (omega arith)

  rises : (es : List E) → IsInOrder es → Rises text_order text_total name_of es
  rises [] h i j d below within = absurd (omega arith)
  rises (e ∷ es) h i zero d below within = absurd (omega arith)
  rises (e ∷ es) h zero (suc j) d below within =
      below_at (name_of e) es j d (first_holds _ _ h) (omega arith)
  rises (e ∷ es) h (suc i) (suc j) d below within =
      rises es (second_holds _ _ h) i j d (omega arith) (omega arith)

  -- where the name is above an entry, it is above those before it too
  pub below_more : (name : List ℕ) (es : List E) (i : ℕ) (e : E) → IsInOrder es → i < length es
      → e ≡ get_or es i e
      → text_order (name_of e) name ≡ Less → Below name es (i + 1)
  below_more name es i e sorted within at h k d below =
      let same : get_or es i d ≡ e = get_or_default es i d e within ∙ sym at in
      elim (cases_order k i) [
        | inl here ↦ rw (here, same) h
        | inr (inl before) ↦ text_total.trans (name_of (get_or es k d))
            (name_of (get_or es i d)) name (rises es sorted k i d before within) (rw same h)
        | inr (inr above) ↦ absurd (omega arith)
      ]

  -- where the name is below an entry, it is below those after it too
  pub above_more : (name : List ℕ) (es : List E) (i : ℕ) (e : E) → IsInOrder es → i < length es
      → e ≡ get_or es i e
      → text_order (name_of e) name ≡ Greater → Above name es i
  above_more name es i e sorted within at h k d from below =
      let same : get_or es i d ≡ e = get_or_default es i d e within ∙ sym at in
      elim (cases_order k i) [
        | inl here ↦ rw (here, same) h
        | inr (inl before) ↦ absurd (omega arith)
        | inr (inr above) ↦
            turned text_order text_total name (name_of (get_or es k d)) Less
            (text_total.trans name (name_of (get_or es i d)) (name_of (get_or es k d))
            (rw same (turned text_order text_total (name_of e) name Greater h))
            (rises es sorted i k d above below))
      ]

  -- where the entry ties with the name, it has the name
  pub named_here : (name : List ℕ) (es : List E) (i : ℕ) (e : E) → i < length es → e ≡ get_or es i e
      → text_order (name_of e) name ≡ Equal
      → HoldsAt (λ f. name_of f ≡ name) es i
  named_here name es i e within at h d = text_apart _ _
      (rw (get_or_default es i d e within, ← at) h)

  -- the name stands at the place, and the names before it are below it
  pub record Stands (name : List ℕ) (es : List E) (i : ℕ) : Type 0 where
    pub within : i < length es
    pub same : HoldsAt (λ e. name_of e ≡ name) es i
    pub before : Below name es i

  -- the names before the place are below the name, and those from it on are above
  pub record Goes (name : List ℕ) (es : List E) (i : ℕ) : Type 0 where
    pub within : i ≤ length es
    pub before : Below name es i
    pub after : Above name es i

  -- an entry of that name at a place
  pub stands : (name : List ℕ) (es : List E) (i : ℕ) → IsInOrder es → i < length es
      → HoldsAt (λ e. name_of e ≡ name) es i → Stands name es i
  stands name es i sorted within same = record {
    within = within;
    same = same;
    before = before_tied text_order text_total name_of name es i (rises es sorted) within
        (λ d. rw (same d) (tied_itself text_total name));
  }

  -- a place to which the name is to go
  pub goes : (name : List ℕ) (es : List E) (i : ℕ) → i ≤ length es
      → IsPartitionPoint (λ e. text_order (name_of e) name ≡ Less)
      (λ e. text_order (name_of e) name ≡ Greater) es i → Goes name es i
  goes name es i within parts = record {
    within = within;
    before = λ k d below. parts.0 k d (omega arith) below;
    after = parts.1;
  }

  -- what stands at a place of all but the first entry stands there
  later_stands : (name : List ℕ) (e : E) (es : List E) (i : ℕ) → Stands name (e ∷ es) (suc i)
      → Stands name es i
  later_stands name e es i s = record {
    within = let w : suc i < suc (length es) = s.within in omega arith;
    same = s.same;
    before = λ k d below. s.before (suc k) d (omega arith);
  }

  later_goes : (name : List ℕ) (e : E) (es : List E) (i : ℕ) → Goes name (e ∷ es) (suc i)
      → Goes name es i
  later_goes name e es i g = record {
    within = let w : suc i ≤ suc (length es) = g.within in omega arith;
    before = λ k d below. g.before (suc k) d (omega arith);
    after = λ k d from below. g.after (suc k) d (omega arith) (omega arith);
  }

  none_left : (name : List ℕ) (e : E) (es : List E) → Goes name (e ∷ es) zero → Goes name es zero
  none_left name e es g = record {
    within = omega arith;
    before = λ k d below. absurd (omega arith);
    after = λ k d from below. g.after (suc k) d (omega arith) (omega arith);
  }

  -- names above a name aren't taken out with it
  where_key-above : (name other : List ℕ) (es : List E) → other ≡ name
      → T (below_all text_order other (map entry es))
      → where_key text_order (λ x. not (eq_by_cmp text_order name x)) (map entry es) ≡ map entry es
  where_key-above name other [] e h = refl
  where_key-above name other (f ∷ fs) e h =
      let p : text_order name (name_of f) ≡ Less = rw (← e) (is_lt-holds _ (first_holds _ _ h)) in
      rw p (ap (λ (ps : List (List ℕ × X)). entry f ∷ ps)
      (where_key-above name other fs e (second_holds _ _ h)))

  -- ---- a name that stands there

  -- it is found
  pub find-stands : (name : List ℕ) (es : List E) (i : ℕ) (d : E) → Stands name es i
      → find text_order name (map entry es) ≡ Some (seen (get_or es i d))
  find-stands name [] i d s = let w : i < 0 = s.within in absurd (omega arith)
  find-stands name (e ∷ es) zero d s = rw (same_text name (name_of e) (s.same e)) refl
  find-stands name (e ∷ es) (suc i) d s =
      rw (name_after name (name_of e) (s.before 0 e (omega arith)))
      (find-stands name es i d (later_stands name e es i s))

  -- putting another there sets it
  pub put-stands : (name : List ℕ) (es : List E) (i : ℕ) (f : E) → name_of f ≡ name
      → Stands name es i
      → put text_order name (seen f) (map entry es) ≡ map entry (set es i f)
  put-stands name [] i f n s = let w : i < 0 = s.within in absurd (omega arith)
  put-stands name (e ∷ es) zero f n s =
      rw (same_text name (name_of e) (s.same e))
      (ap (λ (x : List ℕ). (x, seen f) ∷ map entry es) (s.same e ∙ sym n))
  put-stands name (e ∷ es) (suc i) f n s =
      rw (name_after name (name_of e) (s.before 0 e (omega arith)))
      (ap (λ (ps : List (List ℕ × X)). entry e ∷ ps)
      (put-stands name es i f n (later_stands name e es i s)))

  -- those of other names are the others
  pub where_key-stands : (name : List ℕ) (es : List E) (i : ℕ) → IsInOrder es → Stands name es i
      → where_key text_order (λ x. not (eq_by_cmp text_order name x)) (map entry es)
      ≡ map entry (remove es i)
  where_key-stands name [] i sorted s = let w : i < 0 = s.within in absurd (omega arith)
  where_key-stands name (e ∷ es) zero sorted s =
      rw (same_text name (name_of e) (s.same e))
      (where_key-above name (name_of e) es (s.same e) (first_holds _ _ sorted))
  where_key-stands name (e ∷ es) (suc i) sorted s =
      rw (name_after name (name_of e) (s.before 0 e (omega arith)))
      (ap (λ (ps : List (List ℕ × X)). entry e ∷ ps)
      (where_key-stands name es i (second_holds _ _ sorted) (later_stands name e es i s)))

  -- ---- a name that isn't there

  -- nothing is found
  pub find-goes : (name : List ℕ) (es : List E) (i : ℕ) → Goes name es i
      → find text_order name (map entry es) ≡ None
  find-goes name [] i g = refl
  find-goes name (e ∷ es) zero g =
      rw (name_before name (name_of e) (g.after 0 e (omega arith) (omega arith)))
      (find-goes name es zero (none_left name e es g))
  find-goes name (e ∷ es) (suc i) g =
      rw (name_after name (name_of e) (g.before 0 e (omega arith)))
      (find-goes name es i (later_goes name e es i g))

  -- putting one there inserts it
  pub put-goes : (name : List ℕ) (es : List E) (i : ℕ) (f : E) → name_of f ≡ name → Goes name es i
      → put text_order name (seen f) (map entry es) ≡ map entry (insert es i f)
  put-goes name [] zero f n g = rw n refl
  put-goes name [] (suc i) f n g = let w : suc i ≤ 0 = g.within in absurd (omega arith)
  put-goes name (e ∷ es) zero f n g = rw (
    name_before name (name_of e)
        (g.after 0 e (omega arith) (omega arith)),
    n,
  ) refl
  put-goes name (e ∷ es) (suc i) f n g =
      rw (name_after name (name_of e) (g.before 0 e (omega arith)))
      (ap (λ (ps : List (List ℕ × X)). entry e ∷ ps)
      (put-goes name es i f n (later_goes name e es i g)))

  -- all are of other names
  pub where_key-goes : (name : List ℕ) (es : List E) (i : ℕ) → Goes name es i
      → where_key text_order (λ x. not (eq_by_cmp text_order name x)) (map entry es) ≡ map entry es
  where_key-goes name [] i g = refl
  where_key-goes name (e ∷ es) zero g =
      rw (name_before name (name_of e) (g.after 0 e (omega arith) (omega arith)))
      (ap (λ (ps : List (List ℕ × X)). entry e ∷ ps)
      (where_key-goes name es zero (none_left name e es g)))
  where_key-goes name (e ∷ es) (suc i) g =
      rw (name_after name (name_of e) (g.before 0 e (omega arith)))
      (ap (λ (ps : List (List ℕ × X)). entry e ∷ ps)
      (where_key-goes name es i (later_goes name e es i g)))

  -- ---- the first name after a name

  -- the first entry above the name is the one at the place
  pub next_goes : (name : List ℕ) (es : List E) (i : ℕ) → Goes name es i
      → find_first (λ (p : List ℕ × X). is_lt (text_order name p.0)) (map entry es)
      ≡ option_map entry (slice_get es i)
  next_goes name [] i g = refl
  next_goes name (e ∷ es) zero g = rw (name_before name (name_of e)
      (g.after 0 e (omega arith) (omega arith))) refl
  next_goes name (e ∷ es) (suc i) g =
      rw (name_after name (name_of e) (g.before 0 e (omega arith)))
      (next_goes name es i (later_goes name e es i g))

  -- the first entry above a name that is below all of them is the first
  next_above : (name other : List ℕ) (es : List E) → other ≡ name
      → T (below_all text_order other (map entry es))
      → find_first (λ (p : List ℕ × X). is_lt (text_order name p.0)) (map entry es)
      ≡ option_map entry (slice_get es 0)
  next_above name other [] e h = refl
  next_above name other (f ∷ fs) e h = let p : text_order name (name_of f) ≡ Less =
      rw (← e) (is_lt-holds _ (first_holds _ _ h)) in rw p refl

  -- the first entry above the name is the one behind it
  pub next_stands : (name : List ℕ) (es : List E) (i : ℕ) → IsInOrder es → Stands name es i
      → find_first (λ (p : List ℕ × X). is_lt (text_order name p.0)) (map entry es)
      ≡ option_map entry (slice_get es (suc i))
  next_stands name [] i sorted s = let w : i < 0 = s.within in absurd (omega arith)
  next_stands name (e ∷ es) zero sorted s =
      rw (same_text name (name_of e) (s.same e))
      (next_above name (name_of e) es (s.same e) (first_holds _ _ sorted))
  next_stands name (e ∷ es) (suc i) sorted s =
      rw (name_after name (name_of e) (s.before 0 e (omega arith)))
      (next_stands name es i (second_holds _ _ sorted) (later_stands name e es i s))

  -- the value that was found is what the entry that was found stands for
  value_of : (o : Option E) → option_map (λ (p : List ℕ × X). p.1) (option_map entry o)
      ≡ option_map seen o
  value_of None = refl
  value_of (Some e) = refl

  -- so is the first after it
  pub after-goes : (name : List ℕ) (es : List E) (i : ℕ) → Goes name es i
      → option_map (λ (p : List ℕ × X). p.1) (find_first (λ p. is_lt (text_order name p.0))
      (map entry es)) ≡ option_map seen (slice_get es i)
  after-goes name es i g = ap (option_map (λ p. p.1)) (next_goes name es i g)
      ∙ value_of (slice_get es i)

  -- so is the first after it
  pub after-stands : (name : List ℕ) (es : List E) (i : ℕ) → IsInOrder es → Stands name es i
      → option_map (λ (p : List ℕ × X). p.1) (find_first (λ p. is_lt (text_order name p.0))
      (map entry es)) ≡ option_map seen (slice_get es (i + 1))
  after-stands name es i sorted s = ap (option_map (λ p. p.1)) (next_stands name es i sorted s)
      ∙ value_of (slice_get es (suc i))
      ∙ ap (λ k. option_map seen (slice_get es k)) (omega arith)
