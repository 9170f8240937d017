-- An item's entries, at the place of a name: look-ups, and what a change there leaves.
use Rattle.std.proofs.Common.{◌≡◌, refl, sym, ap, ◌∙◌, ℕ, zero, suc, ◌+◌, ◌<◌, ◌≤◌, Bool, true, false, cond, not, T, List, [], ◌∷◌, length, get_or, set, map, Some, None, inl, inr, arith}
use Rattle.std.specs.List.{insert, remove}
use Rattle.std.proofs.lemmas.List.{get_or_default}
use Rattle.std.proofs.lemmas.Bool.{cases_order}
use Rattle.std.specs.declared.cmp.Ordering.TheVariants.{Less, Equal, Greater}
use Rattle.std.specs.Ordering.{eq_by_cmp}
use Rattle.std.specs.FinMap.Entries.{by_order, where_key, below_all, is_sorted, is_sorted-put, is_sorted-where_key}
use Rattle.alt_base.proofs.Bools.{both_hold, first_holds, second_holds}
use Rattle.alt_base.proofs.Orderings.{less-holds, is_lt-holds}
use Rattle.alt_value.specs.declared.attr.Attr.{Attr}
use Rattle.alt_value.specs.declared.attr.Pair.{Pair as Entry}
use Rattle.alt_value.specs.Members.{text_order}
use Rattle.alt_value.specs.Tree.{Tree, Pair}
use Rattle.alt_value.specs.Stands.{tree_of, pair_of}
use Rattle.alt_value.specs.Item.{IsItem, at_name, with_pair, without}
use Rattle.alt_value.specs.Place.{NameStandsAt, GoesTo}
use Rattle.alt_value.proofs.Places.{turned, Rises, before_tied}
use Rattle.alt_value.proofs.TextTies.{same_text}
use Rattle.alt_value.proofs.Texts.{text_total, text_apart}

-- an entry by its name
abbrev name_of : Entry → List ℕ
name_of e = e.name

-- what is below each name is below the one at a place
pub below_at : (x : List ℕ) (es : List Entry) (k : ℕ) (d : Entry)
    → T (below_all text_order x (map pair_of es)) → k < length es
    → text_order x (get_or es k d).name ≡ Less
below_at x [] k d h within = absurd (omega arith)
below_at x (e ∷ es) zero d h within = is_lt-holds _ (first_holds _ _ h)
below_at x (e ∷ es) (suc k) d h within = below_at x es k d (second_holds _ _ h) (omega arith)

rises-entries : (es : List Entry) → T (is_sorted text_order (map pair_of es))
    → Rises text_order text_total name_of es
rises-entries [] h i j d below within = absurd (omega arith)
rises-entries (e ∷ es) h i zero d below within = absurd (omega arith)
rises-entries (e ∷ es) h zero (suc j) d below within =
    below_at e.name es j d (first_holds _ _ h) (omega arith)
rises-entries (e ∷ es) h (suc i) (suc j) d below within =
    rises-entries es (second_holds _ _ h) i j d (omega arith) (omega arith)

-- where the name is above an entry, it is above those before it too
pub before_more : (name : List ℕ) (es : List Entry) (i : ℕ) (e : Entry) → IsItem (map pair_of es)
    → i < length es → e ≡ get_or es i e
    → text_order e.name name ≡ Less → (k : ℕ) (d : Entry) → k < i + 1
    → text_order (get_or es k d).name name ≡ Less
before_more name es i e item within at h k d below =
    let same : get_or es i d ≡ e = get_or_default es i d e within ∙ sym at in
    elim (cases_order k i) [
      | inl here ↦ rw (here, same) h
      | inr (inl before) ↦ text_total.trans (get_or es k d).name (get_or es i d).name name
          (rises-entries es item.0 k i d before within) (rw same h)
      | inr (inr above) ↦ absurd (omega arith)
    ]

-- where the name is below an entry, it is below those after it too
pub after_more : (name : List ℕ) (es : List Entry) (i : ℕ) (e : Entry) → IsItem (map pair_of es)
    → i < length es → e ≡ get_or es i e
    → text_order e.name name ≡ Greater → (k : ℕ) (d : Entry) → i ≤ k → k < length es
    → text_order (get_or es k d).name name ≡ Greater
after_more name es i e item within at h k d from below =
    let same : get_or es i d ≡ e = get_or_default es i d e within ∙ sym at in
    elim (cases_order k i) [
      | inl here ↦ rw (here, same) h
      | inr (inl before) ↦ absurd (omega arith)
      | inr (inr above) ↦
          turned text_order text_total name (get_or es k d).name Less
          (text_total.trans name (get_or es i d).name (get_or es k d).name
          (rw same (turned text_order text_total e.name name Greater h))
          (rises-entries es item.0 i k d above below))
    ]

-- where the entry has the name, it stands there
pub stands_here : (name : List ℕ) (es : List Entry) (i : ℕ) (e : Entry) → IsItem (map pair_of es)
    → i < length es → e ≡ get_or es i e
    → text_order e.name name ≡ Equal → NameStandsAt name es i
stands_here name es i e item within at h =
    let tied : (d : Entry) → text_order (get_or es i d).name name ≡ Equal =
    λ d. rw (get_or_default es i d e within, ← at) h in
    record {
      within = within;
      same = λ d. text_apart _ _ (tied d);
      before = before_tied text_order text_total name_of name es i
          (rises-entries es item.0) within tied;
    }

-- the name comes after an entry that stands before its place
name_after : (name : List ℕ) (e : Entry) → text_order e.name name ≡ Less
    → text_order name e.name ≡ Greater
name_after name e h = turned text_order text_total e.name name Less h

-- a name stands before an entry above it, and ties with its own
name_before : (name : List ℕ) (e : Entry) → text_order e.name name ≡ Greater
    → text_order name e.name ≡ Less
name_before name e h = turned text_order text_total e.name name Greater h

-- behind the first entry a name stands, or goes, one place earlier
later_stands : (name : List ℕ) (e : Entry) (es : List Entry) (i : ℕ)
    → NameStandsAt name (e ∷ es) (suc i) → NameStandsAt name es i
later_stands name e es i s = record {
  within = let w : suc i < suc (length es) = s.within in omega arith;
  same = s.same;
  before = λ k d below. s.before (suc k) d (omega arith);
}

-- nor does a name that goes there
later_goes : (name : List ℕ) (e : Entry) (es : List Entry) (i : ℕ) → GoesTo name (e ∷ es) (suc i)
    → GoesTo name es i
later_goes name e es i g = record {
  within = let w : suc i ≤ suc (length es) = g.within in omega arith;
  before = λ k d below. g.before (suc k) d (omega arith);
  after = λ k d from below. g.after (suc k) d (omega arith) (omega arith);
}

-- nor one that goes in front of all
none_left : (name : List ℕ) (e : Entry) (es : List Entry) → GoesTo name (e ∷ es) zero
    → GoesTo name es zero
none_left name e es g = record {
  within = omega arith;
  before = λ k d below. absurd (omega arith);
  after = λ k d from below. g.after (suc k) d (omega arith) (omega arith);
}

-- names above a name aren't taken out with it
without-above : (name other : List ℕ) (es : List Entry) → other ≡ name
    → T (below_all text_order other (map pair_of es))
    → without name (map pair_of es) ≡ map pair_of es
without-above name other [] e h = refl
without-above name other (f ∷ fs) e h =
    let p : text_order name f.name ≡ Less = rw (← e) (is_lt-holds _ (first_holds _ _ h)) in
    rw p (ap (λ (ps : List Pair). pair_of f ∷ ps)
    (without-above name other fs e (second_holds _ _ h)))

-- ---- a name that stands there

-- its value is found there
pub at_name-stands : (name : List ℕ) (es : List Entry) (i : ℕ) (d : Entry) → NameStandsAt name es i
    → at_name name (map pair_of es) ≡ Some (tree_of (get_or es i d).value)
at_name-stands name [] i d s = let w : i < 0 = s.within in absurd (omega arith)
at_name-stands name (e ∷ es) zero d s = rw (same_text name e.name (s.same e)) refl
at_name-stands name (e ∷ es) (suc i) d s =
    rw (name_after name e (s.before 0 e (omega arith)))
    (at_name-stands name es i d (later_stands name e es i s))

-- and another value is put there
pub with_pair-stands : (name : List ℕ) (a : Attr) (es : List Entry) (i : ℕ) (d : Entry)
    → NameStandsAt name es i
    → with_pair name (tree_of a) (map pair_of es)
    ≡ map pair_of (set es i (record (get_or es i d) { value = a }))
with_pair-stands name a [] i d s = let w : i < 0 = s.within in absurd (omega arith)
with_pair-stands name a (e ∷ es) zero d s = rw (same_text name e.name (s.same e)) refl
with_pair-stands name a (e ∷ es) (suc i) d s =
    rw (name_after name e (s.before 0 e (omega arith)))
    (ap (λ (ps : List Pair). pair_of e ∷ ps) (with_pair-stands name a es i d
    (later_stands name e es i s)))

-- and it is taken out there
pub without-stands : (name : List ℕ) (es : List Entry) (i : ℕ) → IsItem (map pair_of es)
    → NameStandsAt name es i
    → without name (map pair_of es) ≡ map pair_of (remove es i)
without-stands name [] i item s = let w : i < 0 = s.within in absurd (omega arith)
without-stands name (e ∷ es) zero item s =
    rw (same_text name e.name (s.same e)) (without-above name e.name es (s.same e)
    (first_holds _ _ item.0))
without-stands name (e ∷ es) (suc i) item s =
    rw (name_after name e (s.before 0 e (omega arith)))
    (ap (λ (ps : List Pair). pair_of e ∷ ps) (without-stands name es i
    (second_holds _ _ item.0, second_holds _ _ item.1) (later_stands name e es i s)))

-- ---- a name that isn't there

-- nothing is found of it
pub at_name-goes : (name : List ℕ) (es : List Entry) (i : ℕ) → GoesTo name es i
    → at_name name (map pair_of es) ≡ None
at_name-goes name [] i g = refl
at_name-goes name (e ∷ es) zero g =
    rw (name_before name e (g.after 0 e (omega arith) (omega arith)))
    (at_name-goes name es zero (none_left name e es g))
at_name-goes name (e ∷ es) (suc i) g =
    rw (name_after name e (g.before 0 e (omega arith)))
    (at_name-goes name es i (later_goes name e es i g))

-- it is put in at its place
pub with_pair-goes : (name : List ℕ) (a : Attr) (es : List Entry) (i : ℕ) (f : Entry)
    → f.name ≡ name → f.value ≡ a → GoesTo name es i
    → with_pair name (tree_of a) (map pair_of es) ≡ map pair_of (insert es i f)
with_pair-goes name a [] zero f n v g = rw (n, v) refl
with_pair-goes name a [] (suc i) f n v g = let w : suc i ≤ 0 = g.within in absurd (omega arith)
with_pair-goes name a (e ∷ es) zero f n v g =
    rw (name_before name e (g.after 0 e (omega arith) (omega arith)), n, v) refl
with_pair-goes name a (e ∷ es) (suc i) f n v g =
    rw (name_after name e (g.before 0 e (omega arith)))
    (ap (λ (ps : List Pair). pair_of e ∷ ps) (with_pair-goes name a es i f n v
    (later_goes name e es i g)))

-- and taking it out changes nothing
pub without-goes : (name : List ℕ) (es : List Entry) (i : ℕ) → GoesTo name es i
    → without name (map pair_of es) ≡ map pair_of es
without-goes name [] i g = refl
without-goes name (e ∷ es) zero g =
    rw (name_before name e (g.after 0 e (omega arith) (omega arith)))
    (ap (λ (ps : List Pair). pair_of e ∷ ps) (without-goes name es zero (none_left name e es g)))
without-goes name (e ∷ es) (suc i) g =
    rw (name_after name e (g.before 0 e (omega arith)))
    (ap (λ (ps : List Pair). pair_of e ∷ ps) (without-goes name es i (later_goes name e es i g)))

-- ---- items stay items

-- what is below each name and below the new one is below each after the change
below_put : (x name : List ℕ) (t : Tree) (ps : List Pair) → text_order x name ≡ Less
    → T (below_all text_order x ps)
    → T (below_all text_order x (with_pair name t ps))
below_put x name t [] p h = both_hold _ _ (less-holds _ p) tt
below_put x name t (q ∷ qs) p h =
    elim (text_order name q.0) as (λ o. T (below_all text_order x
    (by_order o ((name, t) ∷ q ∷ qs) ((q.0, t) ∷ qs) (q ∷ with_pair name t qs)))) [
      | Less ↦ both_hold _ _ (less-holds _ p) h
      | Equal ↦ h
      | Greater ↦ both_hold _ _ (first_holds _ _ h) (below_put x name t qs p (second_holds _ _ h))
    ]

-- and below each that is left
below_where : (x : List ℕ) (p : List ℕ → Bool) (qs : List Pair) → T (below_all text_order x qs)
    → T (below_all text_order x (where_key text_order p qs))
below_where x p [] h = tt
below_where x p (q ∷ qs) h =
    let rest : T (below_all text_order x (where_key text_order p qs)) =
    below_where x p qs (second_holds _ _ h) in
    elim (p q.0) as (λ b. T (below_all text_order x
    (cond b (q ∷ where_key text_order p qs) (where_key text_order p qs)))) [
      | true ↦ both_hold _ _ (first_holds _ _ h) rest
      | false ↦ rest
    ]

-- a name that isn't empty is above the empty one
above_empty : (name : List ℕ) → 0 < length name → text_order [] name ≡ Less
above_empty [] h = absurd (omega arith)
above_empty (c ∷ cs) h = refl

-- a put leaves an item
pub IsItem-with_pair : (name : List ℕ) (t : Tree) (ps : List Pair) → 0 < length name → IsItem ps
    → IsItem (with_pair name t ps)
IsItem-with_pair name t ps some item = (
  is_sorted-put text_order text_total name t ps item.0,
  below_put [] name t ps (above_empty name some) item.1,
)

-- and so does a removal
pub IsItem-without : (name : List ℕ) (ps : List Pair) → IsItem ps → IsItem (without name ps)
IsItem-without name ps item = (
  is_sorted-where_key text_order (λ other. not (eq_by_cmp text_order name other)) ps item.0,
  below_where [] (λ other. not (eq_by_cmp text_order name other)) ps item.1,
)
