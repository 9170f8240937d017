-- Pages of names: each name from the one before, and what is left after the last.
use Rattle.std.proofs.Common.{◌≡◌, refl, sym, ap, subst, ◌∙◌, ℕ, ◌-◌, ◌≤◌, Bool, true, false, cond, nat_lt, T, List, [], ◌∷◌, ◌++◌, map, take, length, Option, Some, None, option_map, slice_get, arith}
use Rattle.std.specs.Prelude.{is_some}
use Rattle.std.specs.List.{filter}
use Rattle.std.specs.Ordering.{is_lt}
use Rattle.std.specs.declared.cmp.Ordering.TheVariants.{Less}
use Rattle.std.specs.Cmp.{tied_itself}
use Rattle.std.specs.FinMap as map
use Rattle.std.specs.FinMap.{entries_sorted}
use Rattle.std.specs.FinMap.Entries.{below_all, is_sorted}
use Rattle.std.proofs.Math.Seq.{take-append_seam}
use Rattle.std.proofs.lemmas.List.{length-append, append_assoc}
use Rattle.std.specs.Bool.{passes}
use Rattle.alt_base.proofs.Bools.{first_holds, second_holds}
use Rattle.alt_base.proofs.Lists.{take_whole_and_nothing}
use Rattle.alt_base.proofs.Numbers.{from_is_found, below_is_found}
use Rattle.alt_base.proofs.Orderings.{is_lt-holds, not_lt_either}
use Rattle.serde_json.specs.Data.{string, item}
use Rattle.alt_codec.specs.Writing.{strings}
use Rattle.alt_schema.specs.Json.{items_by}
use Rattle.alt_machine.specs.Ops.ListTables.{names_after}
use Rattle.alt_machine.specs.State.{Texts}
use Rattle.alt_value.specs.Members.{text_order}
use Rattle.alt_value.proofs.Texts.{text_total}

-- ---- texts as strings

-- names written one by one as texts are the texts of the names
pub items_by-string : (ss : List (List ℕ)) → items_by (λ s. string s) ss ≡ strings ss
items_by-string [] = refl
items_by-string (s ∷ ss) = ap (λ ds. item (string s) ds) (items_by-string ss)

-- ---- the names after a name

same_Some : (x k : List ℕ) → Some x ≡ Some k → x ≡ k
same_Some x k e = cc

module _ {X : Type 0} where
  abbrev names : List (List ℕ × X) → List (List ℕ)
  names ps = map (λ p. p.0) ps

  abbrev after : List ℕ → List (List ℕ × X) → List (List ℕ)
  after name ps = filter (λ k. is_lt (text_order name k)) (map (λ p. p.0) ps)

  -- all of them, where each is above
  after-above : (name : List ℕ) (ps : List (List ℕ × X)) → T (below_all text_order name ps)
      → after name ps ≡ names ps
  after-above name [] h = refl
  after-above name (p ∷ ps) h = rw (is_lt-holds (text_order name p.0) (first_holds _ _ h))
      (ap (λ ks. p.0 ∷ ks) (after-above name ps (second_holds _ _ h)))

  above_all : (name k : List ℕ) (ps : List (List ℕ × X)) → text_order name k ≡ Less
      → T (below_all text_order k ps) → after name ps ≡ names ps
  above_all name k [] l h = refl
  above_all name k (p ∷ ps) l h =
      rw (text_total.trans name k p.0 l (is_lt-holds (text_order k p.0) (first_holds _ _ h)))
      (ap (λ ks. p.0 ∷ ks) (above_all name k ps l (second_holds _ _ h)))

  -- the first of them, and then those after it
  abbrev Next : List ℕ → List ℕ → List (List ℕ × X) → Type 0
  Next name k ps = (text_order name k ≡ Less) × (after name ps ≡ k ∷ after k ps)

  here : (name : List ℕ) (p : List ℕ × X) (ps : List (List ℕ × X))
      → T (is_sorted text_order (p ∷ ps)) → text_order name p.0 ≡ Less → Next name p.0 (p ∷ ps)
  here name p ps s l = (
    l,
    rw (l, tied_itself text_total p.0) (ap (λ ks. p.0 ∷ ks)
        (above_all name p.0 ps l (first_holds _ _ s)
        ∙ sym (after-above p.0 ps (first_holds _ _ s)))),
  )

  later : (name k : List ℕ) (p : List ℕ × X) (ps : List (List ℕ × X))
      → is_lt (text_order name p.0) ≡ false → Next name k ps → Next name k (p ∷ ps)
  later name k p ps t n =
      let below : is_lt (text_order k p.0) ≡ false =
      not_lt_either _ _ (λ l. text_total.trans name k p.0 n.0 l) t in
      (n.0, rw (t, below) n.1)

  by_test : (b : Bool) (name k : List ℕ) (p : List ℕ × X) (ps : List (List ℕ × X))
      → is_lt (text_order name p.0) ≡ b → T (is_sorted text_order (p ∷ ps))
      → slice_get (after name (p ∷ ps)) 0 ≡ Some k
      → (slice_get (after name ps) 0 ≡ Some k → Next name k ps) → Next name k (p ∷ ps)
  by_test true name k p ps t s h more =
      subst (λ x. Next name x (p ∷ ps)) (same_Some p.0 k
      (sym (ap (λ b. slice_get (cond b (p.0 ∷ after name ps) (after name ps)) 0) t) ∙ h))
      (here name p ps s (is_lt-holds _ (passes _ t)))
  by_test false name k p ps t s h more =
      later name k p ps t (more (sym (ap (λ b. slice_get
      (cond b (p.0 ∷ after name ps) (after name ps)) 0) t) ∙ h))

  next : (name k : List ℕ) (ps : List (List ℕ × X)) → T (is_sorted text_order ps)
      → slice_get (after name ps) 0 ≡ Some k → Next name k ps
  next name k [] s h = absurd (let f : ⊥ = cc in f)
  next name k (p ∷ ps) s h = by_test (is_lt (text_order name p.0)) name k p ps refl s h
      (λ e. next name k ps (second_holds _ _ s) e)

-- the names after one begin with the next, and go on with those after that
pub names-next : {X : Type 0} (last k : List ℕ) (m : Texts X)
    → Some k ≡ slice_get (names_after last m) 0 → names_after last m ≡ k ∷ names_after k m
names-next last k m h = (next last k (map.entries m) (entries_sorted m) (sym h)).1

-- ---- a page

-- a name more
pub named_more : {X : Type 0} (start last k : List ℕ) (m : Texts X) (ns more : List (List ℕ))
    → Some k ≡ slice_get (names_after last m) 0
    → more ≡ ns ++ k ∷ [] → ns ++ names_after last m ≡ names_after start m
    → more ++ names_after k m ≡ names_after start m
named_more start last k m ns more at is before =
    ap (λ l. l ++ names_after k m) is ∙ append_assoc ns (k ∷ []) (names_after k m)
    ∙ ap (λ l. ns ++ l) (sym (names-next last k m at)) ∙ before

-- the page is full, or nothing is left
pub data Ends (most : ℕ) (ns rest : List (List ℕ)) : Type 0 where
  is_full : length ns ≡ most → Ends most ns rest
  is_last : None ≡ slice_get rest 0 → length ns ≤ most → Ends most ns rest

-- names that end so are the first ones, as many as a page takes
pub page-names : (most : ℕ) (ns rest all : List (List ℕ)) → Ends most ns rest → ns ++ rest ≡ all
    → ns ≡ take most all
page-names most ns rest all (is_full l) e = sym
    (ap (take most) (sym e) ∙ ap (λ n. take n (ns ++ rest)) (sym l) ∙ take-append_seam ns rest)
page-names most ns [] all (is_last n l) e =
    sym (ap (take most) (sym e) ∙ take_whole_and_nothing ns most l)
page-names most ns (k ∷ rest) all (is_last n l) e = absurd (let f : ⊥ = cc in f)

-- where names end so there is one behind them exactly if there are more than a page takes
pub page-more : {A : Type 0} (f : A → List ℕ) (o : Option A) (most : ℕ)
    (ns rest all : List (List ℕ)) → Ends most ns rest → ns ++ rest ≡ all
    → option_map f o ≡ slice_get rest 0 → is_some o ≡ nat_lt most (length all)
page-more f None most ns [] all (is_full l) e at =
    from_is_found _ _ (let m : length (ns ++ []) ≡ length all = ap length e in
    omega (arith, length-append ns [], m, l))
page-more f None most ns (k ∷ rest) all (is_full l) e at = absurd (let f : ⊥ = cc in f)
page-more f (Some x) most ns [] all (is_full l) e at = absurd (let f : ⊥ = cc in f)
page-more f (Some x) most ns (k ∷ rest) all (is_full l) e at =
    below_is_found _ _ (let m : length (ns ++ k ∷ rest) ≡ length all = ap length e in
    omega (arith, length-append ns (k ∷ rest), m, l))
page-more f None most ns [] all (is_last n l) e at =
    from_is_found _ _ (let m : length (ns ++ []) ≡ length all = ap length e in
    omega (arith, length-append ns [], m, l))
page-more f (Some x) most ns [] all (is_last n l) e at = absurd (let f : ⊥ = cc in f)
page-more f o most ns (k ∷ rest) all (is_last n l) e at = absurd (let f : ⊥ = cc in f)
