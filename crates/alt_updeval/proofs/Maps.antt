-- A map with edits within it, name by name.
use Rattle.std.proofs.Common.{◌≡◌, refl, sym, ap, ◌∙◌, ℕ, ◌+◌, Bool, true, false, cond, T, List, [], ◌∷◌, ◌++◌, take, Option, Some, None}
use Rattle.std.specs.Prelude.{option_and_then, slice_get, is_none, if◌then◌else◌}
use Rattle.std.specs.Option.{option_or}
use Rattle.std.specs.Ordering.{eq_by_cmp}
use Rattle.std.specs.Str.{bytes_eq}
use Rattle.std.specs.FinMap.Entries.{find-put, find-append, below_all, is_sorted, is_sorted-put, same_entries}
use Rattle.alt_base.proofs.Bools.{first_holds, second_holds}
use Rattle.alt_base.proofs.Orderings.{is_eq-true}
use Rattle.alt_value.specs.Item.{IsItem, at_name}
use Rattle.alt_value.specs.Members.{text_order}
use Rattle.alt_value.specs.Tree.{Tree, Fields, Pair, fields_of, pairs}
use Rattle.alt_value.proofs.Texts.{text_total, text_apart}
use Rattle.alt_expr.specs.declared.path.PathPart.{PathPart}
use Rattle.alt_expr.specs.declared.path.PathPart.TheVariants.{Name, Index}
use Rattle.alt_expr.specs.Projected.{pair_then}
use Rattle.alt_expr.specs.Updated.{Edit, under, changed, changed_fields, put_here, put_name, put_names}
use Rattle.alt_expr.proofs.Picked.{below-picked, passed, sorted-picked}
use Rattle.alt_updeval.specs.Shown.{put_at, new_at, put_if, put_new_if}
use Rattle.alt_updeval.proofs.Under.{put-changed}
use Rattle.alt_value.proofs.NamedPairs.{none_before as gone, none_below_all}
use Rattle.alt_value.proofs.TextTies.{text_ties}

or-none : (o : Option Tree) → option_or o None ≡ o
or-none None = refl
or-none (Some t) = refl

-- ---- what becomes of the values

picked : (q name : List ℕ) (o : Option Tree) (fs : Fields)
    → at_name q (pairs (pair_then name o fs))
    ≡ cond (eq_by_cmp text_order q name) (option_or o (at_name q (pairs fs)))
    (at_name q (pairs fs))
picked q name None fs = elim (eq_by_cmp text_order q name) as (λ b. at_name q (pairs fs)
    ≡ cond b (at_name q (pairs fs)) (at_name q (pairs fs))) [ true ↦ refl | false ↦ refl ]
picked q name (Some t) fs = refl

-- each name has what becomes of its value
pub at_name-fields : (es : List Edit) (q : List ℕ) (ps : List Pair) → T (is_sorted text_order ps)
    → at_name q (pairs (changed_fields es (fields_of ps)))
    ≡ option_and_then (changed (under (Name q) es)) (at_name q ps)
at_name-fields es q [] h = refl
at_name-fields es q (p ∷ ps) h =
    let rest = at_name-fields es q ps (second_holds _ _ h) in
    picked q p.0 (changed (under (Name p.0) es) p.1) (changed_fields es (fields_of ps)) ∙
    elim (eq_by_cmp text_order q p.0) as (λ b. eq_by_cmp text_order q p.0 ≡ b
    → cond b (option_or (changed (under (Name p.0) es) p.1)
    (at_name q (pairs (changed_fields es (fields_of ps)))))
    (at_name q (pairs (changed_fields es (fields_of ps))))
    ≡ option_and_then (changed (under (Name q) es)) (cond b (Some p.1) (at_name q ps))) [
      | true ↦ λ e.
          let same : q ≡ p.0 = text_apart q p.0 (is_eq-true (text_order q p.0) e) in
          let gone : at_name q ps ≡ None = ap (λ (m : List ℕ). at_name m ps) same
          ∙ none_below_all p.0 ps (first_holds _ _ h) in
          ap (option_or (changed (under (Name p.0) es) p.1))
          (rest ∙ ap (option_and_then (changed (under (Name q) es))) gone)
          ∙ or-none (changed (under (Name p.0) es) p.1)
          ∙ ap (λ (m : List ℕ). changed (under (Name m) es) p.1) (sym same)
      | false ↦ λ e. rest
    ] refl

below-fields : (x : List ℕ) (es : List Edit) (ps : List Pair) → T (below_all text_order x ps)
    → T (below_all text_order x (pairs (changed_fields es (fields_of ps))))
below-fields x es [] h = tt
below-fields x es (p ∷ ps) h =
    below-picked x p.0 (changed (under (Name p.0) es) p.1) (changed_fields es (fields_of ps))
    (first_holds _ _ h) (below-fields x es ps (second_holds _ _ h))

sorted-fields : (es : List Edit) (ps : List Pair) → T (is_sorted text_order ps)
    → T (is_sorted text_order (pairs (changed_fields es (fields_of ps))))
sorted-fields es [] h = tt
sorted-fields es (p ∷ ps) h =
    sorted-picked p.0 (changed (under (Name p.0) es) p.1) (changed_fields es (fields_of ps))
    (below-fields p.0 es ps (first_holds _ _ h)) (sorted-fields es ps (second_holds _ _ h))

-- ---- what is put at names

skipped : (q n : List ℕ) (ss : List PathPart) (v : Option Tree) (es : List Edit)
    → ((vs : List Edit) → put_here ((ss, v) ∷ vs) ≡ put_here vs)
    → put_at es q ≡ put_at ((Name n ∷ ss, v) ∷ es) q
skipped [] n ss v es h = refl
skipped (c ∷ cs) n ss v es h = passed (ss, v) (under (Name (c ∷ cs)) es) (bytes_eq (c ∷ cs) n) h

elsewhere : (q : List ℕ) (i : ℕ) (ss : List PathPart) (v : Option Tree) (es : List Edit)
    → put_at es q ≡ put_at ((Index i ∷ ss, v) ∷ es) q
elsewhere [] i ss v es = refl
elsewhere (c ∷ cs) i ss v es = refl

above : (q : List ℕ) (v : Option Tree) (es : List Edit) → put_at es q ≡ put_at (([], v) ∷ es) q
above [] v es = refl
above (c ∷ cs) v es = refl

-- one name more is put
named : (q n : List ℕ) (t : Tree) (es : List Edit) (ps : List Pair) (before : List Pair)
    → at_name q before ≡ option_or (put_at es q) (at_name q ps)
    → at_name q (put_name n t before) ≡ option_or (put_at ((Name n ∷ [], Some t) ∷ es) q)
    (at_name q ps)
named [] [] t es ps before is = is
named (c ∷ cs) [] t es ps before is = is
named [] (d ∷ ds) t es ps before is = find-put text_order text_total [] (d ∷ ds) t before ∙ is
named (c ∷ cs) (d ∷ ds) t es ps before is =
    find-put text_order text_total (c ∷ cs) (d ∷ ds) t before
    ∙ ap (λ b. cond b (Some t) (at_name (c ∷ cs) before)) (text_ties (c ∷ cs) (d ∷ ds))
    ∙ elim (bytes_eq (c ∷ cs) (d ∷ ds)) as (λ b. cond b (Some t) (at_name (c ∷ cs) before)
    ≡ option_or (put_here (cond b (([], Some t) ∷ []) [] ++ under (Name (c ∷ cs)) es))
    (at_name (c ∷ cs) ps)) [
      | true ↦ refl
      | false ↦ is
    ]

-- what stands at a name after edits put is what they put there, or what stood there
pub at_name-put_names : (es : List Edit) (ps : List Pair) (q : List ℕ)
    → at_name q (put_names es ps) ≡ option_or (put_at es q) (at_name q ps)
at_name-put_names [] ps [] = refl
at_name-put_names [] ps (c ∷ cs) = refl
at_name-put_names (([], v) ∷ es) ps q = at_name-put_names es ps q
    ∙ ap (λ o. option_or o (at_name q ps)) (above q v es)
at_name-put_names ((Index i ∷ ss, v) ∷ es) ps q = at_name-put_names es ps q
    ∙ ap (λ o. option_or o (at_name q ps)) (elsewhere q i ss v es)
at_name-put_names ((Name n ∷ [], Some t) ∷ es) ps q =
    named q n t es ps (put_names es ps) (at_name-put_names es ps q)
at_name-put_names ((Name n ∷ [], None) ∷ es) ps q = at_name-put_names es ps q
    ∙ ap (λ o. option_or o (at_name q ps)) (skipped q n [] None es (λ vs. refl))
at_name-put_names ((Name n ∷ s ∷ ss, v) ∷ es) ps q = at_name-put_names es ps q
    ∙ ap (λ o. option_or o (at_name q ps)) (skipped q n (s ∷ ss) v es (λ vs. refl))

-- pairs that rise do so with one more put in
sorted-put_name : (n : List ℕ) (t : Tree) (ps : List Pair) → T (is_sorted text_order ps)
    → T (is_sorted text_order (put_name n t ps))
sorted-put_name [] t ps h = h
sorted-put_name (c ∷ cs) t ps h = is_sorted-put text_order text_total (c ∷ cs) t ps h

sorted-put_names : (es : List Edit) (ps : List Pair) → T (is_sorted text_order ps)
    → T (is_sorted text_order (put_names es ps))
sorted-put_names [] ps h = h
sorted-put_names (([], v) ∷ es) ps h = sorted-put_names es ps h
sorted-put_names ((Index i ∷ ss, v) ∷ es) ps h = sorted-put_names es ps h
sorted-put_names ((Name n ∷ [], Some t) ∷ es) ps h =
    sorted-put_name n t (put_names es ps) (sorted-put_names es ps h)
sorted-put_names ((Name n ∷ [], None) ∷ es) ps h = sorted-put_names es ps h
sorted-put_names ((Name n ∷ s ∷ ss, v) ∷ es) ps h = sorted-put_names es ps h

-- ---- the whole map

-- what is put at a name that is there is what becomes of it
covered : (es : List Edit) (q : List ℕ) (o : Option Tree)
    → option_or (if is_none o then put_at es q else None)
    (option_and_then (changed (under (Name q) es)) o)
    ≡ option_or (put_at es q) (option_and_then (changed (under (Name q) es)) o)
covered es q None = refl
covered es [] (Some t) = refl
covered es (c ∷ cs) (Some t) = sym (put-changed (under (Name (c ∷ cs)) es) t)

-- a map made of old pairs with their edits, and of new ones, is the map with all edits
pub map-from : (es : List Edit) (ps out : List Pair) → IsItem ps → IsItem out
    → ((q : List ℕ) → at_name q out ≡ option_or (new_at es ps q)
    (option_and_then (changed (under (Name q) es)) (at_name q ps)))
    → out ≡ put_names es (pairs (changed_fields es (fields_of ps)))
map-from es ps out is_item is_out each =
    same_entries text_order text_total text_apart out
    (put_names es (pairs (changed_fields es (fields_of ps)))) is_out.0
    (sorted-put_names es (pairs (changed_fields es (fields_of ps))) (sorted-fields es ps is_item.0))
    (λ q. each q ∙ covered es q (at_name q ps)
    ∙ sym (at_name-put_names es (pairs (changed_fields es (fields_of ps))) q
    ∙ ap (option_or (put_at es q)) (at_name-fields es q ps is_item.0)))

-- ---- one pair more

-- what stands at a name after a value that may be there was put
pub at_name-put_if : (q name : List ℕ) (o : Option Tree) (ps : List Pair)
    → at_name q (put_if name o ps) ≡ cond (eq_by_cmp text_order q name) (option_or o (at_name q ps))
    (at_name q ps)
at_name-put_if q name None ps = elim (eq_by_cmp text_order q name) as (λ b. at_name q ps
    ≡ cond b (at_name q ps) (at_name q ps)) [ true ↦ refl | false ↦ refl ]
at_name-put_if q name (Some t) ps = find-put text_order text_total q name t ps

module _ (es : List Edit) (ps : List Pair) where
  -- each name so far has what becomes of its value
  abbrev pub Upto : ℕ → List Pair → Type 0
  Upto i out = (q : List ℕ)
      → at_name q out ≡ option_and_then (changed (under (Name q) es)) (at_name q (take i ps))

  -- one pair more is looked at, with what its edits make of it
  pub one_more : (i : ℕ) (name : List ℕ) (v : Tree) (before now : List Pair)
      → T (is_sorted text_order ps) → slice_get ps i ≡ Some (name, v)
      → take (i + 1) ps ≡ take i ps ++ (name, v) ∷ [] → Upto i before
      → now ≡ put_if name (changed (under (Name name) es) v) before → Upto (i + 1) now
  one_more i name v before now sorted stands more was put q =
      let before_q : at_name q (take (i + 1) ps)
      ≡ cond (eq_by_cmp text_order q name) (Some v) (at_name q (take i ps)) =
      ap (at_name q) more ∙ find-append text_order text_total (take i ps) name v q
      (gone ps i name v sorted stands) in
      ap (at_name q) put ∙ at_name-put_if q name (changed (under (Name name) es) v) before ∙
      elim (eq_by_cmp text_order q name) as (λ b. eq_by_cmp text_order q name ≡ b
      → cond b (option_or (changed (under (Name name) es) v) (at_name q before)) (at_name q before)
      ≡ option_and_then (changed (under (Name q) es))
      (cond b (Some v) (at_name q (take i ps)))) [
        | true ↦ λ e.
            let same : q ≡ name = text_apart q name (is_eq-true (text_order q name) e) in
            let none : at_name q (take i ps) ≡ None =
            ap (λ (m : List ℕ). at_name m (take i ps)) same ∙ gone ps i name v sorted stands in
            ap (option_or (changed (under (Name name) es) v))
            (was q ∙ ap (option_and_then (changed (under (Name q) es))) none)
            ∙ or-none (changed (under (Name name) es) v)
            ∙ ap (λ (m : List ℕ). changed (under (Name m) es) v) (sym same)
        | false ↦ λ e. was q
      ] refl
      ∙ sym (ap (option_and_then (changed (under (Name q) es))) before_q)

-- ---- one new name more

-- a new name is put exactly where edits put it
pub put_new : (name : List ℕ) (b : Bool) (es : List Edit) (before : List Pair)
    → put_new_if name (put_here (if b then under (Name name) es else [])) before
    ≡ put_if name (if b then put_at es name else None) before
put_new [] true es before = refl
put_new [] false es before = refl
put_new (c ∷ cs) true es before = refl
put_new (c ∷ cs) false es before = refl

-- a value that is put a second time changes nothing
over_again : (o p : Option Tree) (b : Bool) → option_or o (cond b (option_or o p) p) ≡ option_or o p
over_again None p true = refl
over_again None p false = refl
over_again (Some t) p b = refl

module _ (es : List Edit) (ps out0 : List Pair) where
  -- each new name that was seen has what is put there
  abbrev pub Seen : (List ℕ → Bool) → List Pair → Type 0
  Seen seen out = (q : List ℕ) → at_name q out
      ≡ cond (seen q) (option_or (new_at es ps q) (at_name q out0)) (at_name q out0)

  -- a new name more is seen, and what is put there is
  pub seen_more : (seen more : List ℕ → Bool) (name : List ℕ) (before now : List Pair)
      → Seen seen before
      → ((q : List ℕ) → more q ≡ cond (eq_by_cmp text_order q name) true (seen q))
      → now ≡ put_if name (new_at es ps name) before → Seen more now
  seen_more seen more name before now was is put q =
      ap (at_name q) put ∙ at_name-put_if q name (new_at es ps name) before ∙
      elim (eq_by_cmp text_order q name) as (λ b. eq_by_cmp text_order q name ≡ b
      → cond b (option_or (new_at es ps name) (at_name q before)) (at_name q before)
      ≡ cond (more q) (option_or (new_at es ps q) (at_name q out0)) (at_name q out0)) [
        | true ↦ λ e.
            let same : q ≡ name = text_apart q name (is_eq-true (text_order q name) e) in
            ap (λ (m : List ℕ). option_or (new_at es ps m) (at_name q before)) (sym same)
            ∙ ap (option_or (new_at es ps q)) (was q)
            ∙ over_again (new_at es ps q) (at_name q out0) (seen q)
            ∙ ap (λ b. cond b (option_or (new_at es ps q) (at_name q out0)) (at_name q out0))
            (sym (is q ∙ ap (λ b. cond b true (seen q)) e))
        | false ↦ λ e. was q
            ∙ ap (λ b. cond b (option_or (new_at es ps q) (at_name q out0)) (at_name q out0))
            (sym (is q ∙ ap (λ b. cond b true (seen q)) e))
      ] refl
