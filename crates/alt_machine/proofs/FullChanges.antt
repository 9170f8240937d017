-- No set becomes empty by edits that put none that is.
use Rattle.std.proofs.Common.{ℕ, suc, nat_le, Bool, true, false, cond, T, List, [], ◌∷◌, ◌++◌, map, length, Option, Some, None, Ok, IfOk}
use Rattle.std.specs.Option.{option_map_or}
use Rattle.std.specs.Ordering.{nat_cmp}
use Rattle.std.specs.declared.cmp.Ordering.TheVariants.{Less, Equal, Greater}
use Rattle.std.specs.FinMap.Entries.{by_order}
use Rattle.std.specs.FinMap.Entries as entries
use Rattle.alt_base.proofs.Bools.{both_hold, first_holds, second_holds}
use Rattle.alt_expr.specs.Located.{View}
use Rattle.alt_expr.specs.Projected.{same_step, element_then, pair_then}
use Rattle.alt_expr.specs.Updated.{Edit, edits, edits_behind, under, put_here, is_taken, elements_past_end, put_name, put_names, outcome, changed, changed_elements, changed_fields, place_after, updated}
use Rattle.alt_expr.specs.declared.path.PathPart.{PathPart}
use Rattle.alt_expr.specs.declared.path.PathPart.TheVariants.{Name, Index}
use Rattle.alt_expr.specs.declared.update.Action.{Action}
use Rattle.alt_machine.specs.Ops.UpdateItem.{pairs_of, with_key_attributes}
use Rattle.alt_machine.proofs.Full.{MayFull, PairsFull, ViewFull, full-pairs, full-elements, full-append, full-with_pair}
use Rattle.alt_machine.proofs.FullActions.{EditFull, EditsFull, ActionsFull, full-edits}
use Rattle.alt_machine.proofs.FullTerms as term
use Rattle.alt_value.specs.Tree.{Tree, L_tree, M_tree, Trees, no_trees, tree_then, Fields, no_fields, field_then, Pair, trees_of, fields_of, elements, pairs}
use Rattle.alt_value.specs.Values.{sets_full, elements_full, fields_full}

-- ---- edits that go on from a step

full-behind : (s : PathPart) (e : Edit) → EditFull e → EditsFull (edits_behind s e)
full-behind s ([], v) h = tt
full-behind s (p ∷ ps, v) h = elim (same_step s p) as (λ b. EditsFull (cond b ((ps, v) ∷ []) [])) [
  | true ↦ (h, tt)
  | false ↦ tt
]

edits-append : (ds es : List Edit) → EditsFull ds → EditsFull es → EditsFull (ds ++ es)
edits-append [] es h k = k
edits-append (d ∷ ds) es h k = (h.0, edits-append ds es h.1 k)

full-under : (s : PathPart) (es : List Edit) → EditsFull es → EditsFull (under s es)
full-under s [] h = tt
full-under s (e ∷ es) h =
    edits-append (edits_behind s e) (under s es) (full-behind s e h.0) (full-under s es h.1)

-- ---- what is put

-- at the place itself
full-put_here : (es : List Edit) → EditsFull es → MayFull (put_here es)
full-put_here [] h = tt
full-put_here (([], Some t) ∷ es) h = h.0
full-put_here (([], None) ∷ es) h = full-put_here es h.1
full-put_here ((p ∷ ps, v) ∷ es) h = full-put_here es h.1

-- values at indexes, of which no set is empty
abbrev EntriesFull : List (ℕ × Tree) → Type 0
EntriesFull es = T (elements_full (trees_of (map (λ p. p.1) es)))

full-put : (i : ℕ) (t : Tree) (es : List (ℕ × Tree)) → T (sets_full t) → EntriesFull es
    → EntriesFull (entries.put nat_cmp i t es)
full-put i t [] h f = both_hold (sets_full t) true h tt
full-put i t (e ∷ es) h f =
    let others : EntriesFull es = second_holds (sets_full e.1) _ f in
    let more : EntriesFull (entries.put nat_cmp i t es) = full-put i t es h others in
    elim (nat_cmp i e.0) as (λ o. EntriesFull
    (by_order o ((i, t) ∷ e ∷ es) ((e.0, t) ∷ es) (e ∷ entries.put nat_cmp i t es))) [
      | Less ↦ both_hold (sets_full t) _ h f
      | Equal ↦ both_hold (sets_full t) _ h others
      | Greater ↦ both_hold (sets_full e.1) _ (first_holds (sets_full e.1) _ f) more
    ]

-- past the end of a list
full-past : (n : ℕ) (es : List Edit) → EditsFull es → EntriesFull (elements_past_end n es)
full-past n [] h = tt
full-past n (([], v) ∷ es) h = full-past n es h.1
full-past n ((Name name ∷ ps, v) ∷ es) h = full-past n es h.1
full-past n ((Index i ∷ [], None) ∷ es) h = full-past n es h.1
full-past n ((Index i ∷ [], Some t) ∷ es) h =
    let rest : EntriesFull (elements_past_end n es) = full-past n es h.1 in
    elim (nat_le n i) as
    (λ b. EntriesFull (cond b (entries.put nat_cmp i t (elements_past_end n es)) (elements_past_end n es))) [
      | true ↦ full-put i t (elements_past_end n es) h.0 rest
      | false ↦ rest
    ]
full-past n ((Index i ∷ q ∷ qs, v) ∷ es) h = full-past n es h.1

-- at a name
full-put_name : (name : List ℕ) (t : Tree) (ps : List Pair) → T (sets_full t) → PairsFull ps
    → PairsFull (put_name name t ps)
full-put_name [] t ps h f = f
full-put_name (c ∷ cs) t ps h f = full-with_pair (c ∷ cs) t ps h f

full-put_names : (es : List Edit) (ps : List Pair) → EditsFull es → PairsFull ps
    → PairsFull (put_names es ps)
full-put_names [] ps h f = f
full-put_names (([], v) ∷ es) ps h f = full-put_names es ps h.1 f
full-put_names ((Index i ∷ qs, v) ∷ es) ps h f = full-put_names es ps h.1 f
full-put_names ((Name name ∷ [], None) ∷ es) ps h f = full-put_names es ps h.1 f
full-put_names ((Name name ∷ [], Some t) ∷ es) ps h f =
    full-put_name name t (put_names es ps) h.0 (full-put_names es ps h.1 f)
full-put_names ((Name name ∷ q ∷ qs, v) ∷ es) ps h f = full-put_names es ps h.1 f

-- ---- what becomes of a value

full-outcome : (o : Option Tree) (out : Bool) (within : Tree) → MayFull o → T (sets_full within)
    → MayFull (outcome o out within)
full-outcome (Some t) out within h f = h
full-outcome None true within h f = tt
full-outcome None false within h f = f

full-element_then : (o : Option Tree) (ts : Trees) → MayFull o → T (elements_full ts)
    → T (elements_full (element_then o ts))
full-element_then None ts h f = f
full-element_then (Some t) ts h f = both_hold (sets_full t) _ h f

full-pair_then : (name : List ℕ) (o : Option Tree) (fs : Fields) → MayFull o → T (fields_full fs)
    → T (fields_full (pair_then name o fs))
full-pair_then name None fs h f = f
full-pair_then name (Some t) fs h f = both_hold (sets_full t) _ h f

mutual
  full-changed : (es : List Edit) (t : Tree) → EditsFull es → T (sets_full t)
      → MayFull (changed es t)
  full-changed es (L_tree ts) h f =
      let kept : List Tree = elements (changed_elements es 0 ts) in
      let new : List Tree = map (λ (p : ℕ × Tree). p.1) (elements_past_end (length (elements ts)) es) in
      full-outcome (put_here es) (is_taken es) (L_tree (trees_of (kept ++ new)))
      (full-put_here es h) (full-append kept new (full-elements (changed_elements es 0 ts)
      (full-changed_elements es 0 ts h f)) (full-past (length (elements ts)) es h))
  full-changed es (M_tree fs) h f =
      let kept : List Pair = pairs (changed_fields es fs) in
      full-outcome (put_here es) (is_taken es) (M_tree (fields_of (put_names es kept)))
      (full-put_here es h) (full-put_names es kept h (full-pairs (changed_fields es fs)
      (full-changed_fields es fs h f)))
  full-changed es t h f = full-outcome (put_here es) (is_taken es) t (full-put_here es h) f

  full-changed_elements : (es : List Edit) (i : ℕ) (ts : Trees) → EditsFull es
      → T (elements_full ts) → T (elements_full (changed_elements es i ts))
  full-changed_elements es i no_trees h f = tt
  full-changed_elements es i (tree_then t ts) h f =
      full-element_then (changed (under (Index i) es) t) (changed_elements es (suc i) ts)
      (full-changed (under (Index i) es) t (full-under (Index i) es h)
      (first_holds (sets_full t) _ f))
      (full-changed_elements es (suc i) ts h (second_holds (sets_full t) _ f))

  full-changed_fields : (es : List Edit) (fs : Fields) → EditsFull es → T (fields_full fs)
      → T (fields_full (changed_fields es fs))
  full-changed_fields es no_fields h f = tt
  full-changed_fields es (field_then name t fs) h f =
      full-pair_then name (changed (under (Name name) es) t) (changed_fields es fs)
      (full-changed (under (Name name) es) t (full-under (Name name) es h)
      (first_holds (sets_full t) _ f))
      (full-changed_fields es fs h (second_holds (sets_full t) _ f))

full-after : (es : List Edit) (o : Option Tree) → EditsFull es → MayFull o → MayFull (place_after es o)
full-after es None h f = full-put_here es h
full-after es (Some t) h f = full-changed es t h f

-- ---- items

-- an item after an update
pub full-updated : (view : View) (actions : List Action) → ViewFull view
    → ActionsFull view actions → IfOk (updated view actions) ViewFull
full-updated view actions full h = term.behind EditsFull ViewFull (edits view actions)
    (λ es. Ok (λ name. place_after (under (Name name) es) (view name))) (full-edits view actions h)
    (λ es k name. full-after (under (Name name) es) (view name) (full-under (Name name) es k)
    (full name))

-- the attributes of these names
pub full-pairs_of : (view : View) (names : List (List ℕ)) → ViewFull view
    → PairsFull (pairs_of view names)
full-pairs_of view [] h = tt
full-pairs_of view (name ∷ names) h =
    let rest : List Pair = pairs_of view names in
    let others : PairsFull rest = full-pairs_of view names h in
    (elim (view name) as
    (λ o. MayFull o → PairsFull (option_map_or (λ t. put_name name t rest) o rest)) [
      | None ↦ λ u. others
      | Some t ↦ λ f. full-put_name name t rest f others
    ]) (h name)

-- an item with the attributes of its key
pub full-with_key : (key item : List Pair) → PairsFull key → PairsFull item
    → PairsFull (with_key_attributes key item)
full-with_key [] item h f = f
full-with_key ((name, t) ∷ key) item h f =
    full-with_pair name t (with_key_attributes key item) (first_holds (sets_full t) _ h)
    (full-with_key key item (second_holds (sets_full t) _ h) f)
