-- Edits whose values stand in for others make of an item what stands in for the item.
use Rattle.std.proofs.Common.{◌≡◌, refl, ap, subst, ◌∙◌, ℕ, suc, ◌≤◌, nat_le, Bool, true, false, List, [], ◌∷◌, ◌++◌, map, length, Option, Some, None, arith}
use Rattle.std.specs.Prelude.{if◌then◌else◌, max}
use Rattle.std.specs.FinMap.Entries as entries
use Rattle.std.specs.Ordering.{nat_cmp}
use Rattle.std.specs.declared.cmp.Ordering.{Ordering}
use Rattle.std.specs.declared.cmp.Ordering.TheVariants.{Less, Equal, Greater}
use Rattle.alt_value.specs.Members.{text_order}
use Rattle.alt_value.specs.Size.{depth, elements_depth, fields_depth, elements_size, fields_size}
use Rattle.alt_value.specs.Tree.{Tree, S_tree, N_tree, B_tree, BOOL_tree, NULL_tree, SS_tree, NS_tree, BS_tree, L_tree, M_tree, Trees, no_trees, tree_then, Fields, no_fields, field_then, Pair, trees_of, fields_of, elements, pairs}
use Rattle.alt_expr.specs.Projected.{same_step, element_then, pair_then}
use Rattle.alt_expr.specs.Updated.{Edit, edits_behind, under, put_here, is_taken, elements_past_end, put_name, put_names, outcome, changed, changed_elements, changed_fields, place_after}
use Rattle.alt_expr.specs.declared.path.PathPart.{PathPart}
use Rattle.alt_expr.specs.declared.path.PathPart.TheVariants.{Name, Index}
use Rattle.alt_updeval.specs.StandsIn.{StandsIn, StandsInIf, EachOfTwo, StandsInAt, StandsInEdit}

-- ---- values and lists of them

-- a value stands in for itself
pub itself : (t : Tree) → StandsIn t t
itself t = record { as_deep = refl; no_larger = omega arith; same_key = refl }

-- so does one that may be missing
pub itself_if : (o : Option Tree) → StandsInIf o o
itself_if None = tt
itself_if (Some t) = itself t

-- two lists behind two others
pub each-append : {A : Type 0} (R : A → A → Type 0) (xs ys vs ws : List A) → EachOfTwo R xs ys
    → EachOfTwo R vs ws → EachOfTwo R (xs ++ vs) (ys ++ ws)
each-append R [] [] vs ws h k = k
each-append R (x ∷ xs) (y ∷ ys) vs ws h k = (h.0, each-append R xs ys vs ws h.1 k)
each-append R [] (y ∷ ys) vs ws h k = absurd h
each-append R (x ∷ xs) [] vs ws h k = absurd h

-- What two lists of values have in common.
record AreAlike (xs ys : List Tree) : Type 0 where
  deep : elements_depth (trees_of xs) ≡ elements_depth (trees_of ys)
  large : elements_size (trees_of xs) ≤ elements_size (trees_of ys)
  long : length (elements (trees_of xs)) ≡ length (elements (trees_of ys))

alike : (xs ys : List Tree) → EachOfTwo StandsIn xs ys → AreAlike xs ys
alike [] [] h = record { deep = refl; large = omega arith; long = refl }
alike (x ∷ xs) (y ∷ ys) h =
    let rest = alike xs ys h.1 in
    record {
      deep = ap (λ n. max n (elements_depth (trees_of xs))) h.0.as_deep
          ∙ ap (max (depth y)) rest.deep;
      large = let a = h.0.no_larger in let b = rest.large in omega (arith, a, b);
      long = ap suc rest.long;
    }
alike [] (y ∷ ys) h = absurd h
alike (x ∷ xs) [] h = absurd h

-- a list of values that stand in for those of another
list_in : (xs ys : List Tree) → EachOfTwo StandsIn xs ys
    → StandsIn (L_tree (trees_of xs)) (L_tree (trees_of ys))
list_in xs ys h =
    let both = alike xs ys h in
    record {
      as_deep = ap suc both.deep;
      no_larger = let a = both.large in let b = both.long in omega (arith, a, b);
      same_key = refl;
    }

-- What two lists of pairs have in common.
pub record ArePairsAlike (ps qs : List Pair) : Type 0 where
  pub deep : fields_depth (fields_of ps) ≡ fields_depth (fields_of qs)
  pub large : fields_size (fields_of ps) ≤ fields_size (fields_of qs)
  pub long : length (pairs (fields_of ps)) ≡ length (pairs (fields_of qs))

-- so for the pairs of maps and items
pub pairs_alike : (ps qs : List Pair) → EachOfTwo StandsInAt ps qs → ArePairsAlike ps qs
pairs_alike [] [] h = record { deep = refl; large = omega arith; long = refl }
pairs_alike (p ∷ ps) (q ∷ qs) h =
    let rest = pairs_alike ps qs h.1 in
    record {
      deep = ap (λ n. max n (fields_depth (fields_of ps))) h.0.1.as_deep
          ∙ ap (max (depth q.1)) rest.deep;
      large =
          let a = h.0.1.no_larger in
          let b = rest.large in
          let c : length p.0 ≡ length q.0 = ap (λ (n : List ℕ). length n) h.0.0 in
          omega (arith, a, b, c);
      long = ap suc rest.long;
    }
pairs_alike [] (q ∷ qs) h = absurd h
pairs_alike (p ∷ ps) [] h = absurd h

-- a map of values that stand in for those of another
map_in : (ps qs : List Pair) → EachOfTwo StandsInAt ps qs
    → StandsIn (M_tree (fields_of ps)) (M_tree (fields_of qs))
map_in ps qs h =
    let both = pairs_alike ps qs h in
    record {
      as_deep = ap suc both.deep;
      no_larger = let a = both.large in let b = both.long in omega (arith, a, b);
      same_key = refl;
    }

-- the values of pairs
values_in : (ps qs : List (ℕ × Tree)) → EachOfTwo StandsInAt ps qs
    → EachOfTwo StandsIn (map (λ p. p.1) ps) (map (λ p. p.1) qs)
values_in [] [] h = tt
values_in (p ∷ ps) (q ∷ qs) h = (h.0.1, values_in ps qs h.1)
values_in [] (q ∷ qs) h = absurd h
values_in (p ∷ ps) [] h = absurd h

-- ---- entries in order

module _ {K : Type 0} (R : K → K → Ordering) (k : K) (t u : Tree) (here : StandsIn t u) where
  -- one value more
  pub put_in : (ps qs : List (K × Tree)) → EachOfTwo StandsInAt ps qs
      → EachOfTwo StandsInAt (entries.put R k t ps) (entries.put R k u qs)
  put_in [] [] h = ((refl, here), tt)
  put_in (p ∷ ps) (q ∷ qs) h =
      subst (λ (x : K). EachOfTwo StandsInAt (entries.put R k t (p ∷ ps))
      (entries.put R k u ((x, q.1) ∷ qs))) h.0.0
      (elim (R k p.0) as (λ (r : Ordering). EachOfTwo StandsInAt
      (entries.by_order r ((k, t) ∷ p ∷ ps) ((p.0, t) ∷ ps) (p ∷ entries.put R k t ps))
      (entries.by_order r ((k, u) ∷ (p.0, q.1) ∷ qs) ((p.0, u) ∷ qs)
      ((p.0, q.1) ∷ entries.put R k u qs))) [
        | Less ↦ ((refl, here), ((refl, h.0.1), h.1))
        | Equal ↦ ((refl, here), h.1)
        | Greater ↦ ((refl, h.0.1), put_in ps qs h.1)
      ])
  put_in [] (q ∷ qs) h = absurd h
  put_in (p ∷ ps) [] h = absurd h

-- a value at a name, which may be empty
pub put_name_in : (name : List ℕ) (t u : Tree) → StandsIn t u → (ps qs : List Pair)
    → EachOfTwo StandsInAt ps qs → EachOfTwo StandsInAt (put_name name t ps) (put_name name u qs)
put_name_in [] t u here ps qs h = h
put_name_in (c ∷ cs) t u here ps qs h = put_in text_order (c ∷ cs) t u here ps qs h

-- ---- edits

behind_in : (s : PathPart) (path : List PathPart) (v w : Option Tree) → StandsInIf v w
    → EachOfTwo StandsInEdit (edits_behind s (path, v)) (edits_behind s (path, w))
behind_in s [] v w h = tt
behind_in s (p ∷ ps) v w h = elim (same_step s p) as (λ (b : Bool). EachOfTwo StandsInEdit
    (if b then (ps, v) ∷ [] else []) (if b then (ps, w) ∷ [] else [])) [
      | true ↦ ((refl, h), tt)
      | false ↦ tt
    ]

-- the edits that go on from a step
pub under_in : (s : PathPart) (es fs : List Edit) → EachOfTwo StandsInEdit es fs
    → EachOfTwo StandsInEdit (under s es) (under s fs)
under_in s [] [] h = tt
under_in s (e ∷ es) (f ∷ fs) h =
    each-append StandsInEdit (edits_behind s e) (edits_behind s f) (under s es) (under s fs)
    (subst (λ (p : List PathPart). EachOfTwo StandsInEdit (edits_behind s e) (edits_behind s (p, f.1))) h.0.0
    (behind_in s e.0 e.1 f.1 h.0.1)) (under_in s es fs h.1)
under_in s [] (f ∷ fs) h = absurd h
under_in s (e ∷ es) [] h = absurd h

here_one : (path : List PathPart) (v w : Option Tree) (es fs : List Edit) → StandsInIf v w
    → StandsInIf (put_here es) (put_here fs)
    → StandsInIf (put_here ((path, v) ∷ es)) (put_here ((path, w) ∷ fs))
here_one [] None None es fs h rest = rest
here_one [] (Some t) (Some u) es fs h rest = h
here_one [] None (Some u) es fs h rest = absurd h
here_one [] (Some t) None es fs h rest = absurd h
here_one (p ∷ ps) v w es fs h rest = rest

-- what is put at this very place
pub here_in : (es fs : List Edit) → EachOfTwo StandsInEdit es fs
    → StandsInIf (put_here es) (put_here fs)
here_in [] [] h = tt
here_in (e ∷ es) (f ∷ fs) h =
    subst (λ (p : List PathPart). StandsInIf (put_here (e ∷ es)) (put_here ((p, f.1) ∷ fs))) h.0.0
    (here_one e.0 e.1 f.1 es fs h.0.1 (here_in es fs h.1))
here_in [] (f ∷ fs) h = absurd h
here_in (e ∷ es) [] h = absurd h

taken_one : (path : List PathPart) (v w : Option Tree) (es fs : List Edit) → StandsInIf v w
    → is_taken es ≡ is_taken fs → is_taken ((path, v) ∷ es) ≡ is_taken ((path, w) ∷ fs)
taken_one [] None None es fs h rest = refl
taken_one [] (Some t) (Some u) es fs h rest = rest
taken_one [] None (Some u) es fs h rest = absurd h
taken_one [] (Some t) None es fs h rest = absurd h
taken_one (p ∷ ps) v w es fs h rest = rest

-- the same places are taken out
taken_in : (es fs : List Edit) → EachOfTwo StandsInEdit es fs → is_taken es ≡ is_taken fs
taken_in [] [] h = refl
taken_in (e ∷ es) (f ∷ fs) h =
    subst (λ (p : List PathPart). is_taken (e ∷ es) ≡ is_taken ((p, f.1) ∷ fs)) h.0.0
    (taken_one e.0 e.1 f.1 es fs h.0.1 (taken_in es fs h.1))
taken_in [] (f ∷ fs) h = absurd h
taken_in (e ∷ es) [] h = absurd h

past_one : (n : ℕ) (path : List PathPart) (v w : Option Tree) (es fs : List Edit) → StandsInIf v w
    → EachOfTwo StandsInAt (elements_past_end n es) (elements_past_end n fs)
    → EachOfTwo StandsInAt (elements_past_end n ((path, v) ∷ es)) (elements_past_end n ((path, w) ∷ fs))
past_one n [] v w es fs h rest = rest
past_one n (Name name ∷ ps) v w es fs h rest = rest
past_one n (Index i ∷ p ∷ ps) v w es fs h rest = rest
past_one n (Index i ∷ []) None None es fs h rest = rest
past_one n (Index i ∷ []) (Some t) (Some u) es fs h rest =
    elim (nat_le n i) as (λ (b : Bool). EachOfTwo StandsInAt
    (if b then entries.put nat_cmp i t (elements_past_end n es) else elements_past_end n es)
    (if b then entries.put nat_cmp i u (elements_past_end n fs) else elements_past_end n fs)) [
      | true ↦ put_in nat_cmp i t u h (elements_past_end n es) (elements_past_end n fs) rest
      | false ↦ rest
    ]
past_one n (Index i ∷ []) None (Some u) es fs h rest = absurd h
past_one n (Index i ∷ []) (Some t) None es fs h rest = absurd h

-- what is put past the end
past_in : (n : ℕ) (es fs : List Edit) → EachOfTwo StandsInEdit es fs
    → EachOfTwo StandsInAt (elements_past_end n es) (elements_past_end n fs)
past_in n [] [] h = tt
past_in n (e ∷ es) (f ∷ fs) h =
    subst (λ (p : List PathPart). EachOfTwo StandsInAt (elements_past_end n (e ∷ es))
    (elements_past_end n ((p, f.1) ∷ fs))) h.0.0
    (past_one n e.0 e.1 f.1 es fs h.0.1 (past_in n es fs h.1))
past_in n [] (f ∷ fs) h = absurd h
past_in n (e ∷ es) [] h = absurd h

names_one : (path : List PathPart) (v w : Option Tree) (es fs : List Edit) (ps qs : List Pair)
    → StandsInIf v w → EachOfTwo StandsInAt (put_names es ps) (put_names fs qs)
    → EachOfTwo StandsInAt (put_names ((path, v) ∷ es) ps) (put_names ((path, w) ∷ fs) qs)
names_one [] v w es fs ps qs h rest = rest
names_one (Index i ∷ rs) v w es fs ps qs h rest = rest
names_one (Name name ∷ r ∷ rs) v w es fs ps qs h rest = rest
names_one (Name name ∷ []) None None es fs ps qs h rest = rest
names_one (Name name ∷ []) (Some t) (Some u) es fs ps qs h rest =
    put_name_in name t u h (put_names es ps) (put_names fs qs) rest
names_one (Name name ∷ []) None (Some u) es fs ps qs h rest = absurd h
names_one (Name name ∷ []) (Some t) None es fs ps qs h rest = absurd h

-- what is put at names
names_in : (es fs : List Edit) (ps qs : List Pair) → EachOfTwo StandsInEdit es fs
    → EachOfTwo StandsInAt ps qs → EachOfTwo StandsInAt (put_names es ps) (put_names fs qs)
names_in [] [] ps qs h k = k
names_in (e ∷ es) (f ∷ fs) ps qs h k =
    subst (λ (p : List PathPart). EachOfTwo StandsInAt (put_names (e ∷ es) ps)
    (put_names ((p, f.1) ∷ fs) qs)) h.0.0
    (names_one e.0 e.1 f.1 es fs ps qs h.0.1 (names_in es fs ps qs h.1 k))
names_in [] (f ∷ fs) ps qs h k = absurd h
names_in (e ∷ es) [] ps qs h k = absurd h

-- ---- what becomes of a value

outcome_in : (o p : Option Tree) (b c : Bool) (t u : Tree) → StandsInIf o p → b ≡ c
    → StandsIn t u → StandsInIf (outcome o b t) (outcome p c u)
outcome_in None None b c t u h same within =
    subst (λ (d : Bool). StandsInIf (outcome None b t) (outcome None d u)) same
    (elim b as (λ (d : Bool). StandsInIf (outcome None d t) (outcome None d u)) [
      | true ↦ tt
      | false ↦ within
    ])
outcome_in (Some s) (Some r) b c t u h same within = h
outcome_in None (Some r) b c t u h same within = absurd h
outcome_in (Some s) None b c t u h same within = absurd h

element_in : (o p : Option Tree) (ts us : Trees) → StandsInIf o p
    → EachOfTwo StandsIn (elements ts) (elements us)
    → EachOfTwo StandsIn (elements (element_then o ts)) (elements (element_then p us))
element_in None None ts us h rest = rest
element_in (Some s) (Some r) ts us h rest = (h, rest)
element_in None (Some r) ts us h rest = absurd h
element_in (Some s) None ts us h rest = absurd h

pair_in : (name : List ℕ) (o p : Option Tree) (fs gs : Fields) → StandsInIf o p
    → EachOfTwo StandsInAt (pairs fs) (pairs gs)
    → EachOfTwo StandsInAt (pairs (pair_then name o fs)) (pairs (pair_then name p gs))
pair_in name None None fs gs h rest = rest
pair_in name (Some s) (Some r) fs gs h rest = ((refl, h), rest)
pair_in name None (Some r) fs gs h rest = absurd h
pair_in name (Some s) None fs gs h rest = absurd h

mutual
  -- a value after edits
  pub changed_in : (es fs : List Edit) → EachOfTwo StandsInEdit es fs → (t : Tree)
      → StandsInIf (changed es t) (changed fs t)
  changed_in es fs h (L_tree ts) =
      outcome_in (put_here es) (put_here fs) (is_taken es) (is_taken fs) _ _
      (here_in es fs h) (taken_in es fs h)
      (list_in (elements (changed_elements es 0 ts) ++ map (λ p. p.1) (elements_past_end (length (elements ts)) es))
      (elements (changed_elements fs 0 ts) ++ map (λ p. p.1) (elements_past_end (length (elements ts)) fs))
      (each-append StandsIn (elements (changed_elements es 0 ts)) (elements (changed_elements fs 0 ts))
      (map (λ p. p.1) (elements_past_end (length (elements ts)) es))
      (map (λ p. p.1) (elements_past_end (length (elements ts)) fs)) (elements_in es fs h 0 ts)
      (values_in (elements_past_end (length (elements ts)) es) (elements_past_end (length (elements ts)) fs)
      (past_in (length (elements ts)) es fs h))))
  changed_in es fs h (M_tree gs) =
      outcome_in (put_here es) (put_here fs) (is_taken es) (is_taken fs) _ _
      (here_in es fs h) (taken_in es fs h)
      (map_in (put_names es (pairs (changed_fields es gs)))
      (put_names fs (pairs (changed_fields fs gs)))
      (names_in es fs (pairs (changed_fields es gs)) (pairs (changed_fields fs gs)) h
      (fields_in es fs h gs)))
  changed_in es fs h (S_tree s) = outcome_in (put_here es) (put_here fs) (is_taken es) (is_taken fs)
      _ _ (here_in es fs h) (taken_in es fs h) (itself (S_tree s))
  changed_in es fs h (N_tree z) = outcome_in (put_here es) (put_here fs) (is_taken es) (is_taken fs)
      _ _ (here_in es fs h) (taken_in es fs h) (itself (N_tree z))
  changed_in es fs h (B_tree b) = outcome_in (put_here es) (put_here fs) (is_taken es) (is_taken fs)
      _ _ (here_in es fs h) (taken_in es fs h) (itself (B_tree b))
  changed_in es fs h (BOOL_tree b) = outcome_in (put_here es) (put_here fs) (is_taken es)
      (is_taken fs) _ _ (here_in es fs h) (taken_in es fs h) (itself (BOOL_tree b))
  changed_in es fs h NULL_tree = outcome_in (put_here es) (put_here fs) (is_taken es) (is_taken fs)
      _ _ (here_in es fs h) (taken_in es fs h) (itself NULL_tree)
  changed_in es fs h (SS_tree ss) = outcome_in (put_here es) (put_here fs) (is_taken es)
      (is_taken fs) _ _ (here_in es fs h) (taken_in es fs h) (itself (SS_tree ss))
  changed_in es fs h (NS_tree zs) = outcome_in (put_here es) (put_here fs) (is_taken es)
      (is_taken fs) _ _ (here_in es fs h) (taken_in es fs h) (itself (NS_tree zs))
  changed_in es fs h (BS_tree bs) = outcome_in (put_here es) (put_here fs) (is_taken es)
      (is_taken fs) _ _ (here_in es fs h) (taken_in es fs h) (itself (BS_tree bs))

  -- the elements of a list
  elements_in : (es fs : List Edit) → EachOfTwo StandsInEdit es fs → (i : ℕ) (ts : Trees)
      → EachOfTwo StandsIn (elements (changed_elements es i ts))
      (elements (changed_elements fs i ts))
  elements_in es fs h i no_trees = tt
  elements_in es fs h i (tree_then t ts) =
      element_in (changed (under (Index i) es) t) (changed (under (Index i) fs) t)
      (changed_elements es (suc i) ts) (changed_elements fs (suc i) ts)
      (changed_in (under (Index i) es) (under (Index i) fs) (under_in (Index i) es fs h) t)
      (elements_in es fs h (suc i) ts)

  -- the fields of a map
  fields_in : (es fs : List Edit) → EachOfTwo StandsInEdit es fs → (gs : Fields)
      → EachOfTwo StandsInAt (pairs (changed_fields es gs)) (pairs (changed_fields fs gs))
  fields_in es fs h no_fields = tt
  fields_in es fs h (field_then name t gs) =
      pair_in name (changed (under (Name name) es) t) (changed (under (Name name) fs) t)
      (changed_fields es gs) (changed_fields fs gs)
      (changed_in (under (Name name) es) (under (Name name) fs) (under_in (Name name) es fs h) t)
      (fields_in es fs h gs)

-- what becomes of a place
pub after_in : (es fs : List Edit) → EachOfTwo StandsInEdit es fs → (o : Option Tree)
    → StandsInIf (place_after es o) (place_after fs o)
after_in es fs h None = here_in es fs h
after_in es fs h (Some t) = changed_in es fs h t
