-- What the actions of an update put has no empty set, where nothing that is there and nothing that is given has one.
use Rattle.std.proofs.Common.{◌+ℤ◌, T, List, [], ◌∷◌, ◌++◌, map, Option, Some, None, Ok, IfOk}
use Rattle.std.specs.List.{AllByRecursion}
use Rattle.std.specs.Ordering.{int_cmp}
use Rattle.alt_decimal.specs.Number.{fitted_units}
use Rattle.alt_expr.specs.Given.{Given, value_of}
use Rattle.alt_expr.specs.Located.{View}
use Rattle.alt_expr.specs.PathGrammar.{PathPhrase, path_tree, name_text}
use Rattle.alt_expr.specs.UpdateGrammar.{SetPhrase, set, PairPhrase, pair, ClausePhrase, sets, removes, adds, deletes, UpdatePhrase, clauses, sum_tree, set_tree, remove_tree, add_tree, delete_tree, clause_tree, clauses_tree, update_tree}
use Rattle.alt_expr.specs.Updated.{Edit, ◌>>=◌, sum_of, parent, added, left, taken_from_set, edit, edits}
use Rattle.alt_expr.specs.declared.path.PathPart.{PathPart}
use Rattle.alt_expr.specs.declared.path.PathPart.TheVariants.{Name}
use Rattle.alt_expr.specs.declared.update.Action.{Action}
use Rattle.alt_value.specs.Members.{text_order}
use Rattle.alt_value.specs.Stands.{tree_of}
use Rattle.alt_value.specs.Tree.{Tree, N_tree, SS_tree, NS_tree, BS_tree}
use Rattle.alt_value.specs.Values.{sets_full}
use Rattle.alt_machine.proofs.Full.{MayFull, PairsFull, ViewFull, full-with_members, full-value_of}
use Rattle.alt_machine.proofs.FullTerms.{FullOk, behind, anything, full-as_number, full-sum_of}

-- what an edit puts has no empty set
abbrev pub EditFull : Edit → Type 0
EditFull e = MayFull e.1

-- so is each of them
abbrev pub EditsFull : List Edit → Type 0
EditsFull es = AllByRecursion EditFull es

-- ---- sets

-- what is put by ADD
pub full-added : (o : Option Tree) (t : Tree) → MayFull o → T (sets_full t) → FullOk (added o t)
full-added None (SS_tree ss) h f = f
full-added None (NS_tree zs) h f = f
full-added None (BS_tree bs) h f = f
full-added None _ h f = tt
full-added (Some (N_tree y)) (N_tree z) h f = full-as_number (fitted_units (y +ℤ z))
full-added (Some (N_tree y)) _ h f = tt
full-added (Some (SS_tree ss)) (SS_tree more) h f = full-with_members text_order more ss h
full-added (Some (SS_tree ss)) _ h f = tt
full-added (Some (NS_tree zs)) (NS_tree more) h f = full-with_members int_cmp more zs h
full-added (Some (NS_tree zs)) _ h f = tt
full-added (Some (BS_tree bs)) (BS_tree more) h f = full-with_members text_order more bs h
full-added (Some (BS_tree bs)) _ h f = tt
full-added (Some _) t h f = tt

-- what is left by DELETE
full-left : {K : Type 0} (kind : List K → Tree)
    → ((x : K) (xs : List K) → T (sets_full (kind (x ∷ xs)))) → (xs : List K)
    → MayFull (left kind xs)
full-left kind h [] = tt
full-left kind h (x ∷ xs) = h x xs

-- what DELETE puts, if anything
pub full-taken : (o : Option Tree) (t : Tree) → IfOk (taken_from_set o t) MayFull
full-taken None (SS_tree ss) = tt
full-taken None (NS_tree zs) = tt
full-taken None (BS_tree bs) = tt
full-taken None _ = tt
full-taken (Some (SS_tree ss)) (SS_tree less) = full-left SS_tree (λ x xs. tt) _
full-taken (Some (SS_tree ss)) _ = tt
full-taken (Some (NS_tree zs)) (NS_tree less) = full-left NS_tree (λ x xs. tt) _
full-taken (Some (NS_tree zs)) _ = tt
full-taken (Some (BS_tree bs)) (BS_tree less) = full-left BS_tree (λ x xs. tt) _
full-taken (Some (BS_tree bs)) _ = tt
full-taken (Some _) t = tt

-- ---- actions

module _ (view : View) where
  -- so is the edit of an action
  abbrev pub ActionFull : Action → Type 0
  ActionFull action = IfOk (edit view action) EditFull

  -- and that of each action
  abbrev pub ActionsFull : List Action → Type 0
  ActionsFull actions = AllByRecursion ActionFull actions

  -- then all edits are
  pub full-edits : (actions : List Action) → ActionsFull actions
      → IfOk (edits view actions) EditsFull
  full-edits [] h = tt
  full-edits (a ∷ more) h =
      behind EditFull EditsFull (edit view a) (λ e. edits view more >>= (λ es. Ok (e ∷ es))) h.0
      (λ e f. behind EditsFull EditsFull (edits view more) (λ es. Ok (e ∷ es))
      (full-edits more h.1) (λ es k. (f, k)))

  -- actions one behind another put no empty set where neither of both does
  actions-append : (xs ys : List Action) → ActionsFull xs → ActionsFull ys → ActionsFull (xs ++ ys)
  actions-append [] ys h k = k
  actions-append (x ∷ xs) ys h k = (h.0, actions-append xs ys h.1 k)

  actions-map : {P : Type 0} (tree : P → Action) → ((p : P) → ActionFull (tree p)) → (ps : List P)
      → ActionsFull (map tree ps)
  actions-map tree h [] = tt
  actions-map tree h (p ∷ ps) = (h p, actions-map tree h ps)

module _ (view : View) (g : Given) (full : ViewFull view) (given : PairsFull g.values) where
  full-set : (p : SetPhrase) → ActionFull view (set_tree g p)
  full-set (set p x) =
      let path : List PathPart = path_tree g.names p in
      behind (λ s. T (sets_full s)) EditFull (sum_of view (sum_tree g x))
      (λ s. parent view path >>= (λ _. Ok (path, Some s))) (full-sum_of view g full given x)
      (λ s k. behind (λ _. Unit {0}) EditFull (parent view path) (λ _. Ok (path, Some s))
      (anything (parent view path)) (λ _ _. k))

  full-remove : (p : PathPhrase) → ActionFull view (remove_tree g p)
  full-remove p =
      let path : List PathPart = path_tree g.names p in
      behind (λ _. Unit {0}) EditFull (parent view path) (λ _. Ok (path, None))
      (anything (parent view path)) (λ _ _. tt)

  full-add : (p : PairPhrase) → ActionFull view (add_tree g p)
  full-add (pair n w) =
      let name = name_text g.names n in
      let t = tree_of (value_of g.values w) in
      behind (λ s. T (sets_full s)) EditFull (added (view name) t)
      (λ s. Ok (Name name ∷ [], Some s))
      (full-added (view name) t (full name) (full-value_of g.values w given)) (λ s k. k)

  full-delete : (p : PairPhrase) → ActionFull view (delete_tree g p)
  full-delete (pair n w) =
      let name = name_text g.names n in
      let t = tree_of (value_of g.values w) in
      behind MayFull EditFull (taken_from_set (view name) t) (λ o. Ok (Name name ∷ [], o))
      (full-taken (view name) t) (λ o k. k)

  full-clause : (c : ClausePhrase) → ActionsFull view (clause_tree g c)
  full-clause (sets x xs) = (full-set x, actions-map view (set_tree g) full-set xs)
  full-clause (removes x xs) = (full-remove x, actions-map view (remove_tree g) full-remove xs)
  full-clause (adds x xs) = (full-add x, actions-map view (add_tree g) full-add xs)
  full-clause (deletes x xs) = (full-delete x, actions-map view (delete_tree g) full-delete xs)

  full-clauses : (cs : List ClausePhrase) → ActionsFull view (clauses_tree g cs)
  full-clauses [] = tt
  full-clauses (c ∷ cs) = actions-append view (clause_tree g c) (clauses_tree g cs)
      (full-clause c) (full-clauses cs)

  -- the actions of a text over what is given
  pub full-update : (d : UpdatePhrase) → ActionsFull view (update_tree g d)
  full-update (clauses c cs) = actions-append view (clause_tree g c) (clauses_tree g cs)
      (full-clause c) (full-clauses cs)
