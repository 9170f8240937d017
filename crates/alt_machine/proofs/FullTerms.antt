-- What the terms of an update stand for has no empty set, where nothing that is there and nothing that is given has one.
use Rattle.std.proofs.Common.{◌≡◌, sym, subst, ℕ, ℤ, ◌+ℤ◌, ◌-ℤ◌, T, List, Option, Some, None, Result, Ok, Err, IfOk, rules}
use Rattle.alt_decimal.specs.declared.fault.NumberFault.{NumberFault}
use Rattle.alt_decimal.specs.Number.{fitted_units}
use Rattle.alt_expr.specs.Given.{Given, value_of}
use Rattle.alt_expr.specs.Located.{View, located}
use Rattle.alt_expr.specs.PathGrammar.{path_tree}
use Rattle.alt_expr.specs.UpdateGrammar.{TermPhrase, at, value, if_not_exists, list_append, SumPhrase, one, plus, minus, term_tree, sum_tree}
use Rattle.alt_expr.specs.Updated as u
use Rattle.alt_expr.specs.Updated.{ActionFault, ◌>>=◌, there, or_else, appended_list, as_number, term, sum_of}
use Rattle.alt_expr.specs.declared.path.PathPart.{PathPart}
use Rattle.alt_expr.specs.declared.update.Term.{Term, the_lemmas}
use Rattle.alt_expr.specs.declared.update.Term.TheVariants as t
use Rattle.alt_value.specs.Stands.{tree_of}
use Rattle.alt_value.specs.Tree.{Tree, N_tree, L_tree, elements}
use Rattle.alt_value.specs.Values.{sets_full}
use Rattle.alt_machine.proofs.Full.{MayFull, PairsFull, ViewFull, full-located, full-elements, full-append, full-value_of}

-- no set in the value is empty, where there was no fault
abbrev pub FullOk : Result Tree ActionFault → Type 0
FullOk r = IfOk r (λ t. T (sets_full t))

-- what holds behind a step that was made
pub behind : {A B : Type 0} (P : A → Type 0) (Q : B → Type 0) (r : Result A ActionFault)
    (next : A → Result B ActionFault) → IfOk r P → ((x : A) → P x → IfOk (next x) Q)
    → IfOk (r >>= next) Q
behind P Q (Ok x) next h f = f x h
behind P Q (Err e) next h f = tt

-- of any answer nothing
pub anything : {A : Type 0} (r : Result A ActionFault) → IfOk r (λ _. Unit {0})
anything (Ok x) = tt
anything (Err e) = tt

-- ---- single steps

full-there : (o : Option Tree) → MayFull o → FullOk (there o)
full-there None h = tt
full-there (Some t) h = h

full-or_else : (o : Option Tree) (r : Result Tree ActionFault) → MayFull o → FullOk r
    → FullOk (or_else o r)
full-or_else None r h f = f
full-or_else (Some t) r h f = h

full-joined : (s t : Tree) → T (sets_full s) → T (sets_full t) → FullOk (appended_list s t)
full-joined (L_tree ss) (L_tree ts) h f =
    full-append (elements ss) (elements ts) (full-elements ss h) (full-elements ts f)
full-joined (L_tree ss) _ h f = tt
full-joined _ t h f = tt

-- a number has no sets
pub full-as_number : (r : Result ℤ NumberFault) → FullOk (as_number r)
full-as_number (Ok z) = tt
full-as_number (Err f) = tt

-- a sum has no empty set
full-plus : (s t : Tree) → FullOk (u.plus s t)
full-plus (N_tree y) (N_tree z) = full-as_number (fitted_units (y +ℤ z))
full-plus (N_tree y) _ = tt
full-plus _ t = tt

full-minus : (s t : Tree) → FullOk (u.minus s t)
full-minus (N_tree y) (N_tree z) = full-as_number (fitted_units (y -ℤ z))
full-minus (N_tree y) _ = tt
full-minus _ t = tt

module _ (view : View) (g : Given) (full : ViewFull view) (given : PairsFull g.values) where
  -- ---- terms

  full-At : (path : List PathPart) → FullOk (term view (t.At path))
  unfolding term
  full-At path =
      let is : term view (t.At path) ≡ there (located view path) = search (rules, the_lemmas) in
      subst FullOk (sym is) (full-there (located view path) (full-located view path full))

  full-Value : (word : List ℕ) → FullOk (term view (t.Value (value_of g.values word)))
  unfolding term
  full-Value word =
      let is : term view (t.Value (value_of g.values word))
      ≡ Ok (tree_of (value_of g.values word)) = search (rules, the_lemmas) in
      subst FullOk (sym is) (full-value_of g.values word given)

  full-IfNotExists : (path : List PathPart) (x : Term) → FullOk (term view x)
      → FullOk (term view (t.IfNotExists path x))
  unfolding term
  full-IfNotExists path x h =
      let is : term view (t.IfNotExists path x) ≡ or_else (located view path) (term view x) =
      search (rules, the_lemmas) in
      subst FullOk (sym is)
      (full-or_else (located view path) (term view x) (full-located view path full) h)

  full-ListAppend : (x y : Term) → FullOk (term view x) → FullOk (term view y)
      → FullOk (term view (t.ListAppend x y))
  unfolding term
  full-ListAppend x y h f =
      let is : term view (t.ListAppend x y)
      ≡ (term view x >>= (λ s. term view y >>= (λ r. appended_list s r))) = search (rules, the_lemmas) in
      subst FullOk (sym is) (behind (λ s. T (sets_full s)) (λ s. T (sets_full s)) (term view x)
      (λ s. term view y >>= (λ r. appended_list s r)) h (λ s k.
      behind (λ r. T (sets_full r)) (λ r. T (sets_full r)) (term view y) (appended_list s) f
      (λ r i. full-joined s r k i)))

  -- what a term stands for
  full-term : (p : TermPhrase) → FullOk (term view (term_tree g p))
  full-term (at p) = full-At (path_tree g.names p)
  full-term (value w) = full-Value w
  full-term (if_not_exists p x) =
      full-IfNotExists (path_tree g.names p) (term_tree g x) (full-term x)
  full-term (list_append x y) =
      full-ListAppend (term_tree g x) (term_tree g y) (full-term x) (full-term y)

  -- what is put at a path
  pub full-sum_of : (p : SumPhrase) → FullOk (sum_of view (sum_tree g p))
  full-sum_of (one x) = full-term x
  full-sum_of (plus x y) = behind (λ s. T (sets_full s)) (λ s. T (sets_full s))
      (term view (term_tree g x)) (λ s. term view (term_tree g y) >>= (λ r. u.plus s r))
      (full-term x) (λ s k. behind (λ r. T (sets_full r)) (λ r. T (sets_full r))
      (term view (term_tree g y)) (u.plus s) (full-term y) (λ r i. full-plus s r))
  full-sum_of (minus x y) = behind (λ s. T (sets_full s)) (λ s. T (sets_full s))
      (term view (term_tree g x)) (λ s. term view (term_tree g y) >>= (λ r. u.minus s r))
      (full-term x) (λ s k. behind (λ r. T (sets_full r)) (λ r. T (sets_full r))
      (term view (term_tree g y)) (u.minus s) (full-term y) (λ r i. full-minus s r))
