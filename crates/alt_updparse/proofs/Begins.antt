-- The paths that an update changes begin with names.
use Rattle.std.proofs.Common.{◌≡◌, refl, ap, ◌∙◌, Bool, true, false, ◌&&◌, List, [], ◌∷◌, ◌++◌, map, Ok}
use Rattle.alt_value.specs.Tree.{Pair}
use Rattle.alt_expr.specs.Tokens.{Tok}
use Rattle.alt_expr.specs.Given.{Given}
use Rattle.alt_expr.specs.PathGrammar.{PathPhrase, path, path_tree}
use Rattle.alt_expr.specs.Read.{ReadTokens}
use Rattle.alt_expr.specs.UpdateGrammar.{SetPhrase, set, PairPhrase, pair, ClausePhrase, sets, removes, adds, deletes, UpdatePhrase, clauses, set_tree, remove_tree, add_tree, delete_tree, clause_tree, clauses_tree, update_tree}
use Rattle.alt_expr.specs.UpdateLanguage.{updates, target, begins_with_name, begin_with_names}
use Rattle.alt_expr.specs.declared.update.Action.{Action}

-- the path that an action changes begins with a name
abbrev Begins : Action → Type 0
Begins a = begins_with_name (target a) ≡ true

-- a test of an action, and of those behind it
both : (a : Action) (xs : List Action) → Begins a → begin_with_names xs ≡ true
    → begin_with_names (a ∷ xs) ≡ true
both a xs p q = ap (λ b. b && begin_with_names xs) p ∙ q

each : {D : Type 0} (f : D → Action) → ((d : D) → Begins (f d)) → (ds : List D)
    → begin_with_names (map f ds) ≡ true
each f p [] = refl
each f p (d ∷ ds) = both (f d) (map f ds) (p d) (each f p ds)

append : (xs ys : List Action) → begin_with_names xs ≡ true → begin_with_names ys ≡ true
    → begin_with_names (xs ++ ys) ≡ true
append [] ys p q = q
append (a ∷ xs) ys p q = both a (xs ++ ys) (first _ _ p) (append xs ys (second _ _ p) q)
  where
    first : (b c : Bool) → (b && c) ≡ true → b ≡ true
    first true c e = refl
    first false c e = e

    second : (b c : Bool) → (b && c) ≡ true → c ≡ true
    second true c e = e
    second false c e = absurd (cc)

path_begins : (names : List Pair) (d : PathPhrase) → begins_with_name (path_tree names d) ≡ true
path_begins names (path n ss) = refl

set_begins : (g : Given) (d : SetPhrase) → Begins (set_tree g d)
set_begins g (set p x) = path_begins g.names p

remove_begins : (g : Given) (d : PathPhrase) → Begins (remove_tree g d)
remove_begins g d = path_begins g.names d

add_begins : (g : Given) (d : PairPhrase) → Begins (add_tree g d)
add_begins g (pair n w) = refl

delete_begins : (g : Given) (d : PairPhrase) → Begins (delete_tree g d)
delete_begins g (pair n w) = refl

clause_begins : (g : Given) (c : ClausePhrase) → begin_with_names (clause_tree g c) ≡ true
clause_begins g (sets x xs) = each (set_tree g) (set_begins g) (x ∷ xs)
clause_begins g (removes x xs) = each (remove_tree g) (remove_begins g) (x ∷ xs)
clause_begins g (adds x xs) = each (add_tree g) (add_begins g) (x ∷ xs)
clause_begins g (deletes x xs) = each (delete_tree g) (delete_begins g) (x ∷ xs)

clauses_begin : (g : Given) (cs : List ClausePhrase) → begin_with_names (clauses_tree g cs) ≡ true
clauses_begin g [] = refl
clauses_begin g (c ∷ cs) =
    append (clause_tree g c) (clauses_tree g cs) (clause_begins g c) (clauses_begin g cs)

-- and so do all of an update's
pub update_begins : (g : Given) (d : UpdatePhrase) → begin_with_names (update_tree g d) ≡ true
update_begins g (clauses c cs) =
    append (clause_tree g c) (clauses_tree g cs) (clause_begins g c) (clauses_begin g cs)

-- and so do those of what was read
pub read_begins : (g : Given) (toks : List Tok) (whole : Bool) (xs : List Action)
    → ReadTokens updates g toks whole (Ok xs) → begin_with_names xs ≡ true
unfolding ReadTokens updates
read_begins g toks whole xs h = ap begin_with_names h.1.1.2 ∙ update_begins g h.1.1.0
