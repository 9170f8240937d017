-- What is read was derived, and its tree is the phrase's.
use Rattle.std.proofs.Common.{◌≡◌, refl, sym, ap, ◌∙◌, ℕ, zero, suc, true, inl, inr, List, [], ◌∷◌, ◌++◌, length, map, drop, Some, None, arith, append_assoc, append-nil}
use borrow.Author.Tests.{eqb-true}
use Rattle.std.proofs.lemmas.Bool.{cases_Bool}
use Rattle.std.proofs.lemmas.Option.{none-some}
use Rattle.std.specs.Prelude.{codes}
use Rattle.alt_value.specs.declared.attr.Attr.{Attr}
use Rattle.alt_expr.specs.Tokens.{Tok, key, word, hash, colon, mark}
use Rattle.alt_expr.specs.Given.{Given, value_of, name_of}
use Rattle.alt_expr.specs.declared.token.Keyword.{Keyword}
use Rattle.alt_expr.specs.declared.token.Keyword.TheVariants as k
use Rattle.alt_expr.specs.declared.token.Mark.TheVariants as m
use Rattle.alt_expr.specs.declared.update.Term.{Term}
use Rattle.alt_expr.specs.declared.update.Term.TheVariants as t
use Rattle.alt_expr.specs.declared.update.Sum.{Sum}
use Rattle.alt_expr.specs.declared.update.Sum.TheVariants as s
use Rattle.alt_expr.specs.declared.update.Action.{Action}
use Rattle.alt_expr.specs.declared.update.Action.TheVariants as a
use Rattle.alt_expr.specs.PathGrammar.{NamePhrase, plain, hashed, name_tok, name_text, path_toks, path_tree, between_toks}
use Rattle.alt_expr.specs.UpdateGrammar.{at, value, if_not_exists, list_append, one, plus, minus, set, PairPhrase, pair, ClausePhrase, sets, removes, adds, deletes, UpdatePhrase, clauses, term_toks, sum_toks, set_toks, pair_toks, clause_toks, clauses_toks, update_toks, term_tree, sum_tree, set_tree, remove_tree, add_tree, delete_tree, clause_tree, clauses_tree, update_tree}
use Rattle.alt_expr.specs.Reader.{Parser, parse_and_then, sees_mark, calls, is_call, after_mark, expect, name, path, comma_separated}
use Rattle.alt_expr.proofs.Seen.{Derived, then_some, some_pair, mark_seen, expected, called}
use Rattle.alt_expr.proofs.PathFound.{path_sound}
use Rattle.alt_expr.proofs.Lists.{listed_sound}
use Rattle.alt_expr.specs.UpdateReader as r
use Rattle.alt_expr.proofs.TestSound.{comma_found}
use Rattle.alt_expr.proofs.UpdateBehind.{behind}

-- ---- terms

located_sound : (g : Given) (i : List Tok) (x : Term) (rest : List Tok)
    → r.located g i ≡ Some (x, rest) → Derived term_toks (term_tree g) i x rest
unfolding r.located
located_sound g i x rest h = elim (cases_Bool (is_call i)) [
  | inl seen ↦ absurd (none-some _ (simp seen at h))
  | inr none ↦
      let b = simp none at h in
      let a = then_some (path g.names i) _ _ b in
      let e = some_pair _ _ a.2 in
      let d = path_sound g.names i _ _ a.1 in
      record { by = at d.by; tokens = d.tokens ∙ ap (λ ts. path_toks d.by ++ ts) e.1; stands = sym e.0 ∙ ap t.At d.stands }
]

operand_sound : (g : Given) (i : List Tok) (x : Term) (rest : List Tok)
    → r.operand g i ≡ Some (x, rest) → Derived term_toks (term_tree g) i x rest
unfolding r.operand
operand_sound g (colon w ∷ i) x rest h = let e = some_pair (t.Value (value_of g.values w), i)
    (x, rest) h in record { by = value w; tokens = ap (λ ts. colon w ∷ ts) e.1; stands = sym e.0 }
operand_sound g i x rest h = located_sound g i x rest h

-- a reader of terms that are derived
abbrev Sound : Given → Parser Term → Type 0
Sound g f = (i : List Tok) (x : Term) (rest : List Tok) → f i ≡ Some (x, rest)
    → Derived term_toks (term_tree g) i x rest

if_sound : (g : Given) (f : Parser Term) → Sound g f → (i : List Tok) (x : Term) (rest : List Tok)
    → calls (codes "if_not_exists") i ≡ true
    → r.if_not_exists g f (drop 2 i) ≡ Some (x, rest) → Derived term_toks (term_tree g) i x rest
unfolding r.if_not_exists
if_sound g f sound i x rest seen h =
    let a = then_some (path g.names (drop 2 i)) _ _ h in
    let p = path_sound g.names _ _ _ a.1 in
    let b = then_some (expect m.Comma a.0.1) _ _ a.2 in
    let c = then_some (f b.0.1) _ _ b.2 in
    let y = sound _ _ _ c.1 in
    let d = then_some (expect m.RightRound c.0.1) _ _ c.2 in
    let e = some_pair _ _ d.2 in
    let close : c.0.1 ≡ mark m.RightRound ∷ rest = expected m.RightRound _ d.0.0 _ d.1
    ∙ ap (λ z. mark m.RightRound ∷ z) e.1 in
    let comma : a.0.1 ≡ mark m.Comma ∷ (term_toks y.by ++ mark m.RightRound ∷ rest) =
    expected m.Comma _ b.0.0 _ b.1 ∙ ap (λ z. mark m.Comma ∷ z)
    (y.tokens ∙ ap (λ z. term_toks y.by ++ z) close) in
    let inner : drop 2 i
    ≡ ((path_toks p.by ++ mark m.Comma ∷ term_toks y.by) ++ mark m.RightRound ∷ []) ++ rest =
    p.tokens ∙ ap (λ z. path_toks p.by ++ z) comma
    ∙ comma_found (path_toks p.by) (term_toks y.by) rest in
    record {
      by = if_not_exists p.by y.by;
      tokens = called (codes "if_not_exists") i seen
          ∙ ap (λ z. word (codes "if_not_exists") ∷ mark m.LeftRound ∷ z) inner;
      stands = sym e.0 ∙ ap (λ z. t.IfNotExists z c.0.0) p.stands
          ∙ ap (t.IfNotExists (path_tree g.names p.by)) y.stands;
    }

append_sound : (g : Given) (f : Parser Term) → Sound g f
    → (i : List Tok) (x : Term) (rest : List Tok) → calls (codes "list_append") i ≡ true
    → r.list_append f (drop 2 i) ≡ Some (x, rest) → Derived term_toks (term_tree g) i x rest
unfolding r.list_append
append_sound g f sound i x rest seen h =
    let a = then_some (f (drop 2 i)) _ _ h in
    let p = sound _ _ _ a.1 in
    let b = then_some (expect m.Comma a.0.1) _ _ a.2 in
    let c = then_some (f b.0.1) _ _ b.2 in
    let y = sound _ _ _ c.1 in
    let d = then_some (expect m.RightRound c.0.1) _ _ c.2 in
    let e = some_pair _ _ d.2 in
    let close : c.0.1 ≡ mark m.RightRound ∷ rest = expected m.RightRound _ d.0.0 _ d.1
    ∙ ap (λ z. mark m.RightRound ∷ z) e.1 in
    let comma : a.0.1 ≡ mark m.Comma ∷ (term_toks y.by ++ mark m.RightRound ∷ rest) =
    expected m.Comma _ b.0.0 _ b.1 ∙ ap (λ z. mark m.Comma ∷ z)
    (y.tokens ∙ ap (λ z. term_toks y.by ++ z) close) in
    let inner : drop 2 i
    ≡ ((term_toks p.by ++ mark m.Comma ∷ term_toks y.by) ++ mark m.RightRound ∷ []) ++ rest =
    p.tokens ∙ ap (λ z. term_toks p.by ++ z) comma
    ∙ comma_found (term_toks p.by) (term_toks y.by) rest in
    record {
      by = list_append p.by y.by;
      tokens = called (codes "list_append") i seen
          ∙ ap (λ z. word (codes "list_append") ∷ mark m.LeftRound ∷ z) inner;
      stands = sym e.0 ∙ ap (λ z. t.ListAppend z c.0.0) p.stands
          ∙ ap (t.ListAppend (term_tree g p.by)) y.stands;
    }

term_sound : (g : Given) (n : ℕ) → Sound g (r.term g n)
unfolding r.term
term_sound g zero i x rest h = absurd (cc)
term_sound g (suc n) i x rest h = elim (cases_Bool (calls (codes "if_not_exists") i)) [
  | inl seen ↦ if_sound g (r.term g n) (term_sound g n) i x rest seen (simp seen at h)
  | inr no_if ↦ elim (cases_Bool (calls (codes "list_append") i)) [
    | inl seen ↦
        append_sound g (r.term g n) (term_sound g n) i x rest seen (simp (no_if, seen) at h)
    | inr none ↦ operand_sound g i x rest (simp (no_if, none) at h)
  ]
]

whole_sound : (g : Given) → Sound g (r.whole_term g)
unfolding r.whole_term
whole_sound g i x rest h = term_sound g (length i) i x rest h

sum_sound : (g : Given) (i : List Tok) (x : Sum) (rest : List Tok) → r.sum g i ≡ Some (x, rest)
    → Derived sum_toks (sum_tree g) i x rest
unfolding r.sum after_mark
sum_sound g i x rest h =
    let b = then_some (r.whole_term g i) _ _ h in
    let p = whole_sound g _ _ _ b.1 in
    elim (cases_Bool (sees_mark m.Plus b.0.1)) [
      | inl seen ↦
          let c = then_some (r.whole_term g (drop 1 b.0.1)) _ _ (simp seen at b.2) in
          let q = whole_sound g _ _ _ c.1 in
          let e = some_pair _ _ c.2 in
          record {
            by = plus p.by q.by;
            tokens = p.tokens ∙ ap (λ z. term_toks p.by ++ z)
                (mark_seen m.Plus _ seen ∙ ap (λ z. mark m.Plus ∷ z)
                (q.tokens ∙ ap (λ z. term_toks q.by ++ z) e.1))
                ∙ sym (append_assoc (term_toks p.by) (mark m.Plus ∷ term_toks q.by) rest);
            stands = sym e.0 ∙ ap (λ z. s.Plus z c.0.0) p.stands
                ∙ ap (s.Plus (term_tree g p.by)) q.stands;
          }
      | inr no_plus ↦ elim (cases_Bool (sees_mark m.Minus b.0.1)) [
        | inl seen ↦
            let c = then_some (r.whole_term g (drop 1 b.0.1)) _ _ (simp (no_plus, seen) at b.2) in
            let q = whole_sound g _ _ _ c.1 in
            let e = some_pair _ _ c.2 in
            record {
              by = minus p.by q.by;
              tokens = p.tokens ∙ ap (λ z. term_toks p.by ++ z)
                  (mark_seen m.Minus _ seen ∙ ap (λ z. mark m.Minus ∷ z)
                  (q.tokens ∙ ap (λ z. term_toks q.by ++ z) e.1))
                  ∙ sym (append_assoc (term_toks p.by) (mark m.Minus ∷ term_toks q.by) rest);
              stands = sym e.0 ∙ ap (λ z. s.Minus z c.0.0) p.stands
                  ∙ ap (s.Minus (term_tree g p.by)) q.stands;
            }
        | inr none ↦
            let e = some_pair _ _ (simp (no_plus, none) at b.2) in
            record { by = one p.by; tokens = p.tokens ∙ ap (λ z. term_toks p.by ++ z) e.1; stands = sym e.0 ∙ ap s.One p.stands }
      ]
    ]

-- ---- actions

set_sound : (g : Given) (i : List Tok) (x : Action) (rest : List Tok)
    → r.action g k.Set i ≡ Some (x, rest) → Derived set_toks (set_tree g) i x rest
unfolding r.action r.set
set_sound g i x rest h =
    let b = then_some (path g.names i) _ _ h in
    let p = path_sound g.names _ _ _ b.1 in
    let c = then_some (expect m.Equal b.0.1) _ _ b.2 in
    let d = then_some (r.sum g c.0.1) _ _ c.2 in
    let q = sum_sound g _ _ _ d.1 in
    let e = some_pair _ _ d.2 in
    record {
      by = set p.by q.by;
      tokens = p.tokens ∙ ap (λ z. path_toks p.by ++ z)
          (expected m.Equal _ c.0.0 _ c.1 ∙ ap (λ z. mark m.Equal ∷ z)
          (q.tokens ∙ ap (λ z. sum_toks q.by ++ z) e.1))
          ∙ sym (append_assoc (path_toks p.by) (mark m.Equal ∷ sum_toks q.by) rest);
      stands = sym e.0 ∙ ap (λ z. a.Set z d.0.0) p.stands
          ∙ ap (a.Set (path_tree g.names p.by)) q.stands;
    }

remove_sound : (g : Given) (i : List Tok) (x : Action) (rest : List Tok)
    → r.action g k.Remove i ≡ Some (x, rest) → Derived path_toks (remove_tree g) i x rest
unfolding r.action r.remove
remove_sound g i x rest h =
    let b = then_some (path g.names i) _ _ h in
    let p = path_sound g.names _ _ _ b.1 in
    let e = some_pair _ _ b.2 in
    record { by = p.by; tokens = p.tokens ∙ ap (λ z. path_toks p.by ++ z) e.1; stands = sym e.0 ∙ ap a.Remove p.stands }

-- a name was read
name_found : (g : Given) (i : List Tok) (x : List ℕ) (rest : List Tok)
    → name g.names i ≡ Some (x, rest) → (d : NamePhrase) × (i ≡ name_tok d ∷ rest)
    × (x ≡ name_text g.names d)
unfolding name
name_found g [] x rest h = absurd (none-some _ h)
name_found g (key w ∷ i) x rest h = absurd (none-some _ h)
name_found g (word w ∷ i) x rest h = let e = some_pair (w, i) (x, rest) h in
    (plain w, ap (λ z. word w ∷ z) e.1, sym e.0)
name_found g (hash w ∷ i) x rest h = let e = some_pair (name_of g.names w, i) (x, rest) h in
    (hashed w, ap (λ z. hash w ∷ z) e.1, sym e.0)
name_found g (_ ∷ i) x rest h = absurd (none-some _ h)

-- a value was read
value_found : (g : Given) (i : List Tok) (x : Attr) (rest : List Tok) → r.value g i ≡ Some (x, rest)
    → (w : List ℕ) × (i ≡ colon w ∷ rest) × (x ≡ value_of g.values w)
unfolding r.value
value_found g (colon w ∷ i) x rest h = let e = some_pair (value_of g.values w, i) (x, rest) h in
    (w, ap (λ z. colon w ∷ z) e.1, sym e.0)
value_found g _ x rest h = absurd (none-some _ h)

-- the name of a pair, and its value
abbrev name_of_pair : Given → PairPhrase → List ℕ
name_of_pair g (pair n w) = name_text g.names n

abbrev value_of_pair : Given → PairPhrase → Attr
value_of_pair g (pair n w) = value_of g.values w

-- a name and a value, as an action
pair_found : (g : Given) (f : List ℕ → Attr → Action) (i : List Tok) (x : Action) (rest : List Tok)
    → parse_and_then (name g.names i) (λ n j. parse_and_then (r.value g j) (λ v l. Some (f n v, l)))
    ≡ Some (x, rest)
    → Derived pair_toks (λ d. f (name_of_pair g d) (value_of_pair g d)) i x rest
pair_found g f i x rest h =
    let b = then_some (name g.names i) _ _ h in
    let n = name_found g _ _ _ b.1 in
    let c = then_some (r.value g b.0.1) _ _ b.2 in
    let v = value_found g _ _ _ c.1 in
    let e = some_pair _ _ c.2 in
    record {
      by = pair n.0 v.0;
      tokens = n.1 ∙ ap (λ z. name_tok n.0 ∷ z) (v.1 ∙ ap (λ z. colon v.0 ∷ z) e.1);
      stands = sym e.0 ∙ ap (λ z. f z c.0.0) n.2 ∙ ap (f (name_text g.names n.0)) v.2;
    }

is_add : (g : Given) (d : PairPhrase) → a.Add (name_of_pair g d) (value_of_pair g d) ≡ add_tree g d
is_add g (pair n w) = refl

is_delete : (g : Given) (d : PairPhrase) → a.Delete (name_of_pair g d) (value_of_pair g d)
    ≡ delete_tree g d
is_delete g (pair n w) = refl

add_sound : (g : Given) (i : List Tok) (x : Action) (rest : List Tok)
    → r.action g k.Add i ≡ Some (x, rest) → Derived pair_toks (add_tree g) i x rest
unfolding r.action r.add
add_sound g i x rest h = let d = pair_found g a.Add i x rest h in
    record { by = d.by; tokens = d.tokens; stands = d.stands ∙ is_add g d.by }

delete_sound : (g : Given) (i : List Tok) (x : Action) (rest : List Tok)
    → r.action g k.Delete i ≡ Some (x, rest) → Derived pair_toks (delete_tree g) i x rest
unfolding r.action r.delete
delete_sound g i x rest h = let d = pair_found g a.Delete i x rest h in
    record { by = d.by; tokens = d.tokens; stands = d.stands ∙ is_delete g d.by }

-- ---- clauses

-- actions of one kind were read, behind those found
record Acts {D : Type 0} (toks : D → List Tok) (tree : D → Action) (found : List Action)
    (i : List Tok) (xs : List Action) (rest : List Tok) : Type 0 where
  first : D
  others : List D
  tokens : i ≡ between_toks toks (mark m.Comma) first others ++ rest
  stands : xs ≡ found ++ (tree first ∷ map tree others)

actions_sound : {D : Type 0} (toks : D → List Tok) (tree : D → Action) (j : Keyword) (g : Given)
    → ((i : List Tok) (x : Action) (rest : List Tok) → r.action g j i ≡ Some (x, rest)
    → Derived toks tree i x rest)
    → (found : List Action) (i : List Tok) (xs : List Action) (rest : List Tok)
    → r.listed_behind (r.action g j) found i ≡ Some (xs, rest) → Acts toks tree found i xs rest
actions_sound toks tree j g sound found i xs rest h =
    let b = then_some (comma_separated (r.action g j) i) (λ xs l. Some (found ++ xs, l)) _
    (sym (behind (r.action g j) found i) ∙ h) in
    let l = listed_sound toks tree (r.action g j) sound i _ _ b.1 in
    let e = some_pair _ _ b.2 in
    record {
      first = l.first;
      others = l.others;
      tokens = l.tokens ∙ ap (λ z. between_toks toks (mark m.Comma) l.first l.others ++ z) e.1;
      stands = sym e.0 ∙ ap (λ z. found ++ z) l.stands;
    }

-- a clause was read, behind the actions found
record OneClause (g : Given) (found : List Action) (i : List Tok) (xs : List Action)
    (rest : List Tok) : Type 0 where
  by : ClausePhrase
  tokens : i ≡ clause_toks by ++ rest
  stands : xs ≡ found ++ clause_tree g by

no_clause : (g : Given) (found : List Action) (j : Keyword) (i : List Tok) (xs : List Action)
    (rest : List Tok) → r.action g j ≡ (λ l. None)
    → r.listed_behind (r.action g j) found i ≡ Some (xs, rest) → ⊥
unfolding r.listed_behind
no_clause g found j i xs rest refused h =
    absurd (none-some _ (sym (ap (λ (f : Parser Action). r.listed_behind f found i) refused) ∙ h))

refused : (g : Given) → (r.action g k.And ≡ (λ l. None)) × (r.action g k.Or ≡ (λ l. None))
    × (r.action g k.Not ≡ (λ l. None)) × (r.action g k.Among ≡ (λ l. None))
    × (r.action g k.Between ≡ (λ l. None))
unfolding r.action
refused g = (refl, refl, refl, refl, refl)

clause_sound : (g : Given) (found : List Action) (i : List Tok) (xs : List Action) (rest : List Tok)
    → r.clause g found i ≡ Some (xs, rest) → OneClause g found i xs rest
unfolding r.clause
clause_sound g found [] xs rest h = absurd (none-some _ h)
clause_sound g found (key k.Set ∷ i) xs rest h =
    let l = actions_sound set_toks (set_tree g) k.Set g (set_sound g) found i xs rest h in
    record { by = sets l.first l.others; tokens = ap (λ z. key k.Set ∷ z) l.tokens; stands = l.stands }
clause_sound g found (key k.Remove ∷ i) xs rest h =
    let l = actions_sound path_toks (remove_tree g) k.Remove g (remove_sound g) found i xs rest h in
    record { by = removes l.first l.others; tokens = ap (λ z. key k.Remove ∷ z) l.tokens; stands = l.stands }
clause_sound g found (key k.Add ∷ i) xs rest h =
    let l = actions_sound pair_toks (add_tree g) k.Add g (add_sound g) found i xs rest h in
    record { by = adds l.first l.others; tokens = ap (λ z. key k.Add ∷ z) l.tokens; stands = l.stands }
clause_sound g found (key k.Delete ∷ i) xs rest h =
    let l = actions_sound pair_toks (delete_tree g) k.Delete g (delete_sound g) found i xs rest h in
    record { by = deletes l.first l.others; tokens = ap (λ z. key k.Delete ∷ z) l.tokens; stands = l.stands }
clause_sound g found (key k.And ∷ i) xs rest h =
    absurd (no_clause g found k.And i xs rest (refused g).0 h)
clause_sound g found (key k.Or ∷ i) xs rest h =
    absurd (no_clause g found k.Or i xs rest (refused g).1 h)
clause_sound g found (key k.Not ∷ i) xs rest h =
    absurd (no_clause g found k.Not i xs rest (refused g).2 h)
clause_sound g found (key k.Among ∷ i) xs rest h =
    absurd (no_clause g found k.Among i xs rest (refused g).3 h)
clause_sound g found (key k.Between ∷ i) xs rest h =
    absurd (no_clause g found k.Between i xs rest (refused g).4 h)
clause_sound g found (_ ∷ i) xs rest h = absurd (none-some _ h)

-- no tokens are left
done_is : (i : List Tok) → r.is_done i ≡ true → i ≡ []
unfolding r.is_done
done_is [] h = refl
done_is (x ∷ i) h = let e : length (x ∷ i) ≡ 0 = eqb-true (length (x ∷ i)) 0 h in
    absurd (omega (arith, e))

-- further clauses were read, up to the last token
record MoreClauses (g : Given) (found : List Action) (i : List Tok) (xs : List Action)
    (rest : List Tok) : Type 0 where
  by : List ClausePhrase
  tokens : i ≡ clauses_toks by
  stands : xs ≡ found ++ clauses_tree g by
  none : rest ≡ []

clauses_sound : (g : Given) (n : ℕ) (found : List Action) (i : List Tok) (xs : List Action)
    (rest : List Tok) → r.clauses_from g n found i ≡ Some (xs, rest) → MoreClauses g found i xs rest
unfolding r.clauses_from
clauses_sound g zero found i xs rest h = absurd (cc)
clauses_sound g (suc n) found i xs rest h = elim (cases_Bool (r.is_done i)) [
  | inl done ↦
      let e = some_pair _ _ (simp done at h) in
      let none = done_is i done in
      record { by = []; tokens = none; stands = sym e.0 ∙ sym (append-nil found); none = sym e.1 ∙ none }
  | inr more ↦
      let b = then_some (r.clause g found i) _ _ (simp more at h) in
      let c = clause_sound g found i _ _ b.1 in
      let l = clauses_sound g n b.0.0 b.0.1 xs rest b.2 in
      record {
        by = c.by ∷ l.by;
        tokens = c.tokens ∙ ap (λ z. clause_toks c.by ++ z) l.tokens;
        stands = l.stands ∙ ap (λ z. z ++ clauses_tree g l.by) c.stands
            ∙ append_assoc found (clause_tree g c.by) (clauses_tree g l.by);
        none = l.none;
      }
]

-- the whole: what is read is an update, and nothing is left
pub record Updates (g : Given) (i : List Tok) (xs : List Action) (rest : List Tok) : Type 0 where
  pub by : UpdatePhrase
  pub tokens : i ≡ update_toks by
  pub stands : xs ≡ update_tree g by
  pub none : rest ≡ []

-- an update that was read was derived
pub update_sound : (g : Given) (i : List Tok) (xs : List Action) (rest : List Tok)
    → r.update g i ≡ Some (xs, rest) → Updates g i xs rest
unfolding r.update
update_sound g i xs rest h =
    let b = then_some (r.clause g [] i) _ _ h in
    let c = clause_sound g [] i _ _ b.1 in
    let l = clauses_sound g (length i) b.0.0 b.0.1 xs rest b.2 in
    record {
      by = clauses c.by l.by;
      tokens = c.tokens ∙ ap (λ z. clause_toks c.by ++ z) l.tokens;
      stands = l.stands ∙ ap (λ z. z ++ clauses_tree g l.by) c.stands;
      none = l.none;
    }
