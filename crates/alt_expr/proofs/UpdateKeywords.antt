-- The keywords of an update's text are those of its clauses.
use Rattle.std.proofs.Common.{◌≡◌, refl, sym, ap, ◌∙◌, ℕ, ◌+◌, Bool, true, false, cond, nat_lt, List, [], ◌∷◌, ◌++◌, append_assoc, arith}
use Rattle.std.specs.Prelude.{codes}
use Rattle.std.specs.List.{list_any, count_by}
use Rattle.std.proofs.lemmas.Bool.Decides.{nat_tests}
use Rattle.std.proofs.lemmas.List.Sums.{sum_by-cons}
use Rattle.alt_expr.specs.Tokens.{Tok, mark, same_keyword}
use Rattle.alt_expr.specs.declared.token.Keyword.{Keyword}
use Rattle.alt_expr.specs.declared.token.Keyword.TheVariants as k
use Rattle.alt_expr.specs.declared.token.Mark.TheVariants as m
use Rattle.alt_expr.specs.PathGrammar.{plain, hashed, StepPhrase, dotted, indexed, PathPhrase, path, step_toks, steps_toks, path_toks, call_toks, between_toks}
use Rattle.alt_expr.specs.UpdateGrammar.{TermPhrase, at, value, if_not_exists, list_append, SumPhrase, one, plus, minus, SetPhrase, set, PairPhrase, pair, ClausePhrase, sets, removes, adds, deletes, UpdatePhrase, clauses, term_toks, sum_toks, set_toks, pair_toks, clause_toks, clauses_toks, update_toks}
use Rattle.alt_expr.specs.UpdateLanguage.{clause_key, stands_twice, clause_keys, repeats_clause}
use Rattle.alt_expr.specs.UpdateKeys.{is_again, is_twice}

-- no keyword is among the tokens, so that a walk goes on behind them as before
abbrev Plain : List Tok → Type 0
Plain ts = (j : Keyword) (found : Bool) (us : List Tok)
    → is_again j found (ts ++ us) ≡ is_again j found us

both : (ts us : List Tok) → Plain ts → Plain us → Plain (ts ++ us)
both ts us p q j found vs = ap (is_again j found) (append_assoc ts us vs) ∙ p j found (us ++ vs)
    ∙ q j found vs

step_plain : (s : StepPhrase) → Plain (step_toks s)
step_plain (dotted (plain w)) j found us = refl
step_plain (dotted (hashed w)) j found us = refl
step_plain (indexed n) j found us = refl

steps_plain : (ss : List StepPhrase) → Plain (steps_toks ss)
steps_plain [] = λ j found us. refl
steps_plain (s ∷ ss) = both (step_toks s) (steps_toks ss) (step_plain s) (steps_plain ss)

path_plain : (d : PathPhrase) → Plain (path_toks d)
path_plain (path (plain w) ss) j found us = steps_plain ss j found us
path_plain (path (hashed w) ss) j found us = steps_plain ss j found us

close_plain : Plain (mark m.RightRound ∷ [])
close_plain j found us = refl

-- a mark before tokens, and a function's name and its bracket before those within it
mark_plain : (ts us : List Tok) → Plain ts → Plain us → Plain (ts ++ mark m.Comma ∷ us)
mark_plain ts us p q = both ts (mark m.Comma ∷ us) p (λ j found vs. q j found vs)

call_plain : (name : List ℕ) (ts : List Tok) → Plain ts → Plain (call_toks name ts)
call_plain name ts p j found us = both ts (mark m.RightRound ∷ []) p close_plain j found us

term_plain : (d : TermPhrase) → Plain (term_toks d)
term_plain (at p) = path_plain p
term_plain (value w) = λ j found us. refl
term_plain (if_not_exists p x) = call_plain (codes "if_not_exists")
    (path_toks p ++ mark m.Comma ∷ term_toks x)
    (mark_plain (path_toks p) (term_toks x) (path_plain p) (term_plain x))
term_plain (list_append x y) = call_plain (codes "list_append")
    (term_toks x ++ mark m.Comma ∷ term_toks y)
    (mark_plain (term_toks x) (term_toks y) (term_plain x) (term_plain y))

sum_plain : (d : SumPhrase) → Plain (sum_toks d)
sum_plain (one x) = term_plain x
sum_plain (plus x y) = both (term_toks x) (mark m.Plus ∷ term_toks y) (term_plain x)
    (λ j found vs. term_plain y j found vs)
sum_plain (minus x y) = both (term_toks x) (mark m.Minus ∷ term_toks y) (term_plain x)
    (λ j found vs. term_plain y j found vs)

set_plain : (d : SetPhrase) → Plain (set_toks d)
set_plain (set p x) = both (path_toks p) (mark m.Equal ∷ sum_toks x) (path_plain p)
    (λ j found vs. sum_plain x j found vs)

pair_plain : (d : PairPhrase) → Plain (pair_toks d)
pair_plain (pair (plain n) w) j found us = refl
pair_plain (pair (hashed n) w) j found us = refl

list_plain : {D : Type 0} (toks : D → List Tok) → ((d : D) → Plain (toks d)) → (d : D) (ds : List D)
    → Plain (between_toks toks (mark m.Comma) d ds)
list_plain toks p d [] = p d
list_plain toks p d (e ∷ es) =
    mark_plain (toks d) (between_toks toks (mark m.Comma) e es) (p d) (list_plain toks p e es)

-- a clause has its keyword once
clause_again : (c : ClausePhrase) (j : Keyword) (found : Bool) (us : List Tok)
    → is_again j found (clause_toks c ++ us) ≡ cond (same_keyword (clause_key c) j)
    (cond found true (is_again j true us)) (is_again j found us)
clause_again (sets x xs) j found us =
    ap (λ z. cond (same_keyword k.Set j) (cond found true z)
    (is_again j found (between_toks set_toks (mark m.Comma) x xs ++ us)))
    (list_plain set_toks set_plain x xs j true us)
    ∙ ap (λ z. cond (same_keyword k.Set j) (cond found true (is_again j true us)) z)
    (list_plain set_toks set_plain x xs j found us)
clause_again (removes x xs) j found us =
    ap (λ z. cond (same_keyword k.Remove j) (cond found true z)
    (is_again j found (between_toks path_toks (mark m.Comma) x xs ++ us)))
    (list_plain path_toks path_plain x xs j true us)
    ∙ ap (λ z. cond (same_keyword k.Remove j) (cond found true (is_again j true us)) z)
    (list_plain path_toks path_plain x xs j found us)
clause_again (adds x xs) j found us =
    ap (λ z. cond (same_keyword k.Add j) (cond found true z)
    (is_again j found (between_toks pair_toks (mark m.Comma) x xs ++ us)))
    (list_plain pair_toks pair_plain x xs j true us)
    ∙ ap (λ z. cond (same_keyword k.Add j) (cond found true (is_again j true us)) z)
    (list_plain pair_toks pair_plain x xs j found us)
clause_again (deletes x xs) j found us =
    ap (λ z. cond (same_keyword k.Delete j) (cond found true z)
    (is_again j found (between_toks pair_toks (mark m.Comma) x xs ++ us)))
    (list_plain pair_toks pair_plain x xs j true us)
    ∙ ap (λ z. cond (same_keyword k.Delete j) (cond found true (is_again j true us)) z)
    (list_plain pair_toks pair_plain x xs j found us)

abbrev counted : Keyword → List ClausePhrase → ℕ
counted j cs = count_by (λ c. same_keyword (clause_key c) j) cs

more_than_one : (n : ℕ) → true ≡ nat_lt 1 (1 + (1 + n))
more_than_one n = grind (arith, nat_tests)

with_zero : (n : ℕ) → n ≡ 0 + n
with_zero n = omega arith

one_more : (b found : Bool) (n : ℕ) (x y : Bool) → x ≡ nat_lt 1 (1 + n)
    → y ≡ nat_lt 1 (cond found 1 0 + n)
    → cond b (cond found true x) y ≡ nat_lt 1 (cond found 1 0 + (cond b 1 0 + n))
one_more true true n x y p q = more_than_one n
one_more true false n x y p q = p ∙ ap (nat_lt 1) (with_zero (1 + n))
one_more false found n x y p q = q ∙ ap (λ k. nat_lt 1 (cond found 1 0 + k)) (with_zero n)

counted-more : (j : Keyword) (c : ClausePhrase) (cs : List ClausePhrase)
    → counted j (c ∷ cs) ≡ cond (same_keyword (clause_key c) j) 1 0 + counted j cs
counted-more j c cs =
    sum_by-cons (λ (d : ClausePhrase). cond (same_keyword (clause_key d) j) 1 0) c cs

-- the keyword was found before or not, and stands so often among the clauses
again_is : (j : Keyword) (found : Bool) (cs : List ClausePhrase)
    → is_again j found (clauses_toks cs) ≡ nat_lt 1 (cond found 1 0 + counted j cs)
again_is j true [] = refl
again_is j false [] = refl
again_is j found (c ∷ cs) =
    clause_again c j found (clauses_toks cs)
    ∙ one_more (same_keyword (clause_key c) j) found (counted j cs)
    (is_again j true (clauses_toks cs)) (is_again j found (clauses_toks cs))
    (again_is j true cs) (again_is j found cs)
    ∙ ap (λ n. nat_lt 1 (cond found 1 0 + n)) (sym (counted-more j c cs))

twice_is : (c : ClausePhrase) (cs : List ClausePhrase) (j : Keyword)
    → is_twice (clause_toks c ++ clauses_toks cs) j ≡ stands_twice (c ∷ cs) j
unfolding is_twice
twice_is c cs j = again_is j false (c ∷ cs) ∙ ap (nat_lt 1) (sym (with_zero (counted j (c ∷ cs))))

-- a clause stands twice where its keyword does
pub repeats_is : (d : UpdatePhrase) → list_any (is_twice (update_toks d)) clause_keys
    ≡ repeats_clause d
repeats_is (clauses c cs) =
    rw (twice_is c cs k.Set, twice_is c cs k.Remove, twice_is c cs k.Add, twice_is c cs k.Delete)
    refl
