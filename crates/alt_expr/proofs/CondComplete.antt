-- What a phrase of a condition derives is read as its tree.
use Rattle.std.proofs.Common.{◌≡◌, refl, ap, ◌∙◌, ℕ, zero, suc, ◌+◌, ◌<◌, ◌≤◌, true, false, List, [], ◌∷◌, ◌++◌, length, Some, arith, append_assoc, append-nil, length-append}
use Rattle.alt_expr.specs.Tokens.{Tok, key, mark}
use Rattle.alt_expr.specs.Given.{Given}
use Rattle.alt_expr.specs.declared.token.Keyword.{Keyword}
use Rattle.alt_expr.specs.declared.token.Keyword.TheVariants as k
use Rattle.alt_expr.specs.declared.token.Mark.TheVariants as m
use Rattle.alt_expr.specs.declared.cond.Cond.{Cond}
use Rattle.alt_expr.specs.declared.cond.Cond.TheVariants as cond
use Rattle.alt_expr.specs.CondGrammar.{OperandPhrase, at, TestPhrase, compared, between, among, exists, not_exists, has_kind, begins, contains, CondPhrase, last, either, AndPhrase, final, both, NotPhrase, negated, group, test, operand_toks, test_toks, cond_toks, and_toks, not_toks, test_tree, any_of, conjunction_of, cond_trees, and_trees, not_tree, cond_tree}
use Rattle.alt_expr.specs.Reader as e
use Rattle.alt_expr.specs.Reader.{Parser, sees_mark, sees_key, after_mark, after_key, expect, in_brackets}
use Rattle.alt_expr.proofs.PathRead.{Ends, close_read, ends_key, ends_close, ends_nothing}
use Rattle.alt_expr.proofs.TestComplete.{operand_some, test_read, test_first}
use Rattle.alt_expr.specs.CondReader as r
use Rattle.alt_expr.specs.CondReader.{joined_by_keyword, joined_from}

-- ---- how deep NOT and brackets stand in one another, which is at most the number of tokens

abbrev mutual
  -- how deep brackets and NOTs nest in an OR
  pub cond_nest : CondPhrase → ℕ
  cond_nest (last a) = and_nest a
  cond_nest (either a o) = and_nest a + cond_nest o

  -- how deep they nest in an AND
  pub and_nest : AndPhrase → ℕ
  and_nest (final d) = not_nest d
  and_nest (both d a) = not_nest d + and_nest a

  -- how deep they nest in what a NOT may stand before
  pub not_nest : NotPhrase → ℕ
  not_nest (negated d) = not_nest d + 1
  not_nest (group o) = cond_nest o + 1
  not_nest (test t) = 1

-- an operand has a token
operand_first_some : (d : OperandPhrase) (xs : List Tok) → 0 < length (operand_toks d ++ xs)
operand_first_some d xs = omega (arith, operand_some d, length-append (operand_toks d) xs)

test_some : (d : TestPhrase) → 0 < length (test_toks d)
test_some (compared a by b) = operand_first_some a _
test_some (between a low high) = operand_first_some a _
test_some (among a b bs) = operand_first_some a _
test_some (exists d) = omega arith
test_some (not_exists d) = omega arith
test_some (has_kind p a) = omega arith
test_some (begins a b) = omega arith
test_some (contains a b) = omega arith

mutual
  -- an OR nests no deeper than it has tokens
  pub cond_fits : (o : CondPhrase) → cond_nest o ≤ length (cond_toks o)
  cond_fits (last a) = and_fits a
  cond_fits (either a o) =
      omega (arith, and_fits a, cond_fits o, length-append (and_toks a) (key k.Or ∷ cond_toks o))

  -- nor does an AND
  and_fits : (a : AndPhrase) → and_nest a ≤ length (and_toks a)
  and_fits (final d) = not_fits d
  and_fits (both d a) =
      omega (arith, not_fits d, and_fits a, length-append (not_toks d) (key k.And ∷ and_toks a))

  not_fits : (d : NotPhrase) → not_nest d ≤ length (not_toks d)
  not_fits (negated d) = omega (arith, not_fits d)
  not_fits (group o) =
      omega (arith, cond_fits o, length-append (cond_toks o) (mark m.RightRound ∷ []))
  not_fits (test t) = test_some t

not_nests : (d : NotPhrase) → 0 < not_nest d
not_nests (negated d) = omega arith
not_nests (group o) = omega arith
not_nests (test t) = omega arith

not_some : (d : NotPhrase) → 0 < length (not_toks d)
not_some (negated d) = omega arith
not_some (group o) = omega arith
not_some (test t) = test_some t

and_some : (a : AndPhrase) → 0 < length (and_toks a)
and_some (final d) = not_some d
and_some (both d a) = omega (arith, not_some d, length-append (not_toks d) (key k.And ∷ and_toks a))

cond_some : (o : CondPhrase) → 0 < length (cond_toks o)
cond_some (last a) = and_some a
cond_some (either a o) =
    omega (arith, and_some a, length-append (and_toks a) (key k.Or ∷ cond_toks o))

-- ---- conditions

sees_itself : (ts : List Tok) → (sees_key k.And (key k.And ∷ ts) ≡ true)
    × (sees_key k.Or (key k.Or ∷ ts) ≡ true) × (sees_key k.And (key k.Or ∷ ts) ≡ false)
unfolding sees_key
sees_itself ts = (refl, refl, refl)

no_key_close : (j : Keyword) (ts : List Tok) → sees_key j (mark m.RightRound ∷ ts) ≡ false
unfolding sees_key
no_key_close j ts = refl

no_key_end : (j : Keyword) → sees_key j [] ≡ false
unfolding sees_key
no_key_end j = refl

-- the only member; the first of more; the last of more, and one that another follows
alone : (f : Parser Cond) (j : Keyword) (wrap : List Cond → Cond) (i rest : List Tok) (x : Cond)
    → f i ≡ Some (x, rest) → sees_key j rest ≡ false
    → joined_by_keyword f j wrap i ≡ Some (x, rest)
unfolding joined_by_keyword after_key
alone f j wrap i rest x h none = rw h (simp none)

join_first : (f : Parser Cond) (j : Keyword) (wrap : List Cond → Cond) (i rest ending : List Tok)
    (x : Cond) (xs : List Cond) → f i ≡ Some (x, key j ∷ rest) → sees_key j (key j ∷ rest) ≡ true
    → joined_from f j (length i) (x ∷ []) rest ≡ Some (xs, ending)
    → joined_by_keyword f j wrap i ≡ Some (wrap xs, ending)
unfolding joined_by_keyword after_key
join_first f j wrap i rest ending x xs h some more = rw h (simp some (rw more refl))

join_last : (f : Parser Cond) (j : Keyword) (n : ℕ) (found : List Cond) (i rest : List Tok)
    (x : Cond) → f i ≡ Some (x, rest) → sees_key j rest ≡ false
    → joined_from f j (suc n) found i ≡ Some (found ++ x ∷ [], rest)
unfolding joined_from after_key
join_last f j n found i rest x h none = rw h (simp none)

join_more : (f : Parser Cond) (j : Keyword) (n : ℕ) (found : List Cond) (i rest : List Tok)
    (x : Cond) → f i ≡ Some (x, key j ∷ rest) → sees_key j (key j ∷ rest) ≡ true
    → joined_from f j (suc n) found i ≡ joined_from f j n (found ++ x ∷ []) rest
unfolding joined_from after_key
join_more f j n found i rest x h some = rw h (simp some)

one_not : (g : Given) (n : ℕ) (ts rest : List Tok) (t : Cond) → r.one g n ts ≡ Some (t, rest)
    → r.one g (suc n) (key k.Not ∷ ts) ≡ Some (cond.Not t, rest)
unfolding r.one after_key sees_key
one_not g n ts rest t h = rw h refl

one_group : (g : Given) (n : ℕ) (ts rest : List Tok) (t : Cond)
    → r.any (r.one g n) ts ≡ Some (t, mark m.RightRound ∷ rest)
    → r.one g (suc n) (mark m.LeftRound ∷ ts) ≡ Some (t, rest)
unfolding r.one r.prim in_brackets expect after_key sees_key after_mark sees_mark
one_group g n ts rest t h = rw h refl

one_test : (g : Given) (d : TestPhrase) (n : ℕ) (rest : List Tok) → Ends rest
    → r.one g (suc n) (test_toks d ++ rest) ≡ Some (test_tree g d, rest)
unfolding r.one r.prim after_key after_mark
one_test g d n rest e = let f = test_first d rest in simp (f.0, f.1) (test_read g d rest e)

all_is : (f : Parser Cond) (i : List Tok) → r.all f i ≡ joined_by_keyword f k.And cond.All i
unfolding r.all
all_is f i = refl

any_is : (f : Parser Cond) (i : List Tok) → r.any f i ≡ joined_by_keyword (r.all f) k.Or cond.Any i
unfolding r.any
any_is f i = refl

-- two or more members stand in a list
all_of_more : (g : Given) (d : NotPhrase) (a : AndPhrase)
    → cond.All ((not_tree g d ∷ []) ++ and_trees g a) ≡ conjunction_of (and_trees g (both d a))
all_of_more g d (final e) = refl
all_of_more g d (both e a) = refl

any_of_more : (g : Given) (a : AndPhrase) (o : CondPhrase)
    → cond.Any ((conjunction_of (and_trees g a) ∷ []) ++ cond_trees g o)
    ≡ any_of (cond_trees g (either a o))
any_of_more g a (last b) = refl
any_of_more g a (either b o) = refl

mutual
  -- a phrase that nests no deeper than the turns is read as its tree
  pub not_read : (g : Given) (d : NotPhrase) (n : ℕ) (rest : List Tok) → not_nest d ≤ n → Ends rest
      → r.one g n (not_toks d ++ rest) ≡ Some (not_tree g d, rest)
  not_read g d zero rest fits e = absurd (omega (arith, not_nests d))
  not_read g (negated d) (suc n) rest fits e =
      one_not g n _ rest (not_tree g d) (not_read g d n rest (omega arith) e)
  not_read g (group o) (suc n) rest fits e =
      let behind = mark m.RightRound ∷ rest in
      rw (close_read (cond_toks o) rest)
      (one_group g n _ rest (any_of (cond_trees g o))
      (cond_read g o n behind (omega arith) (ends_close rest) (no_key_close k.And rest)
      (no_key_close k.Or rest)))
  not_read g (test t) (suc n) rest fits e = one_test g t n rest e

  -- all members of an AND
  and_read : (g : Given) (a : AndPhrase) (n : ℕ) (rest : List Tok) → and_nest a ≤ n → Ends rest
      → sees_key k.And rest ≡ false
      → r.all (r.one g n) (and_toks a ++ rest) ≡ Some (conjunction_of (and_trees g a), rest)
  and_read g (final d) n rest fits e no_and = all_is (r.one g n) _
      ∙ alone (r.one g n) k.And cond.All _ rest (not_tree g d) (not_read g d n rest fits e) no_and
  and_read g (both d a) n rest fits e no_and =
      let behind = and_toks a ++ rest in
      let i = not_toks d ++ key k.And ∷ behind in
      ap (r.all (r.one g n)) (append_assoc (not_toks d) (key k.And ∷ and_toks a) rest)
      ∙ all_is (r.one g n) i
      ∙ join_first (r.one g n) k.And cond.All i behind rest (not_tree g d) _
      (not_read g d n (key k.And ∷ behind) (omega arith) (ends_key k.And behind))
      (sees_itself behind).0
      (ands_read g a n (length i) (not_tree g d ∷ []) rest (omega arith) (omega (arith, length-append (not_toks d) (key k.And ∷ behind), length-append (and_toks a) rest)) e no_and)
      ∙ ap (λ x. Some (x, rest)) (all_of_more g d a)

  -- the members after the first
  ands_read : (g : Given) (a : AndPhrase) (n turns : ℕ) (found : List Cond) (rest : List Tok)
      → and_nest a ≤ n → length (and_toks a) ≤ turns → Ends rest → sees_key k.And rest ≡ false
      → joined_from (r.one g n) k.And turns found (and_toks a ++ rest)
      ≡ Some (found ++ and_trees g a, rest)
  ands_read g a n zero found rest fits room e no_and = absurd (omega (arith, and_some a))
  ands_read g (final d) n (suc turns) found rest fits room e no_and =
      join_last (r.one g n) k.And turns found _ rest (not_tree g d)
      (not_read g d n rest fits e) no_and
  ands_read g (both d a) n (suc turns) found rest fits room e no_and =
      let behind = and_toks a ++ rest in
      let room' : length (and_toks a) ≤ turns =
      omega (arith, length-append (not_toks d) (key k.And ∷ and_toks a)) in
      rw (append_assoc (not_toks d) (key k.And ∷ and_toks a) rest)
      (join_more (r.one g n) k.And turns found _ behind (not_tree g d)
      (not_read g d n (key k.And ∷ behind) (omega arith) (ends_key k.And behind))
      (sees_itself behind).0
      ∙ ands_read g a n turns (found ++ not_tree g d ∷ []) rest (omega arith) room' e no_and
      ∙ ap (λ x. Some (x, rest)) (append_assoc found (not_tree g d ∷ []) (and_trees g a)))

  -- all members of an OR
  pub cond_read : (g : Given) (o : CondPhrase) (n : ℕ) (rest : List Tok) → cond_nest o ≤ n
      → Ends rest → sees_key k.And rest ≡ false → sees_key k.Or rest ≡ false
      → r.any (r.one g n) (cond_toks o ++ rest) ≡ Some (cond_tree g o, rest)
  cond_read g (last a) n rest fits e no_and no_or = any_is (r.one g n) _
      ∙ alone (r.all (r.one g n)) k.Or cond.Any _ rest (conjunction_of (and_trees g a))
      (and_read g a n rest fits e no_and) no_or
  cond_read g (either a o) n rest fits e no_and no_or =
      let behind = cond_toks o ++ rest in
      let i = and_toks a ++ key k.Or ∷ behind in
      ap (r.any (r.one g n)) (append_assoc (and_toks a) (key k.Or ∷ cond_toks o) rest)
      ∙ any_is (r.one g n) i
      ∙ join_first (r.all (r.one g n)) k.Or cond.Any i behind rest (conjunction_of (and_trees g a)) _
      (and_read g a n (key k.Or ∷ behind) (omega arith) (ends_key k.Or behind)
      (sees_itself behind).2) (sees_itself behind).1
      (ors_read g o n (length i) (conjunction_of (and_trees g a) ∷ []) rest (omega arith) (omega (arith, length-append (and_toks a) (key k.Or ∷ behind), length-append (cond_toks o) rest)) e no_and no_or)
      ∙ ap (λ x. Some (x, rest)) (any_of_more g a o)

  -- the members after the first
  ors_read : (g : Given) (o : CondPhrase) (n turns : ℕ) (found : List Cond) (rest : List Tok)
      → cond_nest o ≤ n → length (cond_toks o) ≤ turns → Ends rest → sees_key k.And rest ≡ false
      → sees_key k.Or rest ≡ false
      → joined_from (r.all (r.one g n)) k.Or turns found (cond_toks o ++ rest)
      ≡ Some (found ++ cond_trees g o, rest)
  ors_read g o n zero found rest fits room e no_and no_or = absurd (omega (arith, cond_some o))
  ors_read g (last a) n (suc turns) found rest fits room e no_and no_or =
      join_last (r.all (r.one g n)) k.Or turns found _ rest (conjunction_of (and_trees g a))
      (and_read g a n rest fits e no_and) no_or
  ors_read g (either a o) n (suc turns) found rest fits room e no_and no_or =
      let behind = cond_toks o ++ rest in
      let room' : length (cond_toks o) ≤ turns =
      omega (arith, length-append (and_toks a) (key k.Or ∷ cond_toks o)) in
      rw (append_assoc (and_toks a) (key k.Or ∷ cond_toks o) rest)
      (join_more (r.all (r.one g n)) k.Or turns found _ behind (conjunction_of (and_trees g a))
      (and_read g a n (key k.Or ∷ behind) (omega arith) (ends_key k.Or behind)
      (sees_itself behind).2) (sees_itself behind).1
      ∙ ors_read g o n turns (found ++ conjunction_of (and_trees g a) ∷ []) rest
      (omega arith) room' e no_and no_or
      ∙ ap (λ x. Some (x, rest))
      (append_assoc found (conjunction_of (and_trees g a) ∷ []) (cond_trees g o)))

-- the whole: what is derived is read as its tree
pub whole_read : (g : Given) (o : CondPhrase) (n : ℕ) → cond_nest o ≤ n
    → r.any (r.one g n) (cond_toks o) ≡ Some (cond_tree g o, [])
whole_read g o n fits =
    rw append-nil at (cond_read g o n [] fits ends_nothing (no_key_end k.And) (no_key_end k.Or))
