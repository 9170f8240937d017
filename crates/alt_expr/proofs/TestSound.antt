-- A test that is read was derived, and its tree is the phrase's: operands, comparisons and functions.
use Rattle.std.proofs.Common.{◌≡◌, refl, sym, ap, subst, ◌∙◌, ℕ, true, inl, inr, List, [], ◌∷◌, ◌++◌, drop, Option, Some, None, append_assoc}
use Rattle.std.proofs.lemmas.Bool.{cases_Bool}
use Rattle.std.proofs.lemmas.Option.{none-some, same_Some}
use Rattle.std.specs.Prelude.{codes}
use Rattle.alt_expr.specs.Tokens.{Tok, key, word, colon, mark}
use Rattle.alt_expr.specs.Given.{Given, value_of}
use Rattle.alt_expr.specs.declared.token.Keyword.TheVariants as k
use Rattle.alt_expr.specs.declared.token.Mark.{Mark}
use Rattle.alt_expr.specs.declared.token.Mark.TheVariants as m
use Rattle.alt_expr.specs.declared.cond.Comparison.{Comparison}
use Rattle.alt_expr.specs.declared.cond.Comparison.TheVariants as c
use Rattle.alt_expr.specs.declared.cond.Operand.{Operand}
use Rattle.alt_expr.specs.declared.cond.Operand.TheVariants as o
use Rattle.alt_expr.specs.declared.cond.Cond.{Cond}
use Rattle.alt_expr.specs.declared.cond.Cond.TheVariants as cond
use Rattle.alt_expr.specs.declared.path.PathPart.{PathPart}
use Rattle.alt_expr.specs.PathGrammar.{PathPhrase, path_toks, path_tree}
use Rattle.alt_expr.specs.CondGrammar.{OperandPhrase, at, value, size, TestPhrase, compared, between, among, exists, not_exists, has_kind, begins, contains, operand_toks, operands_toks, mark_of, test_toks, operand_tree, test_tree}
use Rattle.alt_expr.specs.Reader.{parse_and_then, sees_key, calls, is_call, after_key, expect, expect_key, path, in_brackets}
use Rattle.alt_expr.proofs.Seen.{Derived, then_some, some_pair, key_seen, expected, expected_key, called}
use Rattle.alt_expr.proofs.PathFound.{path_sound, bracketed}
use Rattle.alt_expr.proofs.Lists.{listed_sound}
use Rattle.alt_expr.specs.CondReader as r

-- ---- operands

named_sound : (g : Given) (i : List Tok) (x : Operand) (rest : List Tok)
    → r.named g i ≡ Some (x, rest) → Derived operand_toks (operand_tree g) i x rest
unfolding r.named
named_sound g i x rest h = elim (cases_Bool (calls (codes "size") i)) [
  | inl seen ↦
      let b = simp seen at h in
      let a = then_some (in_brackets (path g.names) (drop 2 i)) _ _ b in
      let e = some_pair _ _ a.2 in
      let d = bracketed path_toks (path_tree g.names) (path g.names) (path_sound g.names)
      (drop 2 i) _ _ a.1 in
      record {
        by = size d.by;
        tokens = called (codes "size") i seen
            ∙ ap (λ t. word (codes "size") ∷ mark m.LeftRound ∷ t)
            (d.tokens ∙ ap (λ t. (path_toks d.by ++ mark m.RightRound ∷ []) ++ t) e.1);
        stands = sym e.0 ∙ ap o.Size d.stands;
      }
  | inr no_size ↦ elim (cases_Bool (is_call i)) [
    | inl seen ↦ absurd (none-some _ (simp (no_size, seen) at h))
    | inr none ↦
        let b = simp (no_size, none) at h in
        let a = then_some (path g.names i) _ _ b in
        let e = some_pair _ _ a.2 in
        let d = path_sound g.names i _ _ a.1 in
        record { by = at d.by; tokens = d.tokens ∙ ap (λ t. path_toks d.by ++ t) e.1; stands = sym e.0 ∙ ap o.At d.stands }
  ]
]

operand_sound : (g : Given) (i : List Tok) (x : Operand) (rest : List Tok)
    → r.operand g i ≡ Some (x, rest) → Derived operand_toks (operand_tree g) i x rest
unfolding r.operand
operand_sound g (colon w ∷ i) x rest h = let e = some_pair (o.Value (value_of g.values w), i)
    (x, rest) h in record { by = value w; tokens = ap (λ t. colon w ∷ t) e.1; stands = sym e.0 }
operand_sound g i x rest h = named_sound g i x rest h

-- ---- comparisons

-- the comparison that a mark is
compares : (mk : Mark) (by : Comparison) → r.comparison_of mk ≡ Some by → mk ≡ mark_of by
compares m.Equal by h = ap mark_of (same_Some c.Equal by h)
compares m.NotEqual by h = ap mark_of (same_Some c.NotEqual by h)
compares m.Less by h = ap mark_of (same_Some c.Less by h)
compares m.LessEqual by h = ap mark_of (same_Some c.LessEqual by h)
compares m.Greater by h = ap mark_of (same_Some c.Greater by h)
compares m.GreaterEqual by h = ap mark_of (same_Some c.GreaterEqual by h)
compares _ by h = absurd (none-some by h)

comparison_seen : (i : List Tok) (by : Comparison) → r.sees_comparison i ≡ Some by
    → i ≡ mark (mark_of by) ∷ drop 1 i
unfolding r.sees_comparison
comparison_seen [] by h = absurd (none-some by h)
comparison_seen (mark mk ∷ i) by h = ap (λ x. mark x ∷ i) (compares mk by h)
comparison_seen (_ ∷ i) by h = absurd (none-some by h)

-- the tokens behind the first operand of a test
data Tails (g : Given) (a : OperandPhrase) (i : List Tok) (x : Cond)
    (rest : List Tok) : Type 0 where
  tail : (d : TestPhrase) (more : List Tok) → test_toks d ≡ operand_toks a ++ more
      → i ≡ more ++ rest → x ≡ test_tree g d → Tails g a i x rest

between_sound : (g : Given) (a : OperandPhrase) (i : List Tok) (x : Cond) (rest : List Tok)
    → sees_key k.Between i ≡ true → r.between g (operand_tree g a) (drop 1 i) ≡ Some (x, rest)
    → Tails g a i x rest
unfolding r.between
between_sound g a i x rest seen h =
    let b = then_some (r.operand g (drop 1 i)) _ _ h in
    let low = operand_sound g _ _ _ b.1 in
    let u = then_some (expect_key k.And b.0.1) _ _ b.2 in
    let v = then_some (r.operand g u.0.1) _ _ u.2 in
    let high = operand_sound g _ _ _ v.1 in
    let e = some_pair _ _ v.2 in
    let inner = operand_toks low.by ++ key k.And ∷ operand_toks high.by in
    let back : b.0.1 ≡ key k.And ∷ (operand_toks high.by ++ rest) = expected_key k.And _ u.0.0 _ u.1
    ∙ ap (λ t. key k.And ∷ t) (high.tokens ∙ ap (λ t. operand_toks high.by ++ t) e.1) in
    tail (between a low.by high.by) (key k.Between ∷ inner) refl
    (key_seen k.Between i seen ∙ ap (λ t. key k.Between ∷ t)
    (low.tokens ∙ ap (λ t. operand_toks low.by ++ t) back
    ∙ sym (append_assoc (operand_toks low.by) (key k.And ∷ operand_toks high.by) rest)))
    (sym e.0 ∙ ap (λ t. cond.Between (operand_tree g a) t v.0.0) low.stands
    ∙ ap (λ t. cond.Between (operand_tree g a) (operand_tree g low.by) t) high.stands)

among_sound : (g : Given) (a : OperandPhrase) (i : List Tok) (x : Cond) (rest : List Tok)
    → sees_key k.Among i ≡ true → r.among g (operand_tree g a) (drop 1 i) ≡ Some (x, rest)
    → Tails g a i x rest
unfolding r.among in_brackets
among_sound g a i x rest seen h =
    let u = then_some (expect m.LeftRound (drop 1 i)) _ _ h in
    let v = then_some (in_brackets (r.operands g) u.0.1) _ _ u.2 in
    let s = then_some (r.operands g u.0.1) _ _ v.1 in
    let t = then_some (expect m.RightRound s.0.1) _ _ s.2 in
    let f = some_pair _ _ t.2 in
    let l = listed_sound operand_toks (operand_tree g) (r.operand g)
    (operand_sound g) u.0.1 s.0.0 s.0.1 s.1 in
    let e = some_pair _ _ v.2 in
    let close : s.0.1 ≡ mark m.RightRound ∷ rest = expected m.RightRound _ t.0.0 _ t.1
    ∙ ap (λ z. mark m.RightRound ∷ z) (f.1 ∙ e.1) in
    let list = operands_toks l.first l.others in
    tail (among a l.first l.others)
    (key k.Among ∷ mark m.LeftRound ∷ (list ++ mark m.RightRound ∷ [])) refl
    (key_seen k.Among i seen ∙ ap (λ z. key k.Among ∷ z)
    (expected m.LeftRound _ u.0.0 _ u.1 ∙ ap (λ z. mark m.LeftRound ∷ z)
    (l.tokens ∙ ap (λ z. list ++ z) close
    ∙ sym (append_assoc list (mark m.RightRound ∷ []) rest))))
    (sym e.0 ∙ ap (cond.Among (operand_tree g a)) (sym f.0 ∙ l.stands))

compared_sound : (g : Given) (a : OperandPhrase) (i : List Tok) (by : Option Comparison) (x : Cond)
    (rest : List Tok) → r.sees_comparison i ≡ by
    → r.compared g (operand_tree g a) by i ≡ Some (x, rest) → Tails g a i x rest
unfolding after_key
compared_sound g a i (Some by) x rest is h =
    let b = then_some (r.operand g (drop 1 i)) _ _ h in
    let d = operand_sound g _ _ _ b.1 in
    let e = some_pair _ _ b.2 in
    tail (compared a by d.by) (mark (mark_of by) ∷ operand_toks d.by) refl
    (comparison_seen i by is ∙ ap (λ t. mark (mark_of by) ∷ t)
    (d.tokens ∙ ap (λ t. operand_toks d.by ++ t) e.1))
    (sym e.0 ∙ ap (λ t. cond.Compare by (operand_tree g a) t) d.stands)
compared_sound g a i None x rest is h = elim (cases_Bool (sees_key k.Between i)) [
  | inl seen ↦ between_sound g a i x rest seen (simp seen at h)
  | inr no_between ↦ elim (cases_Bool (sees_key k.Among i)) [
    | inl seen ↦ among_sound g a i x rest seen (simp (no_between, seen) at h)
    | inr none ↦ absurd (none-some _ (simp (no_between, none) at h))
  ]
]

tail_sound : (g : Given) (i : List Tok) (a : OperandPhrase) (x : Cond) (rest now : List Tok)
    → i ≡ operand_toks a ++ now → Tails g a now x rest → Derived test_toks (test_tree g) i x rest
tail_sound g i a x rest now is (tail d more toks left stands) =
    record { by = d; tokens = is ∙ ap (λ t. operand_toks a ++ t) left ∙ sym (append_assoc (operand_toks a) more rest) ∙ ap (λ t. t ++ rest) (sym toks); stands = stands }

-- ---- functions

-- two parts with a comma between, and the bracket behind them
pub comma_found : (xs ys rest : List Tok) → xs ++ mark m.Comma ∷ (ys ++ mark m.RightRound ∷ rest)
    ≡ ((xs ++ mark m.Comma ∷ ys) ++ mark m.RightRound ∷ []) ++ rest
comma_found xs ys rest = sym (simp append_assoc)

record TwoOperands (g : Given) (f : Operand → Operand → Cond) (i : List Tok) (x : Cond)
    (rest : List Tok) : Type 0 where
  a : OperandPhrase
  b : OperandPhrase
  tokens : i ≡ ((operand_toks a ++ mark m.Comma ∷ operand_toks b) ++ mark m.RightRound ∷ []) ++ rest
  stands : x ≡ f (operand_tree g a) (operand_tree g b)

pair_sound : (g : Given) (f : Operand → Operand → Cond) (i : List Tok) (x : Cond) (rest : List Tok)
    → r.pair g f i ≡ Some (x, rest) → TwoOperands g f i x rest
unfolding r.pair
pair_sound g f i x rest h =
    let s = then_some (r.operand g i) _ _ h in
    let a = operand_sound g _ _ _ s.1 in
    let t = then_some (expect m.Comma s.0.1) _ _ s.2 in
    let u = then_some (r.operand g t.0.1) _ _ t.2 in
    let b = operand_sound g _ _ _ u.1 in
    let v = then_some (expect m.RightRound u.0.1) _ _ u.2 in
    let e = some_pair _ _ v.2 in
    let close : u.0.1 ≡ mark m.RightRound ∷ rest = expected m.RightRound _ v.0.0 _ v.1
    ∙ ap (λ z. mark m.RightRound ∷ z) e.1 in
    let comma : s.0.1 ≡ mark m.Comma ∷ (operand_toks b.by ++ mark m.RightRound ∷ rest) =
    expected m.Comma _ t.0.0 _ t.1 ∙ ap (λ z. mark m.Comma ∷ z)
    (b.tokens ∙ ap (λ z. operand_toks b.by ++ z) close) in
    record {
      a = a.by;
      b = b.by;
      tokens = a.tokens ∙ ap (λ z. operand_toks a.by ++ z) comma
          ∙ comma_found (operand_toks a.by) (operand_toks b.by) rest;
      stands = sym e.0 ∙ ap (λ z. f z u.0.0) a.stands ∙ ap (f (operand_tree g a.by)) b.stands;
    }

record PathAndOperand (g : Given) (i : List Tok) (x : Cond) (rest : List Tok) : Type 0 where
  p : PathPhrase
  a : OperandPhrase
  tokens : i ≡ ((path_toks p ++ mark m.Comma ∷ operand_toks a) ++ mark m.RightRound ∷ []) ++ rest
  stands : x ≡ cond.HasKind (path_tree g.names p) (operand_tree g a)

kind_sound : (g : Given) (i : List Tok) (x : Cond) (rest : List Tok) → r.kind g i ≡ Some (x, rest)
    → PathAndOperand g i x rest
unfolding r.kind
kind_sound g i x rest h =
    let s = then_some (path g.names i) _ _ h in
    let p = path_sound g.names _ _ _ s.1 in
    let t = then_some (expect m.Comma s.0.1) _ _ s.2 in
    let u = then_some (r.operand g t.0.1) _ _ t.2 in
    let b = operand_sound g _ _ _ u.1 in
    let v = then_some (expect m.RightRound u.0.1) _ _ u.2 in
    let e = some_pair _ _ v.2 in
    let close : u.0.1 ≡ mark m.RightRound ∷ rest = expected m.RightRound _ v.0.0 _ v.1
    ∙ ap (λ z. mark m.RightRound ∷ z) e.1 in
    let comma : s.0.1 ≡ mark m.Comma ∷ (operand_toks b.by ++ mark m.RightRound ∷ rest) =
    expected m.Comma _ t.0.0 _ t.1 ∙ ap (λ z. mark m.Comma ∷ z)
    (b.tokens ∙ ap (λ z. operand_toks b.by ++ z) close) in
    record {
      p = p.by;
      a = b.by;
      tokens = p.tokens ∙ ap (λ z. path_toks p.by ++ z) comma
          ∙ comma_found (path_toks p.by) (operand_toks b.by) rest;
      stands = sym e.0 ∙ ap (λ z. cond.HasKind z u.0.0) p.stands
          ∙ ap (cond.HasKind (path_tree g.names p.by)) b.stands;
    }

-- a path in the brackets of a function
path_call : (g : Given) (name : List ℕ) (f : List PathPart → Cond) (i : List Tok) (x : Cond)
    (rest : List Tok) → calls name i ≡ true
    → parse_and_then (in_brackets (path g.names) (drop 2 i)) (λ p j. Some (f p, j)) ≡ Some (x, rest)
    → (d : PathPhrase)
    × (i ≡ word name ∷ mark m.LeftRound ∷ ((path_toks d ++ mark m.RightRound ∷ []) ++ rest))
    × (x ≡ f (path_tree g.names d))
path_call g name f i x rest seen h =
    let a = then_some (in_brackets (path g.names) (drop 2 i)) _ _ h in
    let e = some_pair _ _ a.2 in
    let d = bracketed path_toks (path_tree g.names) (path g.names) (path_sound g.names)
    (drop 2 i) _ _ a.1 in
    (d.by, called name i seen ∙ ap (λ t. word name ∷ mark m.LeftRound ∷ t) (d.tokens ∙ ap (λ t. (path_toks d.by ++ mark m.RightRound ∷ []) ++ t) e.1), sym e.0 ∙ ap f d.stands)

operand_test_sound : (g : Given) (i : List Tok) (x : Cond) (rest : List Tok)
    → r.operand_test g i ≡ Some (x, rest) → Derived test_toks (test_tree g) i x rest
unfolding r.operand_test r.tail
operand_test_sound g i x rest h = elim (cases_Bool (calls (codes "attribute_type") i)) [
  | inl seen ↦
      let s = kind_sound g (drop 2 i) x rest (simp seen at h) in
      record { by = has_kind s.p s.a; tokens = called (codes "attribute_type") i seen ∙ ap (λ t. word (codes "attribute_type") ∷ mark m.LeftRound ∷ t) s.tokens; stands = s.stands }
  | inr no_type ↦ elim (cases_Bool (calls (codes "begins_with") i)) [
    | inl seen ↦
        let s = pair_sound g cond.BeginsWith (drop 2 i) x rest (simp (no_type, seen) at h) in
        record { by = begins s.a s.b; tokens = called (codes "begins_with") i seen ∙ ap (λ t. word (codes "begins_with") ∷ mark m.LeftRound ∷ t) s.tokens; stands = s.stands }
    | inr no_begins ↦ elim (cases_Bool (calls (codes "contains") i)) [
      | inl seen ↦
          let s = pair_sound g cond.Contains (drop 2 i) x rest
          (simp (no_type, no_begins, seen) at h) in
          record { by = contains s.a s.b; tokens = called (codes "contains") i seen ∙ ap (λ t. word (codes "contains") ∷ mark m.LeftRound ∷ t) s.tokens; stands = s.stands }
      | inr none ↦
          let b = simp (no_type, no_begins, none) at h in
          let a = then_some (r.operand g i) _ _ b in
          let d = operand_sound g i _ _ a.1 in
          tail_sound g i d.by x rest a.0.1 d.tokens
          (compared_sound g d.by a.0.1 _ x rest refl
          (subst (λ t. r.compared g t (r.sees_comparison a.0.1) a.0.1 ≡ Some (x, rest))
          d.stands a.2))
    ]
  ]
]

pub test_sound : (g : Given) (i : List Tok) (x : Cond) (rest : List Tok)
    → r.whole_test g i ≡ Some (x, rest) → Derived test_toks (test_tree g) i x rest
unfolding r.whole_test
test_sound g i x rest h = elim (cases_Bool (calls (codes "attribute_exists") i)) [
  | inl seen ↦
      let s = path_call g (codes "attribute_exists") cond.Exists i x rest seen (simp seen at h) in
      record { by = exists s.0; tokens = s.1; stands = s.2 }
  | inr no_exists ↦ elim (cases_Bool (calls (codes "attribute_not_exists") i)) [
    | inl seen ↦
        let s = path_call g (codes "attribute_not_exists") cond.NotExists i x rest seen
        (simp (no_exists, seen) at h) in
        record { by = not_exists s.0; tokens = s.1; stands = s.2 }
    | inr none ↦ operand_test_sound g i x rest (simp (no_exists, none) at h)
  ]
]
