-- The grammar of conditions: a phrase has a constructor for each production, the tokens that it derives, and a tree
-- (AWS Developer Guide, "Condition and filter expressions, operators, and functions in DynamoDB").
--
--     operand = path | :word | "size" "(" path ")"
--     cond    = and { OR and }
--     and     = not { AND not }
--     not     = NOT not | prim
--     prim    = "(" cond ")"
--             | operand ("=" | "<>" | "<" | "<=" | ">" | ">=") operand
--             | operand BETWEEN operand AND operand
--             | operand IN "(" operand { "," operand } ")"
--             | "attribute_exists" "(" path ")" | "attribute_not_exists" "(" path ")"
--             | "attribute_type" "(" path "," operand ")"
--             | "begins_with" "(" operand "," operand ")" | "contains" "(" operand "," operand ")"
use Rattle.std.specs.Prelude.{ℕ, List, [], ◌∷◌, ◌++◌, map, codes}
use Rattle.alt_expr.specs.Tokens.{Tok, key, colon, mark}
use Rattle.alt_expr.specs.Given.{Given, value_of}
use Rattle.alt_expr.specs.PathGrammar.{PathPhrase, path_toks, path_tree, call_toks, between_toks}
use Rattle.alt_expr.specs.declared.token.Keyword.TheVariants as k
use Rattle.alt_expr.specs.declared.token.Mark.{Mark}
use Rattle.alt_expr.specs.declared.token.Mark.TheVariants as m
use Rattle.alt_expr.specs.declared.cond.Comparison.{Comparison}
use Rattle.alt_expr.specs.declared.cond.Comparison.TheVariants as c
use Rattle.alt_expr.specs.declared.cond.Operand.{Operand}
use Rattle.alt_expr.specs.declared.cond.Operand.TheVariants as o
use Rattle.alt_expr.specs.declared.cond.Cond.{Cond}
use Rattle.alt_expr.specs.declared.cond.Cond.TheVariants as cond

-- operand = path | :word | "size" "(" path ")"
pub data OperandPhrase : Type 0 where
  at : PathPhrase → OperandPhrase
  value : List ℕ → OperandPhrase
  size : PathPhrase → OperandPhrase

-- prim, but for brackets
pub data TestPhrase : Type 0 where
  compared : OperandPhrase → Comparison → OperandPhrase → TestPhrase
  between : OperandPhrase → OperandPhrase → OperandPhrase → TestPhrase
  among : OperandPhrase → OperandPhrase → List OperandPhrase → TestPhrase
  exists : PathPhrase → TestPhrase
  not_exists : PathPhrase → TestPhrase
  has_kind : PathPhrase → OperandPhrase → TestPhrase
  begins : OperandPhrase → OperandPhrase → TestPhrase
  contains : OperandPhrase → OperandPhrase → TestPhrase

mutual
  -- cond = and { OR and }
  pub data CondPhrase : Type 0 where
    last : AndPhrase → CondPhrase
    either : AndPhrase → CondPhrase → CondPhrase

  -- and = not { AND not }
  pub data AndPhrase : Type 0 where
    final : NotPhrase → AndPhrase
    both : NotPhrase → AndPhrase → AndPhrase

  -- not = NOT not | "(" cond ")" | a test
  pub data NotPhrase : Type 0 where
    negated : NotPhrase → NotPhrase
    group : CondPhrase → NotPhrase
    test : TestPhrase → NotPhrase

-- ---- the tokens that a phrase derives

-- the tokens of an operand
abbrev pub operand_toks : OperandPhrase → List Tok
operand_toks (at p) = path_toks p
operand_toks (value w) = colon w ∷ []
operand_toks (size p) = call_toks (codes "size") (path_toks p)

-- the mark that spells a comparison
abbrev pub mark_of : Comparison → Mark
mark_of c.Equal = m.Equal
mark_of c.NotEqual = m.NotEqual
mark_of c.Less = m.Less
mark_of c.LessEqual = m.LessEqual
mark_of c.Greater = m.Greater
mark_of c.GreaterEqual = m.GreaterEqual

-- operands between commas
abbrev pub operands_toks : OperandPhrase → List OperandPhrase → List Tok
operands_toks = between_toks operand_toks (mark m.Comma)

-- the tokens of a test
abbrev pub test_toks : TestPhrase → List Tok
test_toks (compared a by b) = operand_toks a ++ mark (mark_of by) ∷ operand_toks b
test_toks (between a low high) =
    operand_toks a ++ key k.Between ∷ (operand_toks low ++ key k.And ∷ operand_toks high)
test_toks (among a b bs) = operand_toks a ++ key k.Among ∷ mark m.LeftRound
    ∷ (operands_toks b bs ++ mark m.RightRound ∷ [])
test_toks (exists p) = call_toks (codes "attribute_exists") (path_toks p)
test_toks (not_exists p) = call_toks (codes "attribute_not_exists") (path_toks p)
test_toks (has_kind p a) =
    call_toks (codes "attribute_type") (path_toks p ++ mark m.Comma ∷ operand_toks a)
test_toks (begins a b) =
    call_toks (codes "begins_with") (operand_toks a ++ mark m.Comma ∷ operand_toks b)
test_toks (contains a b) =
    call_toks (codes "contains") (operand_toks a ++ mark m.Comma ∷ operand_toks b)

abbrev mutual
  -- the tokens of a condition
  pub cond_toks : CondPhrase → List Tok
  cond_toks (last a) = and_toks a
  cond_toks (either a o) = and_toks a ++ key k.Or ∷ cond_toks o

  -- the tokens of members with AND between them
  pub and_toks : AndPhrase → List Tok
  and_toks (final d) = not_toks d
  and_toks (both d a) = not_toks d ++ key k.And ∷ and_toks a

  -- the tokens of a member, each NOT before it
  pub not_toks : NotPhrase → List Tok
  not_toks (negated d) = key k.Not ∷ not_toks d
  not_toks (group o) = mark m.LeftRound ∷ (cond_toks o ++ mark m.RightRound ∷ [])
  not_toks (test t) = test_toks t

-- ---- its tree, with the given names and values put in

-- the operand that a phrase stands for, by the words given
abbrev pub operand_tree : Given → OperandPhrase → Operand
operand_tree g (at p) = o.At (path_tree g.names p)
operand_tree g (value w) = o.Value (value_of g.values w)
operand_tree g (size p) = o.Size (path_tree g.names p)

-- the condition that a test stands for
abbrev pub test_tree : Given → TestPhrase → Cond
test_tree g (compared a by b) = cond.Compare by (operand_tree g a) (operand_tree g b)
test_tree g (between a low high) =
    cond.Between (operand_tree g a) (operand_tree g low) (operand_tree g high)
test_tree g (among a b bs) =
    cond.Among (operand_tree g a) (operand_tree g b ∷ map (operand_tree g) bs)
test_tree g (exists p) = cond.Exists (path_tree g.names p)
test_tree g (not_exists p) = cond.NotExists (path_tree g.names p)
test_tree g (has_kind p a) = cond.HasKind (path_tree g.names p) (operand_tree g a)
test_tree g (begins a b) = cond.BeginsWith (operand_tree g a) (operand_tree g b)
test_tree g (contains a b) = cond.Contains (operand_tree g a) (operand_tree g b)

-- one member stands for itself
abbrev pub any_of : List Cond → Cond
any_of (c ∷ []) = c
any_of cs = cond.Any cs

-- one member alone, or all of several
abbrev pub conjunction_of : List Cond → Cond
conjunction_of (c ∷ []) = c
conjunction_of cs = cond.All cs

abbrev mutual
  -- the alternatives of a condition
  pub cond_trees : Given → CondPhrase → List Cond
  cond_trees g (last a) = conjunction_of (and_trees g a) ∷ []
  cond_trees g (either a o) = conjunction_of (and_trees g a) ∷ cond_trees g o

  -- the members with AND between them
  pub and_trees : Given → AndPhrase → List Cond
  and_trees g (final d) = not_tree g d ∷ []
  and_trees g (both d a) = not_tree g d ∷ and_trees g a

  -- the condition that a member stands for, negated once for each NOT
  pub not_tree : Given → NotPhrase → Cond
  not_tree g (negated d) = cond.Not (not_tree g d)
  not_tree g (group o) = any_of (cond_trees g o)
  not_tree g (test t) = test_tree g t

-- the condition that a phrase stands for
abbrev pub cond_tree : Given → CondPhrase → Cond
cond_tree g o = any_of (cond_trees g o)
