-- What is answered of a text's tokens, where it isn't too long. Private contracts of the parsers alone cite it.
use Rattle.std.specs.Prelude.{◌≡◌, ◌≢◌, Bool, true, List, Result, Ok, Err}
use Rattle.std.specs.List.{list_any}
use Rattle.alt_expr.specs.Tokens.{Tok}
use Rattle.alt_expr.specs.Given.{Given, is_unknown}
use Rattle.alt_expr.specs.Nesting.{NestsTooDeep}
use Rattle.alt_expr.specs.Faults.{Language, AnswersTreeOrFault}
use Rattle.alt_expr.specs.declared.fault.ExprFault.{ExprFault}
use Rattle.alt_expr.specs.declared.fault.ExprFault.TheVariants as fault

module _ {D A : Type 0} (L : Language D A) (g : Given) (toks : List Tok) where
  -- the tokens are those of a phrase
  abbrev pub IsOf : Type 0
  IsOf = (d : D) × (toks ≡ L.toks d)

  -- the tokens are those of a phrase, and this is its tree
  abbrev pub IsTree : A → Type 0
  IsTree a = (d : D) × (toks ≡ L.toks d) × (a ≡ L.tree g d)

  -- a tree exactly where the tokens are those of a phrase
  unfoldable pub ReadsWhole : Result A ExprFault → Type 0
  ReadsWhole (Ok a) = IsTree a
  ReadsWhole (Err f) = f ≢ fault.NoMemory → (f ≡ fault.Syntax) × (IsOf → ⊥)

  -- the faults by the tokens, of which there may be none behind the last
  abbrev pub TokensHave : Bool → ExprFault → Type 0
  TokensHave whole fault.TooLong = ⊥
  TokensHave whole fault.TooDeep = NestsTooDeep toks
  TokensHave whole fault.Syntax = (whole ≡ true) × IsOf → ⊥
  TokensHave whole fault.Undefined = (whole ≡ true)
      × ((d : D) × (toks ≡ L.toks d) × (list_any (is_unknown g) (L.toks d) ≡ true))
  TokensHave whole fault.TooMany = (whole ≡ true)
      × ((d : D) × (toks ≡ L.toks d) × (L.is_crowded (L.tree g d) ≡ true))
  TokensHave whole fault.RepeatedClause = (whole ≡ true)
      × ((d : D) × (toks ≡ L.toks d) × (L.repeats d ≡ true))
  TokensHave whole fault.Overlap = (whole ≡ true)
      × ((d : D) × (toks ≡ L.toks d) × (L.overlaps (L.tree g d) ≡ true))
  TokensHave whole fault.NoMemory = ⊥

  -- the tokens so far may be cut off: a tree only where they are whole
  unfoldable pub ReadTokens : Bool → Result A ExprFault → Type 0
  ReadTokens whole result = AnswersTreeOrFault (TokensHave whole) (λ a. (whole ≡ true) × IsTree a) result
