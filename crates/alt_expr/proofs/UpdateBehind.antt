-- Actions behind others are the list of them alone, behind those.
use Rattle.std.proofs.Common.{◌≡◌, refl, ap, ◌∙◌, ℕ, zero, suc, Bool, true, false, cond, List, [], ◌∷◌, ◌++◌, length, Some, None, append_assoc}
use Rattle.alt_expr.specs.Tokens.{Tok}
use Rattle.alt_expr.specs.declared.token.Mark.TheVariants as m
use Rattle.alt_expr.specs.declared.update.Action.{Action}
use Rattle.alt_expr.specs.Reader.{ParseOutcome, Parser, parse_and_then, sees_mark, after_mark, comma_separated, listed_from}
use Rattle.alt_expr.specs.UpdateReader.{listed_behind}

-- an outcome whose list stands behind another
abbrev pub put_behind : List Action → ParseOutcome (List Action) → ParseOutcome (List Action)
put_behind before o = parse_and_then o (λ xs j. Some (before ++ xs, j))

module _ (one : Parser Action) (n : ℕ) (before : List Action)
    (rest_behind : (found : List Action) (i : List Tok)
    → listed_from one n (before ++ found) i
    ≡ put_behind before (listed_from one n found i)) where
  -- one action more, behind others, is behind those too
  next : (found : List Action) (o : ParseOutcome Action)
      → parse_and_then o (λ x. listed_from one n ((before ++ found) ++ x ∷ []))
      ≡ put_behind before (parse_and_then o (λ x. listed_from one n (found ++ x ∷ [])))
  next found None = refl
  next found (Some p) = ap (λ xs. listed_from one n xs p.1) (append_assoc before found (p.0 ∷ []))
      ∙ rest_behind (found ++ p.0 ∷ []) p.1

  turn : (found : List Action) (b : Bool) (j : List Tok)
      → cond {A = Parser (List Action)} b
      (λ i. parse_and_then (one i) (λ x. listed_from one n ((before ++ found) ++ x ∷ [])))
      (λ i. Some (before ++ found, i)) j
      ≡ put_behind before
      (cond {A = Parser (List Action)} b
      (λ i. parse_and_then (one i) (λ x. listed_from one n (found ++ x ∷ [])))
      (λ i. Some (found, i)) j)
  turn found false j = refl
  turn found true j = next found (one j)

from_behind : (one : Parser Action) (n : ℕ) (before found : List Action) (i : List Tok)
    → listed_from one n (before ++ found) i ≡ put_behind before (listed_from one n found i)
unfolding listed_from
from_behind one zero before found i = refl
from_behind one (suc n) before found i = turn one n before
    (λ f j. from_behind one n before f j) found (sees_mark m.Comma i) (after_mark m.Comma i)

-- actions listed behind others are those listed alone, behind the others
pub behind : (one : Parser Action) (found : List Action) (i : List Tok)
    → listed_behind one found i ≡ put_behind found (comma_separated one i)
unfolding listed_behind comma_separated
behind one found i = first one found (length i) (one i)
  where
    first : (one : Parser Action) (found : List Action) (n : ℕ) (o : ParseOutcome Action)
        → parse_and_then o (λ x. listed_from one n (found ++ x ∷ []))
        ≡ put_behind found (parse_and_then o (λ x. listed_from one n (x ∷ [])))
    first one found n None = refl
    first one found n (Some p) = from_behind one n found (p.0 ∷ []) p.1
