-- What there is to tell of a text: its tokens, and over what is given its tree or its first fault. Both are told by the text alone, so
-- whoever has one of these records has the one that there is (`tokens_once`, `one_answer`).
use Rattle.std.specs.Prelude.{◌≡◌, ℕ, Bool, List, Result, Err}
use Rattle.alt_expr.specs.Faults.{Language, Parsed}
use Rattle.alt_expr.specs.Given.{Given}
use Rattle.alt_expr.specs.Lexed.{Lexes}
use Rattle.alt_expr.specs.Tokens.{Tok}
use Rattle.alt_expr.specs.declared.fault.ExprFault.{ExprFault}
use Rattle.alt_expr.specs.declared.fault.ExprFault.TheVariants as fault

-- the tokens of a text, up to its end, or else up to the first place where none stands
pub record TextTokens (text : List ℕ) : Type 0 where
  pub toks : List Tok
  pub whole : Bool
  pub lexes : Lexes text toks whole

-- it isn't want of memory, which tells nothing of a text
abbrev pub IsTold : {A : Type 0} → Result A ExprFault → Type 0
IsTold result = result ≡ Err fault.NoMemory → ⊥

-- the tree of a text of a grammar, or the first fault of the text
pub record Told {D A : Type 0} (L : Language D A) (g : Given) (text : List ℕ) : Type 0 where
  pub result : Result A ExprFault
  pub parsed : Parsed L g text result
  pub told : IsTold result

-- What was answered of a text is all that there is to tell of it: by no other derivation has it another tree, or a fault.
unfoldable pub IsOnly : {D A : Type 0} (L : Language D A) (g : Given) (text : List ℕ)
    → Result A ExprFault → Type 0
IsOnly {A = A} L g text result = IsTold result → (other : Result A ExprFault)
    → Parsed L g text other → IsTold other → result ≡ other
