-- What a lexer answers, and the tokens of a whole text.
use Rattle.std.specs.Prelude.{◌≡◌, ℕ, ◌≤◌, Bool, true, false, List, [], ◌∷◌, drop, length, Option, Some, None, Result, Ok, Err}
use Rattle.alt_expr.specs.declared.token.Token.{Token}
use Rattle.alt_expr.specs.declared.lexer.At.{At}
use Rattle.alt_expr.specs.Tokens.{Tok, tok_of}
use Rattle.alt_expr.specs.Spelling.{TokenStands, NoneStands, skip}

-- Of a text and what is left of it: the longest token at its front and what is behind it, none where separators alone are
-- left, and the place in the text where no token stands. In the last two cases as much is left as before.
abbrev pub Lexed : List ℕ → List ℕ → Result (Option Token) At → List ℕ → Type 0
Lexed text left (Ok None) new = (skip left ≡ []) × (new ≡ left)
Lexed text left (Ok (Some t)) new = (len : ℕ) × TokenStands (skip left) len (tok_of t)
    × (new ≡ drop len (skip left))
Lexed text left (Err e) new =
    (skip left ≡ [] → ⊥) × NoneStands (skip left) × (e.at ≤ length text)
    × (drop e.at text ≡ skip left) × (new ≡ left)

-- a text has these tokens, up to its end, or else up to the first place where none stands
abbrev pub Lexes : List ℕ → List Tok → Bool → Type 0
Lexes text [] true = skip text ≡ []
Lexes text [] false = (skip text ≡ [] → ⊥) × NoneStands (skip text)
Lexes text (t ∷ ts) whole = (len : ℕ) × TokenStands (skip text) len t
    × Lexes (drop len (skip text)) ts whole
