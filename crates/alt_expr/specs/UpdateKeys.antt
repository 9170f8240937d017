-- Which keywords stand twice, by one walk. Private contracts alone cite it.
use Rattle.std.specs.Prelude.{Bool, true, false, if◌then◌else◌, List, [], ◌∷◌}
use Rattle.alt_expr.specs.Tokens.{Tok, is_keyword}
use Rattle.alt_expr.specs.declared.token.Keyword.{Keyword}

-- a keyword stands among the tokens, once more where it was found before them
abbrev pub is_again : Keyword → Bool → List Tok → Bool
is_again j found [] = false
is_again j found (t ∷ ts) =
    if is_keyword j t then (if found then true else is_again j true ts) else is_again j found ts

-- a keyword stands twice among the tokens
unfoldable pub is_twice : List Tok → Keyword → Bool
is_twice ts j = is_again j false ts
