-- `TooDeep` by one walk. Private contracts alone cite it.
use Rattle.std.specs.Prelude.{ℕ, ◌+◌, Bool, true, false, cond, ◌||◌, nat_lt, if◌then◌else◌, List, [], ◌∷◌}
use Rattle.alt_expr.specs.Tokens.{Tok, is_mark, is_keyword}
use Rattle.alt_expr.specs.declared.token.Keyword.TheVariants.{Not}
use Rattle.alt_expr.specs.declared.token.Mark.TheVariants.{LeftRound, RightRound}

-- after this many opening brackets, closing ones and NOTs
abbrev pub deep_from : ℕ → ℕ → ℕ → List Tok → Bool
deep_from o c n [] = false
deep_from o c n (t ∷ ts) =
    let o' = o + cond (is_mark LeftRound t) 1 0 in
    let c' = c + cond (is_mark RightRound t) 1 0 in
    let n' = n + cond (is_keyword Not t) 1 0 in
    if nat_lt (c' + 64) o' || nat_lt 64 n' then true else deep_from o' c' n' ts

-- whether tokens nest too deep from their first on
unfoldable pub is_deep : List Tok → Bool
is_deep = deep_from 0 0 0
