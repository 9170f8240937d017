-- How deep tokens nest.
use Rattle.std.specs.Prelude.{◌⊎◌, ℕ, suc, ◌+◌, ◌<◌, Bool, if◌then◌else◌, List, [], ◌∷◌, take}
use Rattle.alt_expr.specs.Tokens.{Tok, is_mark, is_keyword}
use Rattle.alt_expr.specs.declared.token.Keyword.TheVariants.{Not}
use Rattle.alt_expr.specs.declared.token.Mark.TheVariants.{LeftRound, RightRound}

-- how many pass
abbrev pub count : (Tok → Bool) → List Tok → ℕ
count p [] = 0
count p (t ∷ ts) = if p t then suc (count p ts) else count p ts

-- how many brackets tokens open
abbrev pub brackets_opened : List Tok → ℕ
brackets_opened = count (is_mark LeftRound)

-- how many brackets tokens close
abbrev pub brackets_closed : List Tok → ℕ
brackets_closed = count (is_mark RightRound)

-- how many times tokens have NOT
abbrev pub nots : List Tok → ℕ
nots = count (is_keyword Not)

-- a front with over 64 more opening brackets than closing ones, or over 64 times NOT
abbrev pub NestsTooDeep : List Tok → Type 0
NestsTooDeep toks = ((k : ℕ) × (brackets_closed (take k toks) + 64 < brackets_opened (take k toks))) ⊎ (64 < nots toks)
