-- Tokens as contracts see them.
use Rattle.std.specs.Prelude.{ℕ, Bool, false, List}
use denote.Enum.Bare.{sameb}
use Rattle.alt_expr.specs.contracts.token.Keyword as keywords
use Rattle.alt_expr.specs.contracts.token.Mark as marks
use Rattle.alt_expr.specs.declared.token.Keyword.{Keyword}
use Rattle.alt_expr.specs.declared.token.Mark.{Mark}
use Rattle.alt_expr.specs.declared.token.Token.{Token}
use Rattle.alt_expr.specs.declared.token.Token.TheVariants as t

-- keywords, words without a sign, with `#` and with `:` (which they hold), indexes by their value, and marks
pub data Tok : Type 0 where
  key : Keyword → Tok
  word : List ℕ → Tok
  hash : List ℕ → Tok
  colon : List ℕ → Tok
  index : ℕ → Tok
  mark : Mark → Tok

-- a token with the bytes of its text
abbrev pub tok_of : Token → Tok
tok_of (t.Keyword k) = key k
tok_of (t.Word w) = word w.now
tok_of (t.HashWord w) = hash w.now
tok_of (t.ColonWord w) = colon w.now
tok_of (t.Index n) = index n
tok_of (t.Mark m) = mark m

-- two keywords are one
abbrev pub same_keyword : Keyword → Keyword → Bool
same_keyword = sameb keywords.the_type

-- two marks are one
abbrev pub same_mark : Mark → Mark → Bool
same_mark = sameb marks.the_type

-- the token is this mark
abbrev pub is_mark : Mark → Tok → Bool
is_mark m (mark n) = same_mark n m
is_mark m _ = false

-- the token is this keyword
abbrev pub is_keyword : Keyword → Tok → Bool
is_keyword k (key j) = same_keyword j k
is_keyword k _ = false
