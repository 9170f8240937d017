-- What a token is spelled as, and which token stands at the front of a text (AWS Developer Guide, "Expressions in DynamoDB";
-- where a word ends is this project's choice, in docs/formats/expressions.md).
use Rattle.std.specs.Prelude.{◌≡◌, ℕ, ◌+◌, ◌-◌, ◌*◌, ◌<◌, ◌≤◌, Bool, false, ◌==◌, ◌&&◌, ◌||◌, nat_le, if◌then◌else◌, List, [], ◌∷◌, length, take, drop, fold, Option, Some, None, option_map, codes}
use Rattle.std.specs.Option.{option_map_or}
use Rattle.std.specs.List.{list_all, prefix_len}
use Rattle.std.specs.Char.{is_ascii_digit, is_ascii_alphabetic, is_ascii_alphanumeric}
use Rattle.std.specs.Str.{str_eq_ignore_ascii_case}
use Rattle.alt_expr.specs.Tokens.{Tok, key, word, hash, colon, index, mark}
use Rattle.alt_expr.specs.declared.token.Keyword.{Keyword}
use Rattle.alt_expr.specs.declared.token.Keyword.TheVariants as k
use Rattle.alt_expr.specs.declared.token.Mark.{Mark}
use Rattle.alt_expr.specs.declared.token.Mark.TheVariants as m

-- a letter, a digit or `_`
abbrev pub is_inner : ℕ → Bool
is_inner b = is_ascii_alphanumeric b || b == 95

-- a space, a tab, a line feed or a carriage return
abbrev pub is_blank : ℕ → Bool
is_blank b = b == 32 || b == 9 || b == 10 || b == 13

-- the keyword that a word is, in any case
abbrev pub keyword_of : List ℕ → Option Keyword
keyword_of w =
    if str_eq_ignore_ascii_case w (codes "AND") then Some k.And
    else if str_eq_ignore_ascii_case w (codes "OR") then Some k.Or
    else if str_eq_ignore_ascii_case w (codes "NOT") then Some k.Not
    else if str_eq_ignore_ascii_case w (codes "IN") then Some k.Among
    else if str_eq_ignore_ascii_case w (codes "BETWEEN") then Some k.Between
    else if str_eq_ignore_ascii_case w (codes "SET") then Some k.Set
    else if str_eq_ignore_ascii_case w (codes "REMOVE") then Some k.Remove
    else if str_eq_ignore_ascii_case w (codes "ADD") then Some k.Add
    else if str_eq_ignore_ascii_case w (codes "DELETE") then Some k.Delete
    else None

-- a letter and what follows it: a keyword, or a word
abbrev pub word_tok : List ℕ → Tok
word_tok w = option_map_or key (keyword_of w) (word w)

-- the number that digits write
abbrev pub number_of_digits : List ℕ → ℕ
number_of_digits bs = fold (λ n b. n * 10 + (b - 48)) 0 bs

-- a mark of one byte: . [ ] ( ) , = < > + -
abbrev pub mark_of_byte : ℕ → Option Mark
mark_of_byte b =
    if b == 46 then Some m.Dot
    else if b == 91 then Some m.LeftSquare
    else if b == 93 then Some m.RightSquare
    else if b == 40 then Some m.LeftRound
    else if b == 41 then Some m.RightRound
    else if b == 44 then Some m.Comma
    else if b == 61 then Some m.Equal
    else if b == 60 then Some m.Less
    else if b == 62 then Some m.Greater
    else if b == 43 then Some m.Plus
    else if b == 45 then Some m.Minus
    else None

-- a mark of two bytes: <> <= >=
abbrev pub two_byte_mark : ℕ → ℕ → Option Mark
two_byte_mark b c =
    if b == 60 && c == 62 then Some m.NotEqual
    else if b == 60 && c == 61 then Some m.LessEqual
    else if b == 62 && c == 61 then Some m.GreaterEqual
    else None

-- what a mark's first byte and the bytes behind it spell
abbrev pub spelled_mark : ℕ → List ℕ → Option Tok
spelled_mark b [] = option_map mark (mark_of_byte b)
spelled_mark b (c ∷ []) = option_map mark (two_byte_mark b c)
spelled_mark b (c ∷ d ∷ bs) = None

-- one or more letters, digits or `_`
abbrev pub is_some_inner : List ℕ → Bool
is_some_inner [] = false
is_some_inner (b ∷ bs) = is_inner b && list_all is_inner bs

-- the token that a whole text spells, if it is one: told by its first byte, and by a test of the others
abbrev pub spelled_token : List ℕ → Option Tok
spelled_token [] = None
spelled_token (b ∷ bs) =
    if is_ascii_alphabetic b then (if list_all is_inner bs then Some (word_tok (b ∷ bs)) else None)
    else if b == 35 then (if is_some_inner bs then Some (hash (b ∷ bs)) else None)
    else if b == 58 then (if is_some_inner bs then Some (colon (b ∷ bs)) else None)
    else if is_ascii_digit b then
    (if list_all is_ascii_digit bs && nat_le (length bs) 8
    then Some (index (number_of_digits (b ∷ bs))) else None)
    else spelled_mark b bs

-- the token is the longest that a front of the text spells, and has this length
pub record TokenStands (text : List ℕ) (len : ℕ) (t : Tok) : Type 0 where
  pub within : len ≤ length text
  pub spells : spelled_token (take len text) ≡ Some t
  pub longest : (n : ℕ) → len < n → n ≤ length text → spelled_token (take n text) ≡ None

-- no front of the text spells a token
abbrev pub NoneStands : List ℕ → Type 0
NoneStands text = (n : ℕ) → n ≤ length text → spelled_token (take n text) ≡ None

-- the text behind separators
abbrev pub skip : List ℕ → List ℕ
skip text = drop (prefix_len is_blank text) text
