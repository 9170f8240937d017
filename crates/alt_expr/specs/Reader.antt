-- What each function of a parser reads: the tree at the front of the tokens, and the tokens after it. It is a reader that takes
-- one token after the other; that it meets the grammar is proved of each parser as a whole.
use Rattle.std.specs.Prelude.{◌≡◌, ◌≢◌, ℕ, zero, suc, Bool, true, false, ◌&&◌, if◌then◌else◌, List, [], ◌∷◌, ◌++◌, length, map, drop, Option, Some, None, Result, Ok, Err}
use Rattle.std.specs.Str.{bytes_eq}
use Rattle.alt_value.specs.Tree.{Pair}
use Rattle.alt_expr.specs.Tokens.{Tok, word, hash, index, tok_of, is_mark, is_keyword}
use Rattle.alt_expr.specs.Given.{name_of}
use Rattle.alt_expr.specs.declared.token.Keyword.{Keyword}
use Rattle.alt_expr.specs.declared.token.Mark.{Mark}
use Rattle.alt_expr.specs.declared.token.Mark.TheVariants as m
use Rattle.alt_expr.specs.declared.cursor.Cursor.{Cursor}
use Rattle.alt_expr.specs.declared.fault.ExprFault.{ExprFault}
use Rattle.alt_expr.specs.declared.fault.ExprFault.TheVariants.{Syntax, NoMemory}
use Rattle.alt_expr.specs.declared.path.PathPart.{PathPart}
use Rattle.alt_expr.specs.declared.path.PathPart.TheVariants as p

-- the tokens before a cursor
abbrev pub left : Cursor → List Tok
left t = map tok_of t.rest.now

-- what was read and the tokens behind it; none where the tokens are of no such phrase
abbrev pub ParseOutcome : Type 0 → Type 0
ParseOutcome A = Option (A × List Tok)

-- a reader of the front of a list of tokens
abbrev pub Parser : Type 0 → Type 0
Parser A = List Tok → ParseOutcome A

-- the next reader goes on behind what the first has read
abbrev pub parse_and_then : {A B : Type 0} → ParseOutcome A → (A → Parser B) → ParseOutcome B
parse_and_then None f = None
parse_and_then (Some p) f = f p.0 p.1

infixl 10 ◌>>=◌
-- a parser, and behind it the parser that its tree picks
abbrev pub ◌>>=◌ : {A B : Type 0} → Parser A → (A → Parser B) → Parser B
p >>= f = λ i. parse_and_then (p i) f

infixl 10 ◌>>◌
-- a parser, and behind it another whatever the first one gave
abbrev pub ◌>>◌ : {A B : Type 0} → Parser A → Parser B → Parser B
p >> q = p >>= (λ _. q)

-- nothing is read
abbrev pub pure : {A : Type 0} → A → Parser A
pure a = λ i. Some (a, i)

infixr 11 ◌<$>◌
-- a parser with its tree made into another
abbrev pub ◌<$>◌ : {A B : Type 0} → (A → B) → Parser A → Parser B
f <$> p = p >>= (λ x. pure (f x))

-- no tokens are of it
abbrev pub refuse : {A : Type 0} → Parser A
refuse = λ i. None

-- ---- the next tokens

-- whether a token is that word
abbrev pub is_word_token : List ℕ → Tok → Bool
is_word_token name (word w) = bytes_eq w name
is_word_token name _ = false

-- whether a token is a word
abbrev pub is_any_word : Tok → Bool
is_any_word (word w) = true
is_any_word _ = false

-- whether the first token passes a test
abbrev pub first_is : (Tok → Bool) → List Tok → Bool
first_is p [] = false
first_is p (t ∷ ts) = p t

-- whether a mark stands next, without taking it
unfoldable pub sees_mark : Mark → List Tok → Bool
sees_mark m i = first_is (is_mark m) i

-- whether a keyword stands next, without taking it
unfoldable pub sees_key : Keyword → List Tok → Bool
sees_key k i = first_is (is_keyword k) i

-- a word, and a round bracket behind it
unfoldable pub calls : List ℕ → List Tok → Bool
calls name i = first_is (is_word_token name) i && sees_mark m.LeftRound (drop 1 i)

-- whether a word stands next with a bracket behind it
unfoldable pub is_call : List Tok → Bool
is_call i = first_is is_any_word i && sees_mark m.LeftRound (drop 1 i)

-- the tokens behind a mark, if it stands next
unfoldable pub after_mark : Mark → List Tok → List Tok
after_mark m i = if sees_mark m i then drop 1 i else i

-- the tokens behind a keyword, if it stands next
unfoldable pub after_key : Keyword → List Tok → List Tok
after_key k i = if sees_key k i then drop 1 i else i

-- takes a mark if it stands next, and says whether
abbrev pub eat : Mark → Parser Bool
eat m = λ i. Some (sees_mark m i, after_mark m i)

-- takes a keyword if it stands next, and says whether
abbrev pub eat_key : Keyword → Parser Bool
eat_key k = λ i. Some (sees_key k i, after_key k i)

-- takes a mark that must stand next
unfoldable pub expect : Mark → Parser (Unit {0})
expect m = λ i. if sees_mark m i then Some (tt, drop 1 i) else None

-- takes a keyword that must stand next
unfoldable pub expect_key : Keyword → Parser (Unit {0})
expect_key k = λ i. if sees_key k i then Some (tt, drop 1 i) else None

-- takes so many tokens, whatever they are
abbrev pub skip : ℕ → Parser (Unit {0})
skip n = λ i. Some (tt, drop n i)

-- ---- paths

-- a name: a word, or what a `#` word is given
abbrev pub name_at : List Pair → List Tok → ParseOutcome (List ℕ)
name_at names (word w ∷ ts) = Some (w, ts)
name_at names (hash w ∷ ts) = Some (name_of names w, ts)
name_at names _ = None

-- a name, wherever the tokens stand
unfoldable pub name : List Pair → Parser (List ℕ)
name = name_at

-- an index
abbrev pub index_token : List Tok → ParseOutcome ℕ
index_token (index n ∷ ts) = Some (n, ts)
index_token _ = None

-- an index, wherever the tokens stand
unfoldable pub number : Parser ℕ
number = index_token

-- an index and the bracket that closes it
unfoldable pub index_part : Parser PathPart
index_part = do
  x ← number
  expect m.RightSquare
  pure (p.Index x)

-- a further part of a path, if one comes next
unfoldable pub part : List Pair → Parser (Option PathPart)
part names = do
  dot ← eat m.Dot
  if dot then (do
    x ← name names
    pure (Some (p.Name x))) else (do
      square ← eat m.LeftSquare
      if square then (do
        x ← index_part
        pure (Some x)) else pure None)

-- further parts behind one that was read, or the parts found
abbrev pub parts_on : (List PathPart → Parser (List PathPart)) → List PathPart → Option PathPart
    → Parser (List PathPart)
parts_on more found (Some x) = more (found ++ x ∷ [])
parts_on more found None = pure found

-- the parts of a path, behind those found
unfoldable pub parts_from : List Pair → ℕ → List PathPart → Parser (List PathPart)
parts_from names zero found = refuse
parts_from names (suc n) found = do
  next ← part names
  parts_on (parts_from names n) found next

-- a path: a name, then its further parts
unfoldable pub path : List Pair → Parser (List PathPart)
path names = λ i. (do
  x ← name names
  parts_from names (length i) (p.Name x ∷ [])) i

-- a phrase and the bracket that closes it
unfoldable pub in_brackets : {A : Type 0} → Parser A → Parser A
in_brackets p = do
  x ← p
  expect m.RightRound
  pure x

-- ---- lists

-- further ones, each behind a comma
unfoldable pub listed_from : {A : Type 0} → Parser A → ℕ → List A → Parser (List A)
listed_from one zero found = refuse
listed_from one (suc n) found = do
  more ← eat m.Comma
  if more then (do
    x ← one
    listed_from one n (found ++ x ∷ [])) else pure found

-- one or more, with commas between
unfoldable pub comma_separated : {A : Type 0} → Parser A → Parser (List A)
comma_separated one = λ i. (do
  x ← one
  listed_from one (length i) (x ∷ [])) i

-- ---- what a function that parses ensures: the outcome, unless memory fails

-- an answer is what the parser reads, with the tokens behind it left; a refusal is of the grammar, if memory is there
abbrev pub ReadsExpression : {A : Type 0} → ParseOutcome A → Result A ExprFault → List Tok → Type 0
ReadsExpression outcome (Ok a) new = outcome ≡ Some (a, new)
ReadsExpression outcome (Err e) new = e ≢ NoMemory → (outcome ≡ None) × (e ≡ Syntax)
