-- What one look at the front of a text finds. Private contracts alone cite it.
use Rattle.std.specs.Prelude.{ℕ, suc, ◌≡◌, ◌≤◌, ⊤, true, min, ◌==◌, if◌then◌else◌, List, [], ◌∷◌, length, Option, Some, None, option_map}
use Rattle.std.specs.Option.{option_map_or}
use Rattle.std.specs.List.{prefix_len, list_all}
use Rattle.std.specs.Char.{is_ascii_digit, is_ascii_alphabetic}
use Rattle.alt_expr.specs.declared.lexer.Kind.{Kind}
use Rattle.alt_expr.specs.declared.lexer.Kind.TheVariants as k
use Rattle.alt_expr.specs.Tokens.{Tok, hash, colon, index, mark}
use Rattle.alt_expr.specs.Spelling.{is_inner, mark_of_byte, two_byte_mark, word_tok, number_of_digits}

-- the token of that kind with that spelling
abbrev pub kind_tok : Kind → List ℕ → Tok
kind_tok k.Word w = word_tok w
kind_tok k.Hash w = hash w
kind_tok k.Colon w = colon w
kind_tok k.Index w = index (number_of_digits w)
kind_tok (k.Mark m) w = mark m

-- an index is spelled by at most nine digits
abbrev pub LooksFit : Kind → List ℕ → Type 0
LooksFit k.Index w = (list_all is_ascii_digit w ≡ true) × (length w ≤ 9)
LooksFit _ w = ⊤

-- a sign and a word behind it, where the word isn't empty
abbrev pub found_signed : Kind → ℕ → Option (Kind × ℕ)
found_signed kind n = if n == 1 then None else Some (kind, n)

-- a mark of one byte
abbrev pub found_single : ℕ → Option (Kind × ℕ)
found_single b = option_map (λ m. (k.Mark m, 1)) (mark_of_byte b)

-- a mark of two bytes where it can be, else of one
abbrev pub found_mark : ℕ → List ℕ → Option (Kind × ℕ)
found_mark b [] = found_single b
found_mark b (c ∷ bs) = option_map_or (λ m. Some (k.Mark m, 2)) (two_byte_mark b c) (found_single b)

-- the kind and the length of the token at the front
abbrev pub found : List ℕ → Option (Kind × ℕ)
found [] = None
found (b ∷ bs) =
    if is_ascii_alphabetic b then Some (k.Word, suc (prefix_len is_inner bs))
    else if b == 35 then found_signed k.Hash (suc (prefix_len is_inner bs))
    else if b == 58 then found_signed k.Colon (suc (prefix_len is_inner bs))
    else if is_ascii_digit b then Some (k.Index, suc (min (prefix_len is_ascii_digit bs) 8))
    else found_mark b bs
