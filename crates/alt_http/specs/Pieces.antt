-- The parts of a head, one behind the other. These words serve the clauses of private functions
-- alone.
use Rattle.std.specs.Prelude.{ℕ, List, map, decimal}
use Rattle.alt_http.specs.Replies.{joined}
use Rattle.alt_http.specs.declared.replying.Piece.{Piece}
use Rattle.alt_http.specs.declared.replying.Piece.TheVariants.{Text, Number, Date}

-- a text as it is, a number in decimal digits, a date as it is
abbrev pub piece_text : Piece → List ℕ
piece_text (Text text) = text.now
piece_text (Number n) = decimal n
piece_text (Date date) = date

-- all of them
abbrev pub pieces_text : List Piece → List ℕ
pieces_text pieces = joined (map piece_text pieces)
