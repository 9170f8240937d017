-- What the pieces of a line print. These words serve the clauses of private functions alone.
use Rattle.std.specs.Prelude.{ℕ, List, map, decimal}
use Rattle.alt_lines.specs.TrialTexts.{joined}
use Rattle.alt_lines.specs.declared.pieces.Piece.{Piece}
use Rattle.alt_lines.specs.declared.pieces.Piece.TheVariants.{Text, Number}

-- a text as it is, a number in decimal digits
abbrev pub line_piece_text : Piece → List ℕ
line_piece_text (Text text) = text.now
line_piece_text (Number n) = decimal n

-- the pieces one behind the other
abbrev pub line_pieces_text : List Piece → List ℕ
line_pieces_text pieces = joined (map line_piece_text pieces)
