-- How far a lexer has read.
use Rattle.std.specs.Prelude.{ℕ, List}
use Rattle.alt_expr.specs.declared.lexer.Lexer.{Lexer}

-- the text that a lexer reads
abbrev pub lexer_text : Lexer → List ℕ
lexer_text l = l.whole.now

-- what a lexer has still to read
abbrev pub left_of : Lexer → List ℕ
left_of l = l.rest.now
