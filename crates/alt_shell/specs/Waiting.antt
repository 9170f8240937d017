-- The pieces that a stream of a shell in memory has left.
use Rattle.std.specs.Prelude.{ℕ, List, map}
use Rattle.alt_shell.specs.declared.pieces.Pieces.{Pieces}

-- the pieces that are left
abbrev pub pieces_of : Pieces → List (List ℕ)
pieces_of pieces = map (λ v. v.items) pieces.waiting.items
