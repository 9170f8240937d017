-- Pieces of input, and moments to tell, as a shell in memory gives them out.
use Rattle.std.specs.Prelude.{ℕ, List, [], ◌∷◌, ◌++◌, take, drop, Bool, true, false}

-- the pieces with one more; an empty one is none
abbrev pub with_piece : List (List ℕ) → List ℕ → List (List ℕ)
with_piece ps [] = ps
with_piece ps (b ∷ bytes) = ps ++ (b ∷ bytes) ∷ []

-- so where the end wasn't taken; behind an end that was taken comes none
abbrev pub with_more : Bool → List (List ℕ) → List ℕ → List (List ℕ)
with_more true ps piece = ps
with_more false ps piece = with_piece ps piece

-- connections, each as its pieces, with one more piece on the one added last
abbrev pub sent_last : List (List (List ℕ)) → List ℕ → List (List (List ℕ))
sent_last [] piece = []
sent_last (ps ∷ []) piece = with_piece ps piece ∷ []
sent_last (ps ∷ qs ∷ more) piece = ps ∷ sent_last (qs ∷ more) piece

-- what a piece that is sent leaves of the talk at hand: it is one of its own where no connection was added behind it
abbrev pub sent_here : List (List (List ℕ)) → Bool → Bool → List (List ℕ) → List ℕ → List (List ℕ)
sent_here [] true over ps piece = with_more over ps piece
sent_here [] false over ps piece = ps
sent_here (qs ∷ more) talking over ps piece = ps

-- the piece in front, empty where none is left
abbrev pub front_of : List (List ℕ) → List ℕ
front_of [] = []
front_of (p ∷ ps) = p

-- the pieces with this in the place of the one in front, or without it where this is empty
abbrev pub replaced : List (List ℕ) → List ℕ → List (List ℕ)
replaced [] rest = []
replaced (p ∷ ps) [] = ps
replaced (p ∷ ps) (b ∷ rest) = (b ∷ rest) ∷ ps

-- what a take of this many bytes at most gives: the front of the piece in front
abbrev pub bytes_given_by_take : List (List ℕ) → ℕ → List ℕ
bytes_given_by_take ps most = take most (front_of ps)

-- the pieces behind what it gave
abbrev pub pieces_behind : List (List ℕ) → ℕ → List (List ℕ)
pieces_behind ps most = replaced ps (drop most (front_of ps))

-- the moment that the clock tells next: the first that is left, else the last again
abbrev pub next_told_moment : List ℕ → ℕ → ℕ
next_told_moment [] last = last
next_told_moment (t ∷ ts) last = t
