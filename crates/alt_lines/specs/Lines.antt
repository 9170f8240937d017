-- The lines of an input. They are a function of its bytes, so the pieces in which these come don't matter.
use Rattle.std.specs.Prelude.{ℕ, List, [], ◌∷◌, ◌++◌, map, length, Bool, ◌==◌, nat_le, if◌then◌else◌}
use Rattle.std.specs.List.{slice_split}
use Rattle.std.specs.Str.Lines.{strip_carriage_return}

-- whether a byte ends a line
abbrev pub is_line_feed : ℕ → Bool
is_line_feed b = b == 10

-- the pieces that the line feeds part; there is always one
abbrev pub split_at_line_feeds : List ℕ → List (List ℕ)
split_at_line_feeds bytes = slice_split is_line_feed bytes

-- all pieces but the last, each of which a line feed ended
abbrev pub but_last : List (List ℕ) → List (List ℕ)
but_last [] = []
but_last (p ∷ []) = []
but_last (p ∷ q ∷ ps) = p ∷ but_last (q ∷ ps)

-- the last piece, behind the last line feed
abbrev pub last_piece : List (List ℕ) → List ℕ
last_piece [] = []
last_piece (p ∷ []) = p
last_piece (p ∷ q ∷ ps) = last_piece (q ∷ ps)

-- last bytes without a line feed are a line unless empty
abbrev pub unless_empty : List ℕ → List (List ℕ)
unless_empty [] = []
unless_empty (b ∷ bytes) = (b ∷ bytes) ∷ []

-- The lines as they stand in the input, without their line feeds. The last bytes are a line only once the end of the input
-- was taken, since more might follow.
unfoldable pub raw_lines : Bool → List ℕ → List (List ℕ)
raw_lines ended bytes =
    but_last (split_at_line_feeds bytes) ++ (if ended then unless_empty (last_piece (split_at_line_feeds bytes)) else [])

-- a line as it is read: its bytes, or that it had too many
pub data Line : Type 0 where
  whole : List ℕ → Line
  too_long : Line

-- A line of at most so many bytes is read whole, without the one carriage return at its end. The bytes are counted with it.
unfoldable pub read_line : ℕ → List ℕ → Line
read_line most bytes =
    if nat_le (length bytes) most then whole (strip_carriage_return bytes) else too_long

-- the lines of an input, of which each has at most so many bytes or is too long
abbrev pub lines_of : ℕ → Bool → List ℕ → List Line
lines_of most ended bytes = map (read_line most) (raw_lines ended bytes)
