-- What a reader of lines has not given out yet, and what its calls do to that.
use Rattle.std.specs.Prelude.{◌≡◌, ℕ, suc, List, [], ◌∷◌, ◌++◌, ◌≤◌, length, replicate, Bool, false}
use Rattle.alt_lines.specs.Lines.{Line, whole, too_long, lines_of}
use Rattle.alt_lines.specs.declared.feed.Cut.{Cut}
use Rattle.alt_lines.specs.declared.feed.Cut.TheVariants.{Whole, TooLong}

-- How long a line may be, the bytes that were given and aren't given out yet, and whether the input has ended. Of a line
-- that is too long already the bytes aren't kept: as many others stand for them.
pub record Unread : Type 0 where
  pub most : ℕ
  pub bytes : List ℕ
  pub ended : Bool

-- bytes that are too many for a line
abbrev pub too_many : ℕ → List ℕ
too_many most = replicate (suc most) 0

-- the lines that are whole now
abbrev pub lines_now : Unread → List Line
lines_now unread = lines_of unread.most unread.ended unread.bytes

-- the lines that will be whole once more bytes were given, and maybe the end
abbrev pub lines_later : Unread → List ℕ → Bool → List Line
lines_later unread more ended = lines_of unread.most ended (unread.bytes ++ more)

-- no line is whole, and whatever follows, the lines are the same as before; no more is kept than a line may have, and a byte
pub record HasNone (old new : Unread) : Type 0 where
  pub none : lines_now old ≡ []
  pub most : new.most ≡ old.most
  pub ended : new.ended ≡ old.ended
  pub later : (more : List ℕ) (ended : Bool) → lines_later new more ended
      ≡ lines_later old more ended
  pub few : length new.bytes ≤ suc old.most

-- one line is taken from the front, whatever follows
pub record TakesLine (line : Line) (old new : Unread) : Type 0 where
  pub now : lines_now old ≡ line ∷ lines_now new
  pub most : new.most ≡ old.most
  pub ended : new.ended ≡ old.ended
  pub later : old.ended ≡ false → (more : List ℕ) (ended : Bool)
      → lines_later old more ended ≡ line ∷ lines_later new more ended

-- A line that is whole is appended, and `Whole` tells of it. Of one that is too long nothing is appended.
abbrev pub TellsLine : Line → Cut → List ℕ → List ℕ → Type 0
TellsLine (whole text) cut before after = (cut ≡ Whole) × (after ≡ before ++ text)
TellsLine too_long cut before after = (cut ≡ TooLong) × (after ≡ before)
