-- Bytes of a head that were read before: they end in a line feed, and more are needed. These
-- words serve the clauses of private functions alone.
use Rattle.std.specs.Prelude.{◌≡◌, ◌≤◌, ℕ, false, List, [], ◌∷◌, ◌++◌, length, take}
use Rattle.httparse.specs.Grammar.{LineEnd, print_end, print_blank, Field}
use Rattle.httparse.specs.Pieces.{is_newline, FieldLines, RequestStart}
use Rattle.alt_http.specs.Feeds.{IsLastFront}
use Rattle.alt_http.specs.Heads.{CanGoOn, IsHeadFront}

-- they are empty lines
pub record IsBlank (bytes : List ℕ) : Type 0 where
  pub ends : List LineEnd
  pub is : bytes ≡ print_blank ends

-- they are empty lines, a first line, and whole lines of fields
pub record IsWithinFields (bytes : List ℕ) : Type 0 where
  pub start : List LineEnd × (List ℕ × (List ℕ × (ℕ × LineEnd)))
  pub middle : List ℕ
  pub reads : RequestStart start bytes middle
  pub fields : List Field
  pub lines : FieldLines fields middle []

-- their last line has a byte beside its end
pub record LastLineIsFilled (bytes : List ℕ) : Type 0 where
  pub front : List ℕ
  pub byte : ℕ
  pub end : LineEnd
  pub is : bytes ≡ (front ++ byte ∷ []) ++ print_end end
  pub other : is_newline byte ≡ false

-- the longest front of the bytes, of which so many bytes were a front of bytes that needed more
pub record IsResumed (bytes front : List ℕ) (before : ℕ) : Type 0 where
  pub last : IsLastFront bytes front
  pub within : before ≤ length front
  pub old : List ℕ
  pub on : CanGoOn old
  pub is_front : IsHeadFront old (take before front)
