-- How many bytes the entries of segments have together.
use Rattle.std.specs.Prelude.{◌≡◌, ◌+◌, ℕ, List, [], ◌∷◌, length, Option}
use Rattle.alt_gatelog.specs.Log.{IsLog}
use Rattle.alt_gatelog.specs.declared.form.Form.{Form}
use Rattle.alt_layout.specs.Files.{Image}

-- So many bytes these entries have.
abbrev pub bytes_in : List (List ℕ) → ℕ
bytes_in [] = 0
bytes_in (entry ∷ entries) = length entry + bytes_in entries

-- So many the entries of the log have that the file is.
pub record LogIsSized (n : ℕ) (file : Option (List ℕ)) : Type 0 where
  pub form : Form
  pub entries : List (List ℕ)
  pub log : IsLog form entries file
  pub is : n ≡ bytes_in entries

-- And so many those of all these segments.
abbrev pub SegmentsAreSized : Image → List ℕ → ℕ → Type 0
SegmentsAreSized image [] n = n ≡ 0
SegmentsAreSized image (f ∷ fs) n =
    (own : ℕ) × (rest : ℕ) × LogIsSized own (image f) × SegmentsAreSized image fs rest × (n ≡ own + rest)
