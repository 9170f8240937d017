-- What a gated log is: a header, entries behind open gates, and a closed gate (docs/formats/gated-log.md).
use Rattle.std.specs.Prelude.{◌≡◌, ◌≢◌, ◌⊎◌, ◌+◌, ◌<◌, ◌^◌, ℕ, List, [], ◌∷◌, ◌++◌, length, take, drop, Option, Some}
use Rattle.std.specs.List.{AllByRecursion}
use Rattle.std.specs.Int.{w64, to_be_bytes, from_be_bytes}
use Rattle.alt_gatelog.specs.declared.fault.LogFault.{LogFault}
use Rattle.alt_gatelog.specs.declared.fault.LogFault.TheVariants.{Damaged, Failed, NoMemory}
use Rattle.alt_gatelog.specs.declared.form.Form.{Form}
use Rattle.alt_gatelog.specs.declared.form.Form.TheVariants.{One, Two}

-- the eight bytes that a log of a form begins with: `ALTLOG01` or `ALTLOG02`
unfoldable pub header : Form → List ℕ
header One = 65 ∷ 76 ∷ 84 ∷ 76 ∷ 79 ∷ 71 ∷ 48 ∷ 49 ∷ []
header Two = 65 ∷ 76 ∷ 84 ∷ 76 ∷ 79 ∷ 71 ∷ 48 ∷ 50 ∷ []

-- an entry's length in eight bytes, and its bytes
unfoldable pub framed : List ℕ → List ℕ
framed entry = to_be_bytes w64 (length entry) ++ entry

-- entries behind open gates
abbrev pub behind_gates : List (List ℕ) → List ℕ
behind_gates [] = []
behind_gates (entry ∷ entries) = 1 ∷ framed entry ++ behind_gates entries

-- all of a log before its closed gate
abbrev pub log_front : Form → List (List ℕ) → List ℕ
log_front form entries = header form ++ behind_gates entries

-- a log of these entries, behind which a gate stands that is closed by this byte, and then the rest
abbrev pub log_bytes : Form → List (List ℕ) → ℕ → List ℕ → List ℕ
log_bytes form entries gate rest = log_front form entries ++ gate ∷ rest

-- the bytes after one more entry was added to these: it ends with the closed gate 00, and behind it stands what stood there
abbrev pub log_after : Form → List (List ℕ) → List ℕ → List ℕ → List ℕ
log_after form entries entry rest =
    log_bytes form (entries ++ entry ∷ []) 0 (drop (length entry + 9) rest)

-- the place of an entry's gate, right behind the entries before it
abbrev pub gate_place : List (List ℕ) → ℕ → ℕ
gate_place entries i = 8 + length (behind_gates (take i entries))

-- the place of each entry's gate, the first at this place
abbrev pub gates_from : ℕ → List (List ℕ) → List ℕ
gates_from at [] = []
gates_from at (entry ∷ entries) = at ∷ gates_from (at + 9 + length entry) entries

-- an entry whose length fits its eight bytes
abbrev pub IsShortEntry : List ℕ → Type 0
IsShortEntry entry = length entry < 2 ^ 64

-- the file is a gated log of this form and of these entries
pub record IsLog (form : Form) (entries : List (List ℕ)) (file : Option (List ℕ)) : Type 0 where
  pub gate : ℕ
  pub closed : gate ≢ 1
  pub rest : List ℕ
  pub is : file ≡ Some (log_bytes form entries gate rest)
  pub lengths : AllByRecursion IsShortEntry entries

-- the list before, or with one entry more
abbrev pub BeforeOrAfter : Form → List (List ℕ) → List ℕ → ℕ → Option (List ℕ) → Type 0
BeforeOrAfter form entries entry t file =
    IsLog form entries file ⊎ IsLog form (entries ++ entry ∷ []) file

-- behind whole entries there is the end, or an open gate with no whole entry behind it
abbrev pub IsCutEntry : List ℕ → Type 0
IsCutEntry [] = Unit {0}
IsCutEntry (gate ∷ rest) = (gate ≡ 1) × ((length rest < 8)
    ⊎ (length rest < 8 + from_be_bytes w64 (take 8 rest)))

-- the bytes are no gated log of either form from this place on: they have no header, or end there
pub data LogIsDamagedAt (at : ℕ) (bytes : List ℕ) : Type 0 where
  no_header : at ≡ 0 → ((form : Form) → take 8 bytes ≡ header form → ⊥) → LogIsDamagedAt at bytes
  ends_inside : (form : Form) (entries : List (List ℕ)) (rest : List ℕ)
      → bytes ≡ log_front form entries ++ rest → AllByRecursion IsShortEntry entries
      → at ≡ length (log_front form entries) → IsCutEntry rest → LogIsDamagedAt at bytes

-- a fault of this file's bytes names the place where they are no gated log
abbrev pub ExplainsLog : ℕ → List ℕ → LogFault → Type 0
ExplainsLog f bytes (Damaged file at) = (file ≡ f) × LogIsDamagedAt at bytes
ExplainsLog f bytes Failed = Unit {0}
ExplainsLog f bytes NoMemory = Unit {0}
