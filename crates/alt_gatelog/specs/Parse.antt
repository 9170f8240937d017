-- What stands at a gate's place, and what a disk gives of it.
use Rattle.std.specs.Prelude.{◌≡◌, ◌≢◌, ◌+◌, ◌<◌, ◌≤◌, ℕ, List, ◌∷◌, ◌++◌, length, get_or, take, drop, Some}
use Rattle.alt_gatelog.specs.Log.{framed, header, IsCutEntry, IsLog}
use Rattle.alt_gatelog.specs.declared.fault.LogFault.{LogFault}
use Rattle.alt_gatelog.specs.declared.fault.LogFault.TheVariants.{Damaged, Failed, NoMemory}
use Rattle.alt_gatelog.specs.declared.form.Form.{Form}
use Rattle.alt_gatelog.specs.declared.frame.Gate.{Gate}
use Rattle.alt_gatelog.specs.declared.frame.Gate.TheVariants.{Closed, Open}

-- one whole entry of this length behind an open gate at this place
pub record HasEntry (bytes : List ℕ) (at n : ℕ) : Type 0 where
  pub entry : List ℕ
  pub size : length entry ≡ n
  pub is : drop at bytes ≡ (1 ∷ framed entry) ++ drop (at + 9 + n) bytes
  pub room : at + 9 + n ≤ length bytes

-- a closed gate, or an open one with its entry
abbrev pub GateIs : List ℕ → ℕ → Gate → Type 0
GateIs bytes at Closed = (at < length bytes) × (get_or bytes at 0 ≢ 1)
GateIs bytes at (Open n) = HasEntry bytes at n

-- so many bytes have room for it
abbrev pub HasRoom : ℕ → Gate → Type 0
HasRoom left Closed = 0 < left
HasRoom left (Open n) = 9 + n ≤ left

-- damaged at this place, where the bytes end too early
abbrev pub IsCutAt : ℕ → ℕ → List ℕ → LogFault → Type 0
IsCutAt f at bytes (Damaged file place) = (file ≡ f) × (place ≡ at) × IsCutEntry (drop at bytes)
IsCutAt f at bytes Failed = Unit {0}
IsCutAt f at bytes NoMemory = Unit {0}

-- damaged at the front, where there is no header
abbrev pub HasNoHeader : ℕ → List ℕ → LogFault → Type 0
HasNoHeader f bytes (Damaged file place) =
    (file ≡ f) × (place ≡ 0) × ((form : Form) → take 8 bytes ≡ header form → ⊥)
HasNoHeader f bytes Failed = Unit {0}
HasNoHeader f bytes NoMemory = Unit {0}

-- damaged, so the bytes are no gated log
abbrev pub HasNoLog : List ℕ → LogFault → Type 0
HasNoLog bytes (Damaged file place) =
    (form : Form) (entries : List (List ℕ)) → IsLog form entries (Some bytes) → ⊥
HasNoLog bytes Failed = Unit {0}
HasNoLog bytes NoMemory = Unit {0}

-- no damage, but a failure of the disk or want of memory
abbrev pub IsNoDamage : LogFault → Type 0
IsNoDamage (Damaged file place) = ⊥
IsNoDamage Failed = Unit {0}
IsNoDamage NoMemory = Unit {0}

-- damage, where it is one, at this place of this file
abbrev pub IsDamageAt : ℕ → ℕ → LogFault → Type 0
IsDamageAt f at (Damaged file place) = (file ≡ f) × (place ≡ at)
IsDamageAt f at Failed = Unit {0}
IsDamageAt f at NoMemory = Unit {0}
