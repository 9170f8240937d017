-- An entry of a segment as writes, and why it is none.
use Rattle.std.specs.Prelude.{◌≡◌, ℕ, List, [], get_or}
use Rattle.alt_gatelog.specs.Log.{gate_place}
use Rattle.alt_gatelog.specs.declared.fault.LogFault.{LogFault}
use Rattle.alt_gatelog.specs.declared.fault.LogFault.TheVariants.{Damaged, Failed, NoMemory}
use Rattle.alt_gatelog.specs.declared.form.Form.{Form}
use Rattle.alt_layout.specs.Entries.{IsNoEntry}
use Rattle.alt_writes.specs.Reading.{writes_of}
use Rattle.alt_writes.specs.Writes.{Write}
use Rattle.alt_recovery.specs.declared.entries.LoggedEntry.{LoggedEntry}

-- The writes that were read.
abbrev pub writes_in : LoggedEntry → List Write
writes_in read = writes_of read.writes.items

-- Damaged names the file and the place of the entry's gate, where the entry holds no writes with rising numbers from this one on.
abbrev pub ExplainsEntry : Form → ℕ → List (List ℕ) → ℕ → ℕ → LogFault → Type 0
ExplainsEntry form f entries i least (Damaged file at) = (file ≡ f)
    × (at ≡ gate_place entries i) × IsNoEntry form least (get_or entries i [])
ExplainsEntry form f entries i least Failed = Unit {0}
ExplainsEntry form f entries i least NoMemory = Unit {0}
