-- The laws of gated logs: one list and one form at most, none where it is damaged, and a log stays where other files change.
use Rattle.std.specs.Prelude.{◌≡◌, ◌≢◌, ℕ, List, Option, Some, ⊤}
use Rattle.alt_disk.specs.Fates.{Fits}
use Rattle.alt_disk.specs.Disk.{DiskState, now}
use Rattle.alt_disk.specs.Runs.{Run, Quiet}
use Rattle.alt_gatelog.specs.Log.{IsLog, LogIsDamagedAt}
use Rattle.alt_gatelog.specs.InHand.{file_of_gate_log, form_of, StandsForEntries}
use Rattle.alt_gatelog.specs.declared.form.Form.{Form}
use Rattle.alt_gatelog.specs.declared.gatelog.GateLog.{GateLog}

-- a file is a gated log of one list at most
abbrev pub OneList : Type 0
OneList = (form : Form) (file : Option (List ℕ)) (a b : List (List ℕ))
    → IsLog form a file → IsLog form b file → a ≡ b

-- and of one form at most
abbrev pub OneForm : Type 0
OneForm = (form other : Form) (file : Option (List ℕ)) (a b : List (List ℕ))
    → IsLog form a file → IsLog other b file → form ≡ other

-- where bytes are damaged they are no gated log
abbrev pub DamagedIsNone : Type 0
DamagedIsNone = (at : ℕ) (bytes : List ℕ) → LogIsDamagedAt at bytes → (form : Form)
    → (entries : List (List ℕ)) → IsLog form entries (Some bytes) → ⊥

-- where a log in hand stands, each stop leaves its file as a gated log of its entries
abbrev pub EachStopLeavesLog : Type 0
EachStopLeavesLog = (s : DiskState) (log : GateLog) (entries : List (List ℕ)) → StandsForEntries s log entries
    → (left : Option (List ℕ)) → Fits (now s (file_of_gate_log log)) left → IsLog (form_of log) entries left

-- a log in hand stands as it stood while calls touch another file
abbrev pub StaysElsewhere : Type 0
StaysElsewhere = (a b : DiskState) (log : GateLog) (entries : List (List ℕ)) (f : ℕ)
    → StandsForEntries a log entries → Run a b f (λ _ _. ⊤) → file_of_gate_log log ≢ f → StandsForEntries b log entries

-- and while calls leave every file
abbrev pub StaysQuiet : Type 0
StaysQuiet = (a b : DiskState) (log : GateLog) (entries : List (List ℕ)) → StandsForEntries a log entries
    → Quiet a b → StandsForEntries b log entries
