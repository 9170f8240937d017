-- A log in hand, and the disk on which its file lies.
use Rattle.std.specs.Prelude.{◌≡◌, ◌≢◌, ◌⊎◌, ◌<◌, ◌+◌, ◌-◌, ◌^◌, ◌==◌, if◌then◌else◌, ℕ, true, IsTrue, List, [], ◌∷◌, ◌++◌, length, get_or, take, drop, Option, Some}
use Rattle.std.specs.Vec.{vec_capacity}
use Rattle.std.specs.List.{AllByRecursion}
use Rattle.alt_disk.specs.Fates.{Fits, synced, wrote}
use Rattle.alt_disk.specs.Disk.{DiskState, IsSettled, ReadCall, contents, now}
use Rattle.alt_gatelog.specs.Log.{framed, log_front, log_bytes, gates_from, IsShortEntry}
use Rattle.alt_gatelog.specs.declared.form.Form.{Form}
use Rattle.alt_gatelog.specs.declared.gatelog.GateLog.{GateLog}

-- its form
abbrev pub form_of : GateLog → Form
form_of log = log.form

-- the number of its file
abbrev pub file_of_gate_log : GateLog → ℕ
file_of_gate_log log = log.file

-- how many entries it has
abbrev pub count_of : GateLog → ℕ
count_of log = length log.places.items

-- the place of an entry's gate
abbrev pub place_of_gate : GateLog → ℕ → ℕ
place_of_gate log i = get_or log.places.items i 0

-- the place behind an entry: the next gate's
abbrev pub end_of : GateLog → ℕ → ℕ
end_of log i = if i + 1 == count_of log then log.gate else place_of_gate log (i + 1)

-- the place of its bytes, behind its gate and its length
abbrev pub bytes_place : GateLog → ℕ → ℕ
bytes_place log i = place_of_gate log i + 9

-- and how many these are
abbrev pub length_of_entry : GateLog → ℕ → ℕ
length_of_entry log i = end_of log i - bytes_place log i

-- Bytes that were read for an entry: as many as it has, by one read that answered, which asked for them all. Where the disk tells
-- what it has they are those that stand there, whatever else the file has.
pub record IsEntryRead (old new : DiskState) (log : GateLog) (i : ℕ) (bytes : List ℕ) : Type 0 where
  pub size : length bytes ≡ length_of_entry log i
  pub read : ReadCall old new (file_of_gate_log log) (bytes_place log i) (length_of_entry log i) true
  pub there : IsTrue old.tells
      → bytes ≡ take (length_of_entry log i) (drop (bytes_place log i) (contents old (file_of_gate_log log)))

-- a list has become longer by such bytes
pub record HasRead (old new : DiskState) (log : GateLog) (i : ℕ) (before after : List ℕ) : Type 0 where
  pub bytes : List ℕ
  pub added : after ≡ before ++ bytes
  pub read : IsEntryRead old new log i bytes

-- bytes that are a gated log of these entries, with the closed gate and the entries' gates at these places
pub record LogAs (form : Form) (bytes : List ℕ) (at : ℕ) (places : List ℕ)
    (entries : List (List ℕ)) : Type 0 where
  pub gate : ℕ
  pub closed : gate ≢ 1
  pub rest : List ℕ
  pub is : bytes ≡ log_bytes form entries gate rest
  pub lengths : AllByRecursion IsShortEntry entries
  pub is_at : at ≡ length (log_front form entries)
  pub are_at : places ≡ gates_from 8 entries

-- the log is that of these bytes
abbrev pub IsReadAsLog : List ℕ → GateLog → List (List ℕ) → Type 0
IsReadAsLog bytes log entries = LogAs (form_of log) bytes log.gate log.places.items entries

-- a file that reads as a gated log of these entries, with the closed gate and the entries' gates at these places
pub record ReadsAs (form : Form) (s : DiskState) (f at : ℕ) (places : List ℕ)
    (entries : List (List ℕ)) : Type 0 where
  pub gate : ℕ
  pub closed : gate ≢ 1
  pub rest : List ℕ
  pub file : s.file f ≡ Some (log_bytes form entries gate rest)
  pub lengths : AllByRecursion IsShortEntry entries
  pub is_at : at ≡ length (log_front form entries)
  pub are_at : places ≡ gates_from 8 entries

-- the log in hand is that of its file as it reads, a gated log of these entries
abbrev pub ReadsEntries : DiskState → GateLog → List (List ℕ) → Type 0
ReadsEntries s log entries = ReadsAs (form_of log) s log.file log.gate log.places.items entries

-- and a stop leaves its file as it reads
pub record StandsAs (form : Form) (s : DiskState) (f at : ℕ) (places : List ℕ)
    (entries : List (List ℕ)) : Type 0 where
  pub reads : ReadsAs form s f at places entries
  pub settled : IsSettled s f

-- the log in hand stands for these entries, in reads and in what a stop now leaves
abbrev pub StandsForEntries : DiskState → GateLog → List (List ℕ) → Type 0
StandsForEntries s log entries = StandsAs (form_of log) s log.file log.gate log.places.items entries

-- it is the same log: a call left it as it was
pub record SameLog (old new : GateLog) : Type 0 where
  pub form : new.form ≡ old.form
  pub file : new.file ≡ old.file
  pub gate : new.gate ≡ old.gate
  pub places : new.places.items ≡ old.places.items

-- it has memory for the place of one entry more
abbrev pub HasPlace : GateLog → Type 0
HasPlace log = length log.places.items < vec_capacity log.places

-- the bytes are what an append of this entry writes behind the closed gate: the entry with its length, and the next closed gate
pub record IsFramed (block entry : List ℕ) : Type 0 where
  pub is : block ≡ framed entry ++ 0 ∷ []
  pub short : length entry < 2 ^ 64

-- what a stop leaves of a file around a write: it as before, or as the write may leave it
abbrev pub AroundWrite : DiskState → ℕ → ℕ → ℕ → ℕ → Option (List ℕ) → Type 0
AroundWrite s f at count t left = Fits (now s f) left ⊎ Fits (wrote at count (now s f)) left

-- the file has these bytes, and they last
pub record Lasts (s : DiskState) (f : ℕ) (bytes : List ℕ) : Type 0 where
  pub file : s.file f ≡ Some bytes
  pub kept : now s f ≡ synced bytes
