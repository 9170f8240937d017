-- What was said and taken up to a moment of a run.
use Rattle.std.specs.Prelude.{ℕ, List, Bool}
use Rattle.alt_shell.specs.Log.{Log, until, said_in, taken, ended}

-- the bytes said by a moment, of the entries that a run added
abbrev pub said_by_moment : ℕ → Log → List ℕ
said_by_moment t entries = said_in (until t entries)

-- the bytes taken by a moment
abbrev pub taken_by : ℕ → Log → List ℕ
taken_by t entries = taken (until t entries)

-- whether the end of the input was taken by then: a last line without a line feed is whole only from then on
abbrev pub ended_by : ℕ → Log → Bool
ended_by t entries = ended (until t entries)
