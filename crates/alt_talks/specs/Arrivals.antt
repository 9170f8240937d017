-- How many connections came while connections were served, whatever disk it is.
use Rattle.std.specs.Prelude.{◌≡◌, ◌≤◌, ◌<◌, ◌⊎◌, ℕ, [], ◌∷◌, ◌++◌, sum_by, Option, Some, None}
use Rattle.alt_disk.specs.Disk.{DiskState}
use Rattle.alt_shell.specs.Log as event
use Rattle.alt_shell.specs.Log.{Log, Event, Grows, entry, event_of, none_came}

-- 1 for a connection that came, and 0 for any other event
abbrev pub came_by : Option Event → ℕ
came_by None = 0
came_by (Some (event.took bytes)) = 0
came_by (Some (event.said bytes)) = 0
came_by (Some event.take_failed) = 0
came_by (Some (event.say_failed bytes)) = 0
came_by (Some event.accepted) = 1
came_by (Some event.none_came) = 0
came_by (Some event.hung_up) = 0

-- how many came
abbrev pub arrivals : Log → ℕ
arrivals es = sum_by (λ e. came_by (event_of e.1)) es

-- So many connections came.
pub record Came (count : ℕ) (old new : DiskState) : Type 0 where
  pub entries : Log
  pub grows : Grows old.beside new.beside entries
  pub many : arrivals entries ≡ count

-- So many came, and then none will come any more, as the last entry says.
pub record NoneWill (count : ℕ) (old new : DiskState) : Type 0 where
  pub before : Log
  pub at : ℕ
  pub clocked : ℕ
  pub grows : Grows old.beside new.beside (before ++ entry at clocked none_came ∷ [])
  pub many : arrivals before ≡ count

-- so many came at most
abbrev pub CameAtMost : ℕ → DiskState → DiskState → Type 0
CameAtMost most old new = (n : ℕ) × (n ≤ most) × Came n old new

-- so many came, or fewer and then none will come
abbrev pub CameAll : ℕ → DiskState → DiskState → Type 0
CameAll count old new = Came count old new ⊎ ((n : ℕ) × (n < count) × NoneWill n old new)
