-- What a call of a shell does to its disk and to its log.
use Rattle.std.specs.Prelude.{◌≡◌, ◌≤◌, ◌⊎◌, ◌-◌, ◌^◌, ℕ, List, [], ◌∷◌, take, Bool, true, false, Result, MatchResult}
use Rattle.alt_base.specs.Counts.{Rose, next_moment}
use Rattle.alt_disk.specs.Disk.{DiskState, now}
use Rattle.alt_shell.specs.Log.{Log, Event, Grows, entry, entries_of, told_count, tested}
use Rattle.alt_shell.specs.Log.{took, said, take_failed, say_failed, accepted, none_came, takes_failed, says_failed}
use Rattle.alt_shell.specs.Log.{talks, talk_faults, takes_missed, says_missed}

-- What calls leave of the disk that make none on it: all that it says of itself, all files in reads, and what a stop leaves of
-- them at each moment.
pub record Keeps (old new : DiskState) : Type 0 where
  pub tells : new.tells ≡ old.tells
  pub honest : new.honest ≡ old.honest
  pub anchors : new.anchors ≡ old.anchors
  pub reads : new.reads ≡ old.reads
  pub later : old.moment ≤ new.moment
  pub faults : old.faults ≤ new.faults
  pub file : (g : ℕ) → new.file g ≡ old.file g
  pub past : (t g : ℕ) → t ≤ old.moment → new.fates t g ≡ old.fates t g
  pub fates : (t g : ℕ) → old.moment ≤ t → t ≤ new.moment → new.fates t g ≡ now old g

-- a failure of a call of a shell that talked raises the count of talks, and else that of the disk
abbrev pub RoseBy : Bool → DiskState → DiskState → Type 0
RoseBy true old new = Rose (talk_faults old.beside) (talk_faults new.beside)
RoseBy false old new = Rose old.faults new.faults

-- One call that takes a moment. It fails only where a count of faults rises, that of talks where the shell talked and else that of the
-- disk; the other count stays, and so do both where it doesn't fail. At the last moment it fails, and outside a talk changes nothing else.
pub record ShellCall (old new : DiskState) (ok : Bool) : Type 0 where
  pub keeps : Keeps old new
  pub moment : new.moment ≡ next_moment old.moment
  pub cause : ok ≡ false → RoseBy (talks old.beside) old new
  pub well : ok ≡ true → (new.faults ≡ old.faults)
      × (talk_faults new.beside ≡ talk_faults old.beside)
  pub inside : talks old.beside ≡ true → new.faults ≡ old.faults
  pub outside : talks old.beside ≡ false → talk_faults new.beside ≡ talk_faults old.beside
  pub later : talk_faults old.beside ≤ talk_faults new.beside
  pub last : 2 ^ 64 - 1 ≤ old.moment → ok ≡ false
  pub silent : 2 ^ 64 - 1 ≤ old.moment → talks old.beside ≡ false → new.beside ≡ old.beside

-- One call that takes no moment and never fails.
pub record Aside (old new : DiskState) : Type 0 where
  pub keeps : Keeps old new
  pub moment : new.moment ≡ old.moment
  pub faults : new.faults ≡ old.faults

-- the log has this event more, with the moment at which the call ended and how many moments had been told
abbrev pub Adds : DiskState → DiskState → Event → Type 0
Adds old new event =
    Grows old.beside new.beside (entry new.moment (told_count old.beside) event ∷ [])

-- Why the log doesn't tell a failure: in a talk, one of its kind came before in that talk; else one of its kind was told before, or no
-- moment was left.
abbrev pub IsUntoldBy : Bool → DiskState → (Log → Bool) → (Log → Bool) → Type 0
IsUntoldBy true old seen missed = missed old.beside ≡ true
IsUntoldBy false old seen missed =
    (tested seen (entries_of old.beside) ≡ true) ⊎ (2 ^ 64 - 1 ≤ old.moment)

-- a failure that the log doesn't tell
pub record Untold (old new : DiskState) (seen missed : Log → Bool) : Type 0 where
  pub log : Grows old.beside new.beside []
  pub why : IsUntoldBy (talks old.beside) old seen missed

-- a take gave these bytes, none exactly at the end, or failed and gave nothing
abbrev pub Takes : {E : Type 0} → DiskState → DiskState → Result ℕ E → List ℕ → Type 0
Takes old new result buf =
    MatchResult result
    (λ n. Adds old new (took (take n buf)))
    (λ _. Adds old new take_failed ⊎ Untold old new takes_failed takes_missed)

-- a say said these bytes, or failed and said some from their front
abbrev pub Says : {T E : Type 0} → DiskState → DiskState → Result T E → List ℕ → Type 0
Says old new result bytes =
    MatchResult result
    (λ _. Adds old new (said bytes))
    (λ _. ((n : ℕ) × Adds old new (say_failed (take n bytes)))
    ⊎ Untold old new says_failed says_missed)

-- ---- what a call does to the talk

-- It goes on, or there is still none. A call that failed in a talk is counted among those of its kind, which only it changes.
pub record StaysIn (old new : DiskState) (ok : Bool) (missed other : Log → Bool) : Type 0 where
  pub talking : talks new.beside ≡ talks old.beside
  pub others : other new.beside ≡ other old.beside
  pub well : ok ≡ true → missed new.beside ≡ missed old.beside
  pub counted : ok ≡ false → talks old.beside ≡ true → missed new.beside ≡ true

-- a connection came, and a talk began in which nothing failed yet; or none will come
abbrev pub Accepted : DiskState → DiskState → Bool → Type 0
Accepted old new true = Adds old new accepted × (talks new.beside ≡ true)
    × (takes_missed new.beside ≡ false) × (says_missed new.beside ≡ false)
Accepted old new false = Adds old new none_came × (talks new.beside ≡ false)

-- a wait for a connection; one that failed is not told, and no talk began
abbrev pub Accepts : {E : Type 0} → DiskState → DiskState → Result Bool E → Type 0
Accepts old new result =
    MatchResult result (Accepted old new)
    (λ _. Grows old.beside new.beside [] × (talks new.beside ≡ false))
