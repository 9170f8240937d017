-- What a trial says and leaves: the requests that a seed makes, carried out one after another as lines of an input are, each at one moment.
use Rattle.std.specs.Prelude.{◌≡◌, ◌<◌, ◌+◌, ◌*◌, ◌⊎◌, ℕ, List, [], ◌∷◌, ◌++◌, map, length, filter, replicate, nat_eq, codes, decimal, None}
use Rattle.std.specs.List.{starts_with}
use Rattle.hex.specs.Hex.{encode_lower}
use Rattle.sha2.specs.Sha256.{sha256}
use Rattle.alt_base.specs.Prefix.{IsPrefix}
use Rattle.alt_disk.specs.Disk.{DiskState}
use Rattle.alt_lines.specs.Trial.{trial_lines}
use Rattle.alt_machine.specs.State.{State}
use Rattle.alt_shell.specs.Log.{Log, until, said_in}
use Rattle.alt_tables.specs.FilesLeft.{most_files}
use Rattle.alt_tables.specs.Images.{StandsFor}
use Rattle.alt_talks.specs.Faults.{IsCausedBy, IsFileFault}
use Rattle.alt_run.specs.Runs.{Rests}
use Rattle.alt_talks.specs.Stops.{Image, StandsBehind, AtEach}
use Rattle.alt_run.specs.Turns.{AskedLine, asked_by, turns_of_lines, requests}
use Rattle.alt_talks.specs.Turns.{Turn, WritesLast, turns_text, after, wanted_by_turns}
use Rattle.alt_talks.specs.declared.fault.RunFault.{RunFault}
use Rattle.alt_talks.specs.TalkStops.{LeavesNow}

-- ---- the requests, and what they come to

-- what so many lines of a seed ask (docs/formats/trial.md)
abbrev pub trial_asks : ℕ → ℕ → List AskedLine
trial_asks seed count = map asked_by (trial_lines seed count)

-- the moment of each request
abbrev pub trial_moment : ℕ
trial_moment = 1700000000

-- their turns from a state
abbrev pub trial_turns : State → List AskedLine → List Turn
trial_turns s ls = turns_of_lines s ls (replicate (requests ls) trial_moment)

-- ---- the four lines

-- of these turns those whose lines begin so, as that of a reply does with its status and a space
abbrev pub beginning : List ℕ → List Turn → List Turn
beginning front ts = filter (λ t. starts_with nat_eq t.text front) ts

-- how many requests there were, how many replies had the status 200 and how many 400, and a digest
abbrev pub four_lines : ℕ → ℕ → ℕ → List ℕ → List ℕ
four_lines count good bad digest = codes "requests " ++ (decimal count
    ++ (codes "\n200 " ++ (decimal good
    ++ (codes "\n400 " ++ (decimal bad
    ++ (codes "\nreplies " ++ (encode_lower digest ++ 10 ∷ [])))))))

-- those of these turns, with the SHA-256 of the lines of all replies
abbrev pub summary : ℕ → List Turn → List ℕ
summary count ts = four_lines count (length (beginning (codes "200 ") ts))
    (length (beginning (codes "400 ") ts)) (sha256 (turns_text ts))

-- the four lines of so many requests, whatever was replied
pub record IsSummary (count : ℕ) (text : List ℕ) : Type 0 where
  pub good : ℕ
  pub bad : ℕ
  pub digest : List ℕ
  pub is : text ≡ four_lines count good bad digest

-- Why a trial broke off among these requests, which were begun: one has no answer, or the server's own request behind it, for want of the first
-- number that one wanted, or of the file of a first write, or work behind one broke off; in these two cases nothing before that lacked a number or
-- a family. A file was wanted then only where as many numbers as work behind each of these takes at most, from the first file that work made
-- before them on, reach the last.
abbrev pub TriesFor : RunFault → ℕ → State → List AskedLine → Type 0
TriesFor fault next s begun = IsCausedBy (wanted_by_turns (trial_turns s begun)) fault
    ⊎ (IsFileFault (next + length begun * most_files) fault
    × (WritesLast (trial_turns s begun) ⊎ ((wanted_by_turns (trial_turns s begun) ≡ None) × (0 < length begun))))

-- the turns of all requests of a seed, one after the other
abbrev pub all_turns : State → ℕ → ℕ → List Turn
all_turns s seed count = trial_turns s (trial_asks seed count)

-- the four lines of all of them
abbrev pub trial_text : State → ℕ → ℕ → List ℕ
trial_text s seed count = summary count (all_turns s seed count)

-- ---- a trial

-- What a stop leaves of a trial of which so much was said: the state behind a prefix of its requests, which is that after all of them once
-- something was said, and what was said is the front of its four lines.
pub record IsTried (s : State) (seed count : ℕ) (said : List ℕ) (image : Image) : Type 0 where
  pub behind : StandsBehind image s (all_turns s seed count) []
  pub all : 0 < length said → StandsFor image (after s (all_turns s seed count))
  pub front : IsPrefix said (trial_text s seed count)

-- what a stop at a moment of a trial leaves
abbrev pub LeftOfTrial : State → ℕ → ℕ → Log → ℕ → Image → Type 0
LeftOfTrial s seed count entries t image = IsTried s seed count (said_in (until t entries)) image

-- All requests were carried out, and then the four lines were said, and nothing else. Nothing was taken, and no moment was asked. A stop at the
-- end leaves the state after all of them.
pub record Tries (s : State) (seed count : ℕ) (old new : DiskState) (entries : Log)
    (told : List ℕ) : Type 0 where
  pub said : said_in entries ≡ trial_text s seed count
  pub rests : Rests entries
  pub unasked : told ≡ []
  pub enough : wanted_by_turns (all_turns s seed count) ≡ None
  pub leaves : AtEach old new (LeftOfTrial s seed count entries)
  pub last : LeavesNow new (after s (all_turns s seed count))

-- That broke off: what was said is the front of the four lines, and so many requests were begun.
pub record TriesSome (fault : RunFault) (next : ℕ) (s : State) (seed count : ℕ)
    (old new : DiskState) (entries : Log) (told : List ℕ) : Type 0 where
  pub begun : List AskedLine
  pub rest : List AskedLine
  pub lines : trial_asks seed count ≡ begun ++ rest
  pub said : IsPrefix (said_in entries) (trial_text s seed count)
  pub rests : Rests entries
  pub unasked : told ≡ []
  pub wants : TriesFor fault next s begun
  pub leaves : AtEach old new (LeftOfTrial s seed count entries)
