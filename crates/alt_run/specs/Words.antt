-- The words of the command line.
use Rattle.std.specs.Prelude.{ℕ, ◌<◌, ⊤, ◌+◌, ◌-◌, ◌*◌, ◌^◌, ◌==◌, ◌&&◌, List, [], ◌∷◌, map, Option, Some, None, if◌then◌else◌, nat_le, codes, String, string_bytes, option_and_then}
use Rattle.std.specs.declared.alloc.Global.{Global}
use Rattle.std.specs.Char.{is_ascii_digit}
use Rattle.std.specs.Str.{bytes_eq}
use Rattle.alt_tables.specs.HandDeclaredLimits.{Limits}
use Rattle.alt_run.specs.declared.words.Command.{Command}
use Rattle.alt_run.specs.declared.words.Command.TheVariants.{Init, Over}
use Rattle.alt_run.specs.declared.words.Job.{Job}
use Rattle.alt_run.specs.declared.words.Job.TheVariants.{Replay, Serve, Trial}

-- the number of these digits behind this one
abbrev pub digits_from : ℕ → List ℕ → Option ℕ
digits_from n [] = Some n
digits_from n (d ∷ ds) = if is_ascii_digit d then digits_from (10 * n + (d - 48)) ds else None

-- decimal digits without sign or leading zeros; zero is `0`
abbrev pub number_in_word : List ℕ → Option ℕ
number_in_word [] = None
number_in_word (d ∷ []) = digits_from 0 (d ∷ [])
number_in_word (d ∷ e ∷ ds) = if d == 48 then None else digits_from 0 (d ∷ e ∷ ds)

-- a number, where it is from the least to the most
abbrev pub number_between : ℕ → ℕ → ℕ → Option ℕ
number_between least most n = if nat_le least n && nat_le n most then Some n else None

-- such a number, where a word is one
abbrev pub number_in_word_within : ℕ → ℕ → List ℕ → Option ℕ
number_in_word_within least most word = option_and_then (number_between least most) (number_in_word word)

-- FLUSH is 65,536 to 1,073,741,824 bytes
abbrev pub flush_of : List ℕ → Option ℕ
flush_of word = number_in_word_within 65536 1073741824 word

-- MERGE is 2 to 64 files
abbrev pub merge_in_word : List ℕ → Option ℕ
merge_in_word word = number_in_word_within 2 64 word

-- PER and CONNECTIONS are 1 to 4,294,967,295
abbrev pub some_of : List ℕ → Option ℕ
some_of word = number_in_word_within 1 4294967295 word

-- COUNT is 1 to 1,000,000
abbrev pub count_in_word : List ℕ → Option ℕ
count_in_word word = number_in_word_within 1 1000000 word

-- SEED is below 2^64
abbrev pub small_seed : ℕ → Option ℕ
small_seed n = if nat_le n (2 ^ 64 - 1) then Some n else None

-- such a number, where a word is one
abbrev pub seed_of : List ℕ → Option ℕ
seed_of word = option_and_then small_seed (number_in_word word)

-- the limits of an engine, where both are numbers
abbrev pub limits_with : Option ℕ → Option ℕ → Option Limits
limits_with None merge = None
limits_with (Some flush) None = None
limits_with (Some flush) (Some merge) = Some (record { flush = flush; merge = merge })

-- the limits that FLUSH and MERGE tell
abbrev pub limits_in_words : List ℕ → List ℕ → Option Limits
limits_in_words flush merge = limits_with (flush_of flush) (merge_in_word merge)

-- so many requests at most on so many connections, where both are numbers
abbrev pub serve_with : Option ℕ → Option ℕ → Option Job
serve_with None connections = None
serve_with (Some per) None = None
serve_with (Some per) (Some connections) = Some (Serve per connections)

-- so many requests of a seed, where both are numbers
abbrev pub trial_with : Option ℕ → Option ℕ → Option Job
trial_with None count = None
trial_with (Some seed) None = None
trial_with (Some seed) (Some count) = Some (Trial seed count)

-- a job over a store whose engine has these limits, where both are there
abbrev pub over : Option Job → Option Limits → Option Command
over None limits = None
over (Some job) None = None
over (Some job) (Some limits) = Some (Over job limits)

-- `init`
abbrev pub init_of : List (List ℕ) → Option Command
init_of (word ∷ []) = if bytes_eq word (codes "init") then Some Init else None
init_of words = None

-- `replay FLUSH MERGE`
abbrev pub replay_of : List (List ℕ) → Option Command
replay_of (word ∷ flush ∷ merge ∷ []) =
    if bytes_eq word (codes "replay") then over (Some Replay) (limits_in_words flush merge) else None
replay_of words = None

-- `serve PER CONNECTIONS FLUSH MERGE`
abbrev pub serve_of : List (List ℕ) → Option Command
serve_of (word ∷ per ∷ connections ∷ flush ∷ merge ∷ []) =
    if bytes_eq word (codes "serve")
    then over (serve_with (some_of per) (some_of connections)) (limits_in_words flush merge) else None
serve_of words = None

-- `trial SEED COUNT FLUSH MERGE`
abbrev pub trial_of : List (List ℕ) → Option Command
trial_of (word ∷ seed ∷ count ∷ flush ∷ merge ∷ []) =
    if bytes_eq word (codes "trial")
    then over (trial_with (seed_of seed) (count_in_word count)) (limits_in_words flush merge) else None
trial_of words = None

-- the first of two commands, where there is one
abbrev pub first_command : Option Command → Option Command → Option Command
first_command None command = command
first_command (Some first) command = Some first

-- the job that has no input of lines
abbrev pub served_of : List (List ℕ) → Option Command
served_of words = first_command (serve_of words) (trial_of words)

-- the job over a store that words ask for
abbrev pub run_of : List (List ℕ) → Option Command
run_of words = first_command (replay_of words) (served_of words)

-- What words ask for.
abbrev pub command_of : List (List ℕ) → Option Command
command_of words = first_command (init_of words) (run_of words)

-- a job that may be done: a connection has a request or more, and so has a trial
abbrev pub IsServable : Job → Type 0
IsServable Replay = ⊤
IsServable (Serve per connections) = 0 < per
IsServable (Trial seed count) = 0 < count

-- so of what words ask for
abbrev pub IsFitCommand : Command → Type 0
IsFitCommand Init = ⊤
IsFitCommand (Over job limits) = IsServable job

-- a number of at most 65,535
abbrev pub small_port : ℕ → Option ℕ
small_port n = if nat_le n 65535 then Some n else None

-- the port: the second word, where there is one and it is such a number
abbrev pub port_of : List (List ℕ) → Option ℕ
port_of [] = None
port_of (folder ∷ []) = None
port_of (folder ∷ port ∷ words) = option_and_then small_port (number_in_word port)

-- words as bytes
abbrev pub bytes_of : List (String Global) → List (List ℕ)
bytes_of words = map string_bytes words
