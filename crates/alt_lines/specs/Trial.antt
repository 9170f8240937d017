-- The generator of requests (docs/formats/trial.md).
use Rattle.std.specs.Prelude.{ℕ, zero, suc, ◌+◌, ◌*◌, ◌/◌, ◌%◌, ◌^◌, List, [], ◌∷◌, Bool, true, false, if◌then◌else◌}
use Rattle.alt_lines.specs.TrialTexts.{Draws, create_table_line, drawn_line}
use Rattle.alt_lines.specs.declared.generator.Trial.{Trial}

-- whether no request was made yet, and the number from which the next is drawn
pub record Generator : Type 0 where
  pub first : Bool
  pub number : ℕ

-- a generator before its first request
abbrev pub generator_from : ℕ → Generator
generator_from seed = record { first = true; number = seed }

-- how a generator is seen
abbrev pub generator : Trial → Generator
generator trial = record { first = trial.first; number = trial.number }

-- the number that each draw begins with
abbrev pub next_number : ℕ → ℕ
next_number s = (s * 6364136223846793005 + 1442695040888963407) % 2 ^ 64

-- a number below n, of the number that the draw began with
abbrev pub drawn : ℕ → ℕ → ℕ
drawn s n = s / 2 ^ 33 % n

-- the four draws of a request, in their order
unfoldable pub draws : ℕ → Draws
draws s =
    let a = next_number s in
    let b = next_number a in
    let c = next_number b in
    let d = next_number c in
    record { kind = drawn a 10; partition = drawn b 40; range = drawn c 200; value = drawn d 1000 }

-- the number after four draws
unfoldable pub after_draws : ℕ → ℕ
after_draws s = next_number (next_number (next_number (next_number s)))

-- the next request
abbrev pub next_line : Generator → List ℕ
next_line g = if g.first then create_table_line else drawn_line (draws g.number)

-- the generator behind it
abbrev pub after_line : Generator → Generator
after_line g = record { first = false; number = if g.first then g.number else after_draws g.number }

-- the next requests, so many of them
abbrev pub next_lines : ℕ → Generator → List (List ℕ)
next_lines zero g = []
next_lines (suc n) g = next_line g ∷ next_lines n (after_line g)

-- the requests of a trial
abbrev pub trial_lines : ℕ → ℕ → List (List ℕ)
trial_lines seed count = next_lines count (generator_from seed)
