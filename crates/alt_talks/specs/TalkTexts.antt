-- What is to be said to turns, and the state after them. A request takes the next moment, and so does a refusal.
use Rattle.std.specs.Prelude.{ℕ, suc, List, [], ◌∷◌, ◌++◌, Option, None}
use Rattle.alt_machine.specs.State.{State}
use Rattle.alt_machine.specs.Wanted.{Lack}
use Rattle.alt_talks.specs.Turns.{or_next}
use Rattle.alt_talks.specs.Talks.{Turn, onward, asked, refused, Rules}

-- the text; it stops where the moments run out
abbrev pub text : Rules → State → List Turn → List ℕ → List ℕ
text r s [] ms = []
text r s (onward ∷ ts) ms = r.greeting ++ text r s ts ms
text r s (asked q ∷ ts) [] = []
text r s (asked q ∷ ts) (m ∷ ms) = r.reply s q m ++ text r (r.next s q m) ts ms
text r s (refused k ∷ ts) [] = []
text r s (refused k ∷ ts) (m ∷ ms) = r.refusal k m ++ text r s ts ms

-- the state, the fold over the requests
abbrev pub after : Rules → State → List Turn → List ℕ → State
after r s [] ms = s
after r s (onward ∷ ts) ms = after r s ts ms
after r s (asked q ∷ ts) [] = s
after r s (asked q ∷ ts) (m ∷ ms) = after r (r.next s q m) ts ms
after r s (refused k ∷ ts) [] = after r s ts []
after r s (refused k ∷ ts) (m ∷ ms) = after r s ts ms

-- how many requests stand among the turns
abbrev pub request_count : List Turn → ℕ
request_count [] = 0
request_count (onward ∷ ts) = request_count ts
request_count (asked q ∷ ts) = suc (request_count ts)
request_count (refused k ∷ ts) = request_count ts

-- how many turns take a moment where no say failed
abbrev pub moments_taken : List Turn → ℕ
moments_taken [] = 0
moments_taken (onward ∷ ts) = moments_taken ts
moments_taken (asked q ∷ ts) = suc (moments_taken ts)
moments_taken (refused k ∷ ts) = suc (moments_taken ts)

-- the first number or family that a request wants and can't have
abbrev pub wanted_by_talk : Rules → State → List Turn → List ℕ → Option Lack
wanted_by_talk r s [] ms = None
wanted_by_talk r s (onward ∷ ts) ms = wanted_by_talk r s ts ms
wanted_by_talk r s (asked q ∷ ts) [] = None
wanted_by_talk r s (asked q ∷ ts) (m ∷ ms) = or_next (r.wants s q m) (wanted_by_talk r (r.next s q m) ts ms)
wanted_by_talk r s (refused k ∷ ts) [] = wanted_by_talk r s ts []
wanted_by_talk r s (refused k ∷ ts) (m ∷ ms) = wanted_by_talk r s ts ms
