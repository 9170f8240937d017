-- How long a stream keeps changes: those over a day older than a new one go (Developer Guide, "Change data capture for DynamoDB
-- Streams": data in a stream is kept for 24 hours).
use Rattle.std.specs.Prelude.{ℕ, ◌+◌, nat_lt, nat_le, ◌&&◌, Bool, List, [], ◌∷◌, if◌then◌else◌}
use Rattle.alt_machine.specs.State.{Change}

-- the seconds of a day
abbrev pub a_day : ℕ
a_day = 86400

-- a change is over a day older than a moment
abbrev pub is_past : ℕ → Change → Bool
is_past moment c = nat_lt (c.moment + a_day) moment

-- the changes from the first on that isn't
abbrev pub kept : ℕ → List Change → List Change
kept moment [] = []
kept moment (c ∷ cs) = if is_past moment c then kept moment cs else c ∷ cs

-- the number of the last of those before it, or where there are none the number from before
abbrev pub trimmed_at : ℕ → ℕ → List Change → ℕ
trimmed_at moment before [] = before
trimmed_at moment before (c ∷ cs) =
    if is_past moment c then trimmed_at moment c.number cs else before

-- Where changes up to a number were trimmed, those from this number on were kept once, and are no longer all there. From 0 on stands for those that are kept.
abbrev pub is_trimmed : ℕ → ℕ → Bool
is_trimmed trimmed from = nat_le 1 from && nat_le from trimmed
