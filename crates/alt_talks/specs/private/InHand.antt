-- What a connection's own values in hand stand for. Private contracts alone cite it.
use Rattle.std.specs.Prelude.{ℕ, List, Bool, Option}
use Rattle.alt_talks.specs.declared.front.Head.{Head as CodeHead}
use Rattle.alt_talks.specs.declared.connection.Talk.{Talk}
use Rattle.alt_talks.specs.Talks.{ConnectionPlace, Head as TalkHead, Request}
use Rattle.alt_talks.specs.TalkViews.{head_of_parts}

-- a head in hand
abbrev pub head_in : CodeHead → TalkHead
head_in h = head_of_parts h.taken h.target h.length h.expect h.close

-- a request of these parts
abbrev pub asking : Option (List ℕ) → List ℕ → Bool → Request
asking target body close = record { target = target; body = body; close = close }

-- where a talk stands
abbrev pub place_of_talk : Talk → ConnectionPlace
place_of_talk t = record { left = t.left; greeted = t.greeted; bytes = t.front }
