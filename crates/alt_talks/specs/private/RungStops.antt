-- What a stop leaves at each moment of a part of the serving of connections: one word for each rung. Private contracts alone cite it.
use Rattle.std.specs.Prelude.{◌-◌, ℕ, List, [], ◌∷◌, Bool}
use Rattle.alt_machine.specs.State.{State}
use Rattle.alt_shell.specs.Log.{Log}
use Rattle.alt_talks.specs.Connections.{connection_start}
use Rattle.alt_talks.specs.private.Rungs.{ConnectionComes, ComesSome, Answers, AnswersSome, MovesConnection, MovesAll, MovesSome, StepsConnection, CarriesRequest, GoesOneTake, GoesSome, EndsTalk}
use Rattle.alt_talks.specs.Runs.{OfStretch}
use Rattle.alt_talks.specs.Stops.{AtEach}
use Rattle.alt_talks.specs.Talks.{Turn, asked, Rules, Head, ConnectionPlace, request_of, turns}
use Rattle.alt_talks.specs.declared.fault.RunFault.{RunFault}
use Rattle.alt_talks.specs.TalkStops.{LeftOn, LeftTaken}

-- Calls that have P, and what a stop leaves at each of their moments while the turns that P tells of are done.
abbrev pub Leaving : Rules → State → (P : Log → List ℕ → Type 0)
    → ((entries : Log) (told : List ℕ) → P entries told → List Turn) → OfStretch
Leaving r s P done old new entries told =
    (x : P entries told) × AtEach old new (LeftOn r s (done entries told x) entries told)

-- calls that have P, and what a stop leaves at each of their moments while bytes are taken at a place
abbrev pub Taking : Rules → ConnectionPlace → State → (P : Log → List ℕ → Type 0) → OfStretch
Taking r p s P old new entries told =
    P entries told × AtEach old new (LeftTaken r p s entries told)

-- these turns were done, and nothing was taken
abbrev pub AnswersOn : Rules → State → Bool → List Turn → State → Bool → OfStretch
AnswersOn r s mute ts t after_it = Leaving r s (Answers r s mute ts t after_it) (λ _ _ _. ts)

-- they broke off
abbrev pub AnswersSomeOn : Rules → RunFault → ℕ → State → Bool → List Turn → OfStretch
AnswersSomeOn r fault next s mute ts = Leaving r s (AnswersSome r fault next s mute ts) (λ _ _ _. ts)

-- the whole request behind this head was carried out, and dropped from the front
abbrev pub CarriesOn : Rules → Head → ConnectionPlace → State → Bool → ConnectionPlace → State → Bool → OfStretch
CarriesOn r h p s mute q t after_it = Leaving r s (CarriesRequest r h p s mute q t after_it)
    (λ _ _ _. asked (request_of h p.bytes (p.left - 1)) ∷ [])

-- carrying it out broke off
abbrev pub CarriesSomeOn : Rules → RunFault → ℕ → Head → ConnectionPlace → State → Bool → OfStretch
CarriesSomeOn r fault next h p s mute =
    AnswersSomeOn r fault next s mute (asked (request_of h p.bytes (p.left - 1)) ∷ [])

-- turns at hand were done
abbrev pub MovesOn : Rules → ConnectionPlace → State → Bool → ConnectionPlace → State → Bool → OfStretch
MovesOn r p s mute q t after_it = Leaving r s (MovesConnection r p s mute q t after_it) (λ _ _ x. x.done)

-- one was, or none was at hand
abbrev pub StepsOn : Rules → Bool → ConnectionPlace → State → Bool → ConnectionPlace → State → Bool → OfStretch
StepsOn r more p s mute q t after_it =
    Leaving r s (StepsConnection r more p s mute q t after_it) (λ _ _ x. x.moves.done)

-- all at hand were
abbrev pub MovesAllOn : Rules → ConnectionPlace → State → Bool → ConnectionPlace → State → Bool → OfStretch
MovesAllOn r p s mute q t after_it = Leaving r s (MovesAll r p s mute q t after_it)
    (λ _ _ _. turns r p.left p.greeted p.bytes)

-- they broke off
abbrev pub MovesSomeOn : Rules → RunFault → ℕ → ConnectionPlace → State → Bool → OfStretch
MovesSomeOn r fault next p s mute = Leaving r s (MovesSome r fault next p s mute)
    (λ _ _ _. turns r p.left p.greeted p.bytes)

-- bytes were taken, and the turns at hand then were done
abbrev pub GoesOn : Rules → Bool → ConnectionPlace → State → Bool → ConnectionPlace → State → Bool → OfStretch
GoesOn r more p s mute q t after_it = Taking r p s (GoesOneTake r more p s mute q t after_it)

-- that broke off
abbrev pub GoesSomeOn : Rules → RunFault → ℕ → ConnectionPlace → State → Bool → OfStretch
GoesSomeOn r fault next p s mute = Taking r p s (GoesSome r fault next p s mute)

-- that went on until no more came, a say failed, or the turns ended
abbrev pub EndsOn : Rules → ConnectionPlace → State → Bool → ConnectionPlace → State → Bool → OfStretch
EndsOn r p s mute q t after_it = Taking r p s (EndsTalk r p s mute q t after_it)

-- a connection came and was served, or none came any more
abbrev pub ComesOn : Rules → ℕ → Bool → State → State → OfStretch
ComesOn r per came s t = Taking r (connection_start per) s (ConnectionComes r per came s t)

-- none came since the wait failed; or one came, broke off and was hung up
abbrev pub ComesSomeOn : Rules → ℕ → RunFault → ℕ → State → OfStretch
ComesSomeOn r per fault next s = Taking r (connection_start per) s (ComesSome r per fault next s)
