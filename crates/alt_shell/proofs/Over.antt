-- The end of standard input is final: where the log says that it was taken, no piece of it is left.
use Rattle.std.proofs.Common.{◌≡◌, ◌||◌, ◌&&◌, not, ℕ, Bool, true, false, List, [], ◌∷◌, Option, Some, None, refl, ap, ◌∙◌, if◌then◌else◌}
use Rattle.std.proofs.Math.Bool.{or-true}
use Rattle.std.specs.List.{fold}
use Rattle.alt_shell.specs.Log.{Log, Event, event_of, is_end, is_bound, ended, crosses, is_positive}
use Rattle.alt_shell.specs.Log.{took, said, take_failed, say_failed, accepted, none_came, hung_up}
use Rattle.alt_shell.specs.Streams.{Heard, Streams, after_event, after_take, after_say, on_hand, is_none, streams_of, untouched}

-- the streams after more calls
abbrev later : Streams → Log → Streams
later s es = fold (λ t e. after_event (event_of e.1) t) s es

-- an end that was taken stays so in a take
take_over : (talking : Bool) (bytes : List ℕ) (s : Streams) → s.standard.over ≡ true
    → (on_hand talking (after_take bytes) s).standard.over ≡ true
take_over true bytes s over = over
take_over false bytes s over = ap (λ (b : Bool). b || is_none bytes) over

-- and in a say
say_over : (talking : Bool) (bytes : List ℕ) (s : Streams) → s.standard.over ≡ true
    → (on_hand talking (after_say bytes) s).standard.over ≡ true
say_over true bytes s over = over
say_over false bytes s over = over

-- and in any call
event_over : (o : Option Event) (s : Streams) → s.standard.over ≡ true
    → (after_event o s).standard.over ≡ true
event_over None s over = over
event_over (Some (took bytes)) s over = take_over s.talking bytes s over
event_over (Some (said bytes)) s over = say_over s.talking bytes s over
event_over (Some take_failed) s over = over
event_over (Some (say_failed bytes)) s over = say_over s.talking bytes s over
event_over (Some accepted) s over = over
event_over (Some none_came) s over = over
event_over (Some hung_up) s over = over

-- and in all that follow
over_stays : (es : Log) (s : Streams) → s.standard.over ≡ true → (later s es).standard.over ≡ true
over_stays [] s over = over
over_stays (e ∷ es) s over =
    over_stays es (after_event (event_of e.1) s) (event_over (event_of e.1) s over)

-- a take outside of talks that gave nothing is the end
took_none : (talking : Bool) (s : Streams) → talking ≡ false
    → (on_hand talking (after_take []) s).standard.over ≡ true
took_none true s quiet = absurd (let f : ⊥ = cc in f)
took_none false s quiet = or-true s.standard.over

-- a take or say begins no talk
hand_quiet : (talking : Bool) (act : Heard → Heard) (s : Streams)
    → (on_hand talking act s).talking ≡ s.talking
hand_quiet true act s = refl
hand_quiet false act s = refl

-- the end is among these calls, of which none waited for a connection: it is the first or behind it
found_at : (o : Option Event) (es : Log) (s : Streams)
    → ((t : Streams) → t.talking ≡ false → ended es ≡ true → crosses es ≡ false
    → (later t es).standard.over ≡ true)
    → s.talking ≡ false → (is_end o || ended es) ≡ true → (is_bound o || crosses es) ≡ false
    → (later (after_event o s) es).standard.over ≡ true
found_at None es s behind quiet end uncrossed = behind s quiet end uncrossed
found_at (Some (took [])) es s behind quiet end uncrossed =
    over_stays es (on_hand s.talking (after_take []) s) (took_none s.talking s quiet)
found_at (Some (took (b ∷ bytes))) es s behind quiet end uncrossed =
    behind (on_hand s.talking (after_take (b ∷ bytes)) s)
    (hand_quiet s.talking (after_take (b ∷ bytes)) s ∙ quiet) end uncrossed
found_at (Some (said bytes)) es s behind quiet end uncrossed =
    behind (on_hand s.talking (after_say bytes) s)
    (hand_quiet s.talking (after_say bytes) s ∙ quiet) end uncrossed
found_at (Some take_failed) es s behind quiet end uncrossed = behind s quiet end uncrossed
found_at (Some (say_failed bytes)) es s behind quiet end uncrossed =
    behind (on_hand s.talking (after_say bytes) s)
    (hand_quiet s.talking (after_say bytes) s ∙ quiet) end uncrossed
found_at (Some accepted) es s behind quiet end uncrossed = absurd (let f : ⊥ = cc in f)
found_at (Some none_came) es s behind quiet end uncrossed = absurd (let f : ⊥ = cc in f)
found_at (Some hung_up) es s behind quiet end uncrossed = absurd (let f : ⊥ = cc in f)

-- so it was taken
found : (es : Log) (s : Streams) → s.talking ≡ false → ended es ≡ true → crosses es ≡ false
    → (later s es).standard.over ≡ true
found [] s quiet end uncrossed = absurd (let f : ⊥ = cc in f)
found (e ∷ es) s quiet end uncrossed =
    found_at (event_of e.1) es s (λ t q n u. found es t q n u) quiet end uncrossed

-- two tests that both hold
both : (a b : Bool) → (a && not b) ≡ true → (a ≡ true) × (b ≡ false)
both true true is = absurd (let f : ⊥ = cc in f)
both true false is = (refl, refl)
both false b is = absurd (let f : ⊥ = cc in f)

-- where the log says that the end of standard input was taken it was
pub is_over : (es : Log) → (ended es && not (crosses es)) ≡ true
    → (streams_of es).standard.over ≡ true
is_over es is =
    let parts = both (ended es) (crosses es) is in
    found es untouched refl parts.0 parts.1

-- and outside of talks nothing is left at hand then
pub none_at_hand : (talking : Bool) (talk standard : List (List ℕ))
    → is_positive (if talking then 1 else 0) ≡ false → standard ≡ []
    → (if talking then talk else standard) ≡ []
none_at_hand true talk standard is none = absurd (let f : ⊥ = cc in f)
none_at_hand false talk standard is none = none
