-- What a call that failed leaves of the streams and of the bytes taken.
use Rattle.std.proofs.Common.{◌≡◌, ◌⊎◌, ⊎_elim, ℕ, Bool, true, false, List, [], ◌∷◌, ◌++◌, refl, ap, ◌∙◌, append-nil}
use Rattle.std.proofs.lemmas.Grind.{flat_map-append, fold-append}
use Rattle.alt_shell.specs.Log.{Log, entry, event_of, bytes_taken, taken}
use Rattle.alt_shell.specs.Kept.{failed_of}
use Rattle.alt_shell.specs.Streams.{Streams, streams_of, after_event, after_say, on_hand, untouched}
use Rattle.alt_shell.specs.declared.kept.Stream.{Stream}
use Rattle.alt_shell.specs.declared.kept.Stream.TheVariants.{Input, Output}

-- the streams, and the bytes taken, are those of before
pub record Silent (old new : Log) : Type 0 where
  pub streams_stay : streams_of new ≡ streams_of old
  pub taken_stays : taken new ≡ taken old

-- the streams after one entry more
pub streams-push : (es : Log) (e : ℕ × List ℕ)
    → streams_of (es ++ e ∷ []) ≡ after_event (event_of e.1) (streams_of es)
streams-push es e =
    fold-append (λ (s : Streams) (f : ℕ × List ℕ). after_event (event_of f.1) s) untouched es (e ∷ [])

-- nothing said leaves them
says_none : (talking : Bool) (s : Streams) → on_hand talking (after_say []) s ≡ s
says_none true s =
    ap (λ (said : List ℕ). let t : Streams = record {
      talking = s.talking;
      standard = s.standard;
      talk = record { over = s.talk.over; said = said };
      past = s.past;
    } in t) (append-nil s.talk.said)
says_none false s =
    ap (λ (said : List ℕ). let t : Streams = record {
      talking = s.talking;
      standard = record { over = s.standard.over; said = said };
      talk = s.talk;
      past = s.past;
    } in t) (append-nil s.standard.said)

-- nor does a failure
fails_none : (moment told : ℕ) (stream : Stream) (s : Streams)
    → after_event (event_of (entry moment told (failed_of stream)).1) s ≡ s
fails_none moment told Input s = refl
fails_none moment told Output s = says_none s.talking s

-- it takes nothing
takes_none : (moment told : ℕ) (stream : Stream)
    → taken (entry moment told (failed_of stream) ∷ []) ≡ []
takes_none moment told Input = refl
takes_none moment told Output = refl

-- with its entry the log says no more
pub with_failed : (old new : Log) (moment told : ℕ) (stream : Stream)
    → new ≡ old ++ entry moment told (failed_of stream) ∷ [] → Silent old new
with_failed old new moment told stream is = record {
  streams_stay = ap streams_of is ∙ streams-push old (entry moment told (failed_of stream))
      ∙ fails_none moment told stream (streams_of old);
  taken_stays = ap taken is ∙ flat_map-append (λ (e : ℕ × List ℕ). bytes_taken (event_of e.1)) old
      (entry moment told (failed_of stream) ∷ [])
      ∙ ap (λ (l : List ℕ). taken old ++ l) (takes_none moment told stream)
      ∙ append-nil (taken old);
}

-- nor where it stays
pub failed_silent : (old new : Log) (moment told : ℕ) (stream : Stream) (seen : Type 0)
    → (new ≡ old ++ entry moment told (failed_of stream) ∷ []) ⊎ (seen × (new ≡ old))
    → Silent old new
failed_silent old new moment told stream seen either = ⊎_elim
    (λ (is : new ≡ old ++ entry moment told (failed_of stream) ∷ []).
    with_failed old new moment told stream is)
    (λ (same : seen × (new ≡ old)). record {
      streams_stay = ap streams_of same.1;
      taken_stays = ap taken same.1;
    })
    either
