-- A take gives nothing exactly where no piece is left, and what it leaves of the log.
use Rattle.std.proofs.Common.{◌≡◌, ◌<◌, ◌+◌, ◌==◌, ℕ, Bool, true, false, List, [], ◌∷◌, ◌++◌, length, take, map, if◌then◌else◌}
use Rattle.std.proofs.Common.{Vec, Global, ap, sym, ◌∙◌, arith, length-take, length-append, append-nil, refl}
use Rattle.std.proofs.lemmas.Grind.{flat_map-append}
use Rattle.std.specs.Prelude.{◌↔◌}
use Rattle.std.specs.List.{All}
use Rattle.alt_base.proofs.Numbers.{told_zero, zero_is_told}
use Rattle.alt_shell.specs.declared.pieces.Pieces.{Pieces}
use Rattle.alt_shell.specs.Log.{Log, entry, event_of, took, bytes_taken, taken}
use Rattle.alt_shell.specs.Pieces.{front_of}
use Rattle.alt_shell.specs.Streams.{Streams, streams_of, after_take, on_hand, is_none}
use Rattle.alt_shell.specs.Waiting.{pieces_of}
use Rattle.alt_shell.proofs.Missing.{streams-push}

-- a take gives nothing exactly where no piece is left
ends : (vs : List (Vec ℕ Global)) (bytes : List ℕ) (n most : ℕ)
    → All (λ v. 0 < length v.items) vs
    → 0 < most → n ≡ length bytes → bytes ≡ take most (front_of (map (λ v. v.items) vs))
    → (n ≡ 0) ↔ (map (λ v. v.items) vs ≡ [])
ends [] bytes n most filled some size same =
    let none : n ≡ 0 = omega (arith, size, ap length same, length-take {A = ℕ} most []) in
    (λ _. refl, λ _. none)
ends (v ∷ vs) bytes n most filled some size same =
    let held : 0 < length v.items = filled 0 v (omega arith) in
    let above : 0 < n = omega (arith, size, ap length same, length-take most v.items, held, some) in
    (λ none. absurd (omega (arith, none, above)), λ e. absurd (let f : ⊥ = cc in f))

-- so on the stream at hand
pub hand_ends : (talking : Bool) (talk standard : Pieces) (bytes : List ℕ) (n most : ℕ)
    → 0 < most → n ≡ length bytes
    → bytes ≡ take most (front_of (if talking then pieces_of talk else pieces_of standard))
    → (n ≡ 0) ↔ ((if talking then pieces_of talk else pieces_of standard) ≡ [])
hand_ends true talk standard bytes n most some size same =
    ends talk.waiting.items bytes n most talk.filled some size same
hand_ends false talk standard bytes n most some size same =
    ends standard.waiting.items bytes n most standard.filled some size same

-- these bytes are none exactly where their count is
pub none_is : (bytes : List ℕ) (n : ℕ) → n ≡ length bytes → is_none bytes ≡ (n == 0)
none_is [] n is = sym (zero_is_told n is)
none_is (b ∷ bytes) n is = sym (no (n == 0) refl)
  where
    no : (t : Bool) → (n == 0) ≡ t → t ≡ false
    no true test = absurd (let none = told_zero n test in omega (arith, is, none))
    no false test = refl

-- the streams after a take
pub streams-took : (old new : Streams) (es log : Log) (moment told : ℕ) (bytes : List ℕ)
    → old ≡ streams_of es → new ≡ on_hand old.talking (after_take bytes) old
    → log ≡ es ++ entry moment told (took bytes) ∷ [] → new ≡ streams_of log
streams-took old new es log moment told bytes heard is more =
    is ∙ ap (λ (s : Streams). on_hand s.talking (after_take bytes) s) heard
    ∙ sym (ap streams_of more ∙ streams-push es (entry moment told (took bytes)))

-- the bytes taken after it
pub taken_push : (es new : Log) (moment told : ℕ) (bytes : List ℕ)
    → new ≡ es ++ entry moment told (took bytes) ∷ []
    → length (taken new) ≡ length (taken es) + length bytes
taken_push es new moment told bytes is =
    ap (λ (l : Log). length (taken l)) is
    ∙ ap length (flat_map-append (λ (e : ℕ × List ℕ). bytes_taken (event_of e.1)) es
    (entry moment told (took bytes) ∷ []))
    ∙ length-append (taken es) (bytes ++ [])
    ∙ ap (λ (l : List ℕ). length (taken es) + length l) (append-nil bytes)
