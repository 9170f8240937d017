-- A piece that is sent goes to the connection added last.
use Rattle.std.proofs.Common.{◌≡◌, ◌<◌, ◌-◌, ℕ, zero, suc, Bool, List, [], ◌∷◌, length, map, slice_index_or, slice_set}
use Rattle.std.proofs.Common.{Result, Ok, Err, IfOk, OnErr, refl, ap, ◌∙◌, arith}
use Rattle.alt_shell.specs.declared.pieces.Pieces.{Pieces}
use Rattle.alt_shell.specs.Pieces.{with_piece, sent_last, sent_here}
use Rattle.alt_shell.specs.Waiting.{pieces_of}

-- the connection at the last place has one piece more
sent_at : (qs : List Pieces) (n : ℕ) (last new : Pieces) (piece : List ℕ) → suc n ≡ length qs
    → last ≡ slice_index_or qs n last → pieces_of new ≡ with_piece (pieces_of last) piece
    → map pieces_of (slice_set qs n new) ≡ sent_last (map pieces_of qs) piece
sent_at [] n last new piece size is more = absurd (omega (arith, size))
sent_at (q ∷ []) zero last new piece size is more =
    ap (λ (ps : List (List ℕ)). ps ∷ [])
    (more ∙ ap (λ (p : Pieces). with_piece (pieces_of p) piece) is)
sent_at (q ∷ []) (suc n) last new piece size is more = absurd (omega (arith, size))
sent_at (q ∷ r ∷ qs) zero last new piece size is more = absurd (omega (arith, size))
sent_at (q ∷ r ∷ qs) (suc n) last new piece size is more =
    ap (λ (l : List (List (List ℕ))). pieces_of q ∷ l)
    (sent_at (r ∷ qs) n last new piece (omega (arith, size)) is more)

-- and all are as they were where it has none more
kept_at : (qs : List Pieces) (n : ℕ) (last new : Pieces) → n < length qs
    → last ≡ slice_index_or qs n last → pieces_of new ≡ pieces_of last
    → map pieces_of (slice_set qs n new) ≡ map pieces_of qs
kept_at [] n last new less is same = absurd (omega (arith, less))
kept_at (q ∷ qs) zero last new less is same =
    ap (λ (ps : List (List ℕ)). ps ∷ map pieces_of qs) (same ∙ ap pieces_of is)
kept_at (q ∷ qs) (suc n) last new less is same =
    ap (λ (l : List (List (List ℕ))). pieces_of q ∷ l)
    (kept_at qs n last new (omega (arith, less)) is same)

-- the talk at hand gets none where a connection was added behind it
not_here : (qs : List Pieces) (talking over : Bool) (ps : List (List ℕ)) (piece : List ℕ)
    → 0 < length qs → ps ≡ sent_here (map pieces_of qs) talking over ps piece
not_here [] talking over ps piece some = absurd (omega (arith, some))
not_here (q ∷ qs) talking over ps piece some = refl

-- what was sent
pub sent_ok : {T E : Type 0} (result : Result T E) (qs : List Pieces) (last new : Pieces) (piece : List ℕ)
    (talking over : Bool) (ps : List (List ℕ)) (len : ℕ) → len ≡ length qs → 0 < len
    → last ≡ slice_index_or qs (len - 1) last
    → IfOk result (λ _. pieces_of new ≡ with_piece (pieces_of last) piece)
    → IfOk result (λ _. (map pieces_of (slice_set qs (len - 1) new)
    ≡ sent_last (map pieces_of qs) piece)
    × (ps ≡ sent_here (map pieces_of qs) talking over ps piece))
sent_ok (Ok x) qs last new piece talking over ps len size some is more = (
  sent_at qs (len - 1) last new piece (omega (arith, some, size)) is more,
  not_here qs talking over ps piece (omega (arith, some, size)),
)
sent_ok (Err e) qs last new piece talking over ps len size some is more = tt

-- and what wasn't, for want of memory
pub sent_err : {T E : Type 0} (result : Result T E) (qs : List Pieces) (last new : Pieces)
    (ps : List (List ℕ)) (len : ℕ) → len ≡ length qs → 0 < len
    → last ≡ slice_index_or qs (len - 1) last → OnErr result (pieces_of new ≡ pieces_of last)
    → OnErr result ((map pieces_of (slice_set qs (len - 1) new) ≡ map pieces_of qs) × (ps ≡ ps))
sent_err (Ok x) qs last new ps len size some is same = tt
sent_err (Err e) qs last new ps len size some is same =
    (kept_at qs (len - 1) last new (omega (arith, some, size)) is same, refl)
