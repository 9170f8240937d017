use Rattle.std.proofs.Common.{◌≡◌, ◌≤◌, ◌+◌, ℕ, zero, suc, List, [], ◌∷◌, length, take, refl, sym, ap, ◌∙◌, arith}
use Rattle.std.proofs.lemmas.List.{length-take}
use Rattle.alt_http.specs.Reading.{scan_of}
use Rattle.alt_http.proofs.Answering.{scan_of-nothing}
use Rattle.tests_http.proofs.tests.pieces.answered_at.Goals as goal

-- the front of a longer front
take_front : (m n : ℕ) (l : List ℕ) → m ≤ n → take m (take n l) ≡ take m l
take_front zero n l le = refl
take_front (suc m) zero l le = absurd (omega arith)
take_front (suc m) (suc n) [] le = refl
take_front (suc m) (suc n) (x ∷ l) le = ap (λ (r : List ℕ). x ∷ r) (take_front m n l (omega arith))

pub loop-place-init : goal.loop-place-init
loop-place-init c = record { behind = omega arith; more = scan_of-nothing }

pub scan_more-requires-clause-within : goal.scan_more-requires-clause-within
scan_more-requires-clause-within c =
    let behind = c.loop-place.invariant.behind in
    let below = c.loop-place-test.true in
    let e = length-take (c.loop-place.place + 1) c.args.bytes.now in omega (arith, e)

pub scan_more-requires-clause-more : goal.scan_more-requires-clause-more
scan_more-requires-clause-more c =
    let behind = c.loop-place.invariant.behind in
    ap scan_of (take_front c.loop-place.seen (c.loop-place.place + 1) c.args.bytes.now
    (omega arith)) ∙ c.loop-place.invariant.more

pub loop-place-preserved : goal.loop-place-preserved
loop-place-preserved c =
    record { behind = omega arith; more = sym c.in-Ok-More.ensures ∙ c.in-Ok-More.field-0-is }
