-- The row that stands at the last place.
use Rattle.std.proofs.Common.{◌≡◌, ◌<◌, ◌+◌, ◌-◌, refl, arith, subst, length, get_or, ℕ, List, [], ◌∷◌}
use Rattle.std.proofs.lemmas.List.{get_or_read}
use Rattle.alt_rowblocks.specs.declared.hand.Hand.{Hand}
use Rattle.alt_rowblocks.specs.Format.{row_entry_bytes, IsHeldEntry}
use Rattle.alt_rowblocks.specs.Holding.{StandAt}
use Rattle.alt_rowblocks.proofs.TakenLaws.{none_before, taken_before}
use Rattle.alt_rowblocks.proofs.HandLaws.{before_last, before_stands, before_next}
use Rattle.alt_rowblocks.proofs.hand.Hand.take_before.Goals as goal

pub returns-in-Ok-Some-clause-gives : goal.returns-in-Ok-Some-clause-gives
returns-in-Ok-Some-clause-gives c = λ rows h.
    let hand = c.args.self.now in
    let n = c.len-count.result - 1 in
    let place = c.index-place.result.now in
    let size : length hand.before.items ≡ n + 1 =
    omega (arith, c.len-count.ensures, c.if-count-eq0.false, hand.before.ok) in
    let less : n < length hand.before.items = omega (arith, size) in
    let is : place ≡ get_or hand.before.items n place =
    get_or_read hand.before.items n place less c.index-place.ensures place in
    let b = before_last hand rows h n place size in
    let new : Hand = record { bytes = hand.bytes; before = c.truncate.new.self; at = hand.at } in
    before_next hand rows h new n place c.in-Ok-Some.entry b
    ((rw c.in-Ok-Some.field-0-is at c.in-Ok-Some.ensures.some) b.first b.held
    (before_stands hand rows h n place b c.deref.result.now c.deref.ensures.value is))
    refl c.truncate.ensures.items

pub returns-in-Ok-None-clause-read : goal.returns-in-Ok-None-clause-read
returns-in-Ok-None-clause-read c = λ rows h bad.
    let hand = c.args.self.now in
    let n = c.len-count.result - 1 in
    let place = c.index-place.result.now in
    let size : length hand.before.items ≡ n + 1 =
    omega (arith, c.len-count.ensures, c.if-count-eq0.false, hand.before.ok) in
    let less : n < length hand.before.items = omega (arith, size) in
    let is : place ≡ get_or hand.before.items n place =
    get_or_read hand.before.items n place less c.index-place.ensures place in
    let b = before_last hand rows h n place size in
    (rw c.in-Ok-None.field-0-is at c.in-Ok-None.ensures.none) b.first b.held
    (before_stands hand rows h n place b c.deref.result.now c.deref.ensures.value is)

pub returns-then-count-eq0-clause-given : goal.returns-then-count-eq0-clause-given
returns-then-count-eq0-clause-given c =
    let hand = c.args.self.now in (
      refl,
      none_before hand
          (omega (arith, c.len-count.ensures, c.if-count-eq0.true, hand.before.ok)),
    )

pub returns-in-Ok-Some-clause-given : goal.returns-in-Ok-Some-clause-given
returns-in-Ok-Some-clause-given c =
    let hand = c.args.self.now in
    let n = c.len-count.result - 1 in
    let place = c.index-place.result.now in
    let size : length hand.before.items ≡ n + 1 =
    omega (arith, c.len-count.ensures, c.if-count-eq0.false, hand.before.ok) in
    let less : n < length hand.before.items = omega (arith, size) in
    let new : Hand = record { bytes = hand.bytes; before = c.truncate.new.self; at = hand.at } in
    let there = rw c.in-Ok-Some.field-0-is at c.in-Ok-Some.ensures.given in
    taken_before hand new c.in-Ok-Some.entry n place size
    (get_or_read hand.before.items n place less c.index-place.ensures place)
    c.truncate.ensures.items refl
    (subst (λ (l : List ℕ). IsHeldEntry c.in-Ok-Some.entry
    × StandAt row_entry_bytes l (place ∷ []) (c.in-Ok-Some.entry ∷ [])) c.deref.ensures.value there)
