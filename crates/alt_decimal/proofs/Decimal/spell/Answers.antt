use Rattle.std.proofs.Common.{◌<◌, ◌≤◌, ◌*◌, ◌^◌, ℕ, List, length, ap, sym, ◌∙◌, arith}
use Rattle.alt_decimal.specs.Spelled.{spelled, magnitude_bytes}
use Rattle.alt_decimal.proofs.Magnitudes.{units_of-zero}
use Rattle.alt_decimal.proofs.Spelling.{spelled-zero, spelled-above, spelled-below, flipped, length-complement}
use Rattle.alt_decimal.proofs.Decimal.spell.Goals as goal

pub returns-then-self-eq0-clause-length : goal.returns-then-self-eq0-clause-length
returns-then-self-eq0-clause-length c =
    c.put.ensures.end ∙ sym (ap length (ap spelled
    (sym c.self.view_is ∙ units_of-zero c.self.inside c.self.invariant c.if-self-eq0.true)
    ∙ spelled-zero))

pub returns-then-self-eq0-clause-bytes : goal.returns-then-self-eq0-clause-bytes
returns-then-self-eq0-clause-bytes c =
    c.put.ensures.text ∙ sym (ap spelled (sym c.self.view_is
    ∙ units_of-zero c.self.inside c.self.invariant c.if-self-eq0.true) ∙ spelled-zero)

pub returns-then-self-clause-length : goal.returns-then-self-clause-length
returns-then-self-clause-length c =
    let above : 0 < c.self.inside.coefficient = omega arith in
    let m : List ℕ = magnitude_bytes (c.self.inside.coefficient * 10 ^ c.self.inside.zeros) in
    let spelling = ap spelled (sym c.self.view_is)
    ∙ spelled-below c.self.inside c.self.invariant above c.if-self.true in
    omega (arith, c.put_magnitude-end.ensures.end, ap length spelling, length-complement m)

pub returns-then-self-clause-bytes : goal.returns-then-self-clause-bytes
returns-then-self-clause-bytes c =
    let above : 0 < c.self.inside.coefficient = omega arith in
    let spelling = ap spelled (sym c.self.view_is)
    ∙ spelled-below c.self.inside c.self.invariant above c.if-self.true in
    let within : c.put_magnitude-end.result ≤ length c.put_magnitude-end.new.buf =
    omega (arith, c.put_magnitude-end.ensures.within) in
    flipped c.put_magnitude-end.result 1 c.put_magnitude-end.new.buf _ c.flip.new.bytes
    c.put_magnitude-end.ensures.bytes c.put_magnitude-end.ensures.end within c.flip.ensures
    ∙ sym spelling

pub returns-else-self-clause-length : goal.returns-else-self-clause-length
returns-else-self-clause-length c =
    let above : 0 < c.self.inside.coefficient = omega arith in
    let spelling = ap spelled (sym c.self.view_is)
    ∙ spelled-above c.self.inside c.self.invariant above c.if-self.false in
    omega (arith, c.put_magnitude.ensures.end, ap length spelling)

pub returns-else-self-clause-bytes : goal.returns-else-self-clause-bytes
returns-else-self-clause-bytes c =
    let above : 0 < c.self.inside.coefficient = omega arith in
    let spelling = ap spelled (sym c.self.view_is)
    ∙ spelled-above c.self.inside c.self.invariant above c.if-self.false in
    c.put_magnitude.ensures.bytes ∙ sym spelling
