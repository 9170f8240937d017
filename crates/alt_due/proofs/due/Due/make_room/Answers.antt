-- What is covered still isn't the entry that was dropped.
use Rattle.std.proofs.Common.{◌≡◌, false, true, Some, sym, ◌∙◌}
use Rattle.std.specs.Cmp.{first_so, second_so}
use Rattle.std.proofs.Math.Logic.{⊎_map}
use Rattle.std.proofs.lemmas.Bool.{and_from}
use Rattle.alt_due.specs.Due.{is_before, suffices_at}
use Rattle.alt_due.specs.Order.{spot_of}
use Rattle.alt_due.proofs.Known.{before_before, before_apart, end_apart, waits_as}
use Rattle.alt_due.proofs.Orders.{spots_apart}
use Rattle.alt_due.proofs.due.Due.make_room.Goals as goal

pub returns-then-is_before_end-clause-keeps : goal.returns-then-is_before_end-clause-keeps
returns-then-is_before_end-clause-keeps c moment spot known covered =
    let due = c.args.self.now in
    let last = spot_of c.in-Some-pop_last.spot.table c.in-Some-pop_last.spot.place in
    let within = suffices_at due moment in
    let before = second_so within (is_before (Some last) spot) covered in
    let inside : is_before due.end last ≡ true = sym ((λ i. is_before due.end
    (spot_of (c.as_str.ensures.same i) (c.as_slice.ensures.same i)))) ∙ sym c.is_before_end.ensures
    ∙ c.if-is_before_end.true in
    ⊎_map (λ r. c.in-Some-pop_last.ensures.updates.2 spot (before_apart spot last before) ∙ r)
    (waits_as due.waiting c.pop_last.new.self moment spot c.in_default.ensures.unchanged)
    (known (and_from within (is_before due.end spot)
    (first_so within (is_before (Some last) spot) covered)
    (before_before due.end spot last before inside)))

pub returns-in-Some-pop_last-clause-keeps : goal.returns-in-Some-pop_last-clause-keeps
returns-in-Some-pop_last-clause-keeps c moment spot known covered =
    let due = c.args.self.now in
    let last = spot_of c.in-Some-pop_last.spot.table c.in-Some-pop_last.spot.place in
    let before = second_so (suffices_at due moment) (is_before due.end spot) covered in
    let outside : is_before due.end last ≡ false = sym ((λ i. is_before due.end
    (spot_of (c.as_str.ensures.same i) (c.as_slice.ensures.same i)))) ∙ sym c.is_before_end.ensures
    ∙ c.if-is_before_end.false in
    ⊎_map (λ r. c.in-Some-pop_last.ensures.updates.2 spot
    (spots_apart last spot (end_apart due.end last spot outside before)) ∙ r)
    (waits_as due.waiting c.pop_last.new.self moment spot c.in_default.ensures.unchanged)
    (known covered)
