-- A place that isn't before the end isn't covered.
use Rattle.std.proofs.Common.{◌≡◌, false, sym, ◌∙◌}
use Rattle.std.specs.Cmp.{second_so}
use Rattle.std.proofs.Math.Logic.{⊎_map}
use Rattle.alt_due.specs.Due.{is_before, suffices_at}
use Rattle.alt_due.specs.Order.{spot_of}
use Rattle.alt_due.proofs.Known.{end_apart, waits_but}
use Rattle.alt_due.proofs.due.Due.ripen_first.Goals as goal

pub returns-else-is_before_end-clause-keeps : goal.returns-else-is_before_end-clause-keeps
returns-else-is_before_end-clause-keeps c moment spot known covered =
    let due = c.args.self.now in
    let gone = c.in-Some.term in
    let before = second_so (suffices_at due moment) (is_before due.end spot) covered in
    let outside : is_before due.end gone.at ≡ false = sym ((λ i. is_before due.end
    (spot_of (c.as_str.ensures.same i) (c.as_slice.ensures.same i)))) ∙ sym c.is_before_end.ensures
    ∙ c.if-is_before_end.false in
    ⊎_map (λ r. r) (waits_but due.waiting c.pop_first.new.self moment spot gone
    c.in-Some.ensures.updates.2 (end_apart due.end gone.at spot outside before)) (known covered)
