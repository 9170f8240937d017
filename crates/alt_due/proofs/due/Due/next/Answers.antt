-- The first of the range behind the place, where it is before the end.
use Rattle.std.proofs.Common.{◌≡◌, true, false, sym, subst, ◌∙◌}
use Rattle.std.specs.declared.ops.Bound.TheVariants.{Unbounded}
use Rattle.std.specs.BTreeSet.{IsKeyRangeOf}
use Rattle.std.specs.Option.{option_copied}
use Rattle.alt_due.specs.Due.{is_before}
use Rattle.alt_due.specs.Order.{spot_cmp, spot_of}
use Rattle.alt_due.proofs.Next.{found, past}
use Rattle.alt_due.proofs.due.Due.next.Goals as goal

pub returns-then-is_before_end : goal.returns-then-is_before_end
returns-then-is_before_end c =
    let due = c.args.self.now in
    let first = c.in_ok-found.found.now in
    let range = c.range.result in
    let inside : is_before due.end first ≡ true = sym ((λ i. is_before due.end
    (spot_of (c.as_str.ensures.same i) (c.as_slice.ensures.same i)))) ∙ sym c.is_before_end.ensures
    ∙ c.if-is_before_end.true in
    found due (option_copied c.args.after) range (subst (λ from.
    IsKeyRangeOf spot_cmp from Unbounded due.ready range) c.start.ensures
    (c.range.ensures.in_range tt)) first c.next.new.self c.in_ok-found.ensures.steps inside

pub returns-else-is_before_end : goal.returns-else-is_before_end
returns-else-is_before_end c =
    let due = c.args.self.now in
    let first = c.in_ok-found.found.now in
    let range = c.range.result in
    let outside : is_before due.end first ≡ false = sym ((λ i. is_before due.end
    (spot_of (c.as_str.ensures.same i) (c.as_slice.ensures.same i)))) ∙ sym c.is_before_end.ensures
    ∙ c.if-is_before_end.false in
    past due (option_copied c.args.after) range (subst (λ from.
    IsKeyRangeOf spot_cmp from Unbounded due.ready range) c.start.ensures
    (c.range.ensures.in_range tt)) first c.next.new.self c.in_ok-found.ensures.steps outside
