-- One member more.
use Rattle.std.proofs.Common.{◌∙◌, ap, ◌++◌, rules, List, ℕ}
use Rattle.std.specs.List.{flat_map}
use Rattle.std.specs.Ordering.{int_cmp}
use Rattle.std.proofs.lemmas.Cmp.{int_cmp_total}
use Rattle.alt_decimal.specs.Number.{FitsDecimal}
use Rattle.alt_decimal.specs.Spelled.{spelled}
use Rattle.alt_value.specs.Members.{with_member}
use Rattle.alt_cellbytes.proofs.OneMore.{one_more}
use Rattle.alt_cellbytes.proofs.members.take_numbers.Goals as goal

pub loop-done-preserved : goal.loop-done-preserved
loop-done-preserved c =
    let m = one_more int_cmp int_cmp_total spelled FitsDecimal c.loop-done.set c.add.new.self
    c.in-Ok.number c.loop-done._done c.args.bytes.now c.loop-done.rest.now c.in-Ok.behind.now
    c.loop-done.invariant.count c.loop-done.invariant.members c.loop-done.invariant.bytes
    c.in-Ok.ensures.number.0 c.in-Ok.ensures.number.1 c.in-Ok.ensures.number.2
    (c.in_ok-add-in-Ok.ensures.ok ∙ ap (λ z. with_member int_cmp z c.loop-done.set) (search rules))
    in
    record {
      count = m.0;
      members = m.1;
      bytes =
          m.2 ∙ ap (λ (s : List ℕ). flat_map spelled c.add.new.self ++ s) (search rules);
    }
