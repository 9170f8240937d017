-- It covers a moment at each place where there is no end.
use Rattle.std.proofs.Common.{[], sym, ◌∙◌, true≢false}
use Rattle.std.specs.Cmp.{first_so}
use Rattle.alt_due.specs.Due.{is_before, suffices_at}
use Rattle.alt_due.specs.Order.{spot_of}
use Rattle.alt_due.proofs.Nothing.{covered_all, covered_endless}
use Rattle.alt_due.proofs.due.Due.covers_all.Goals as goal

pub returns-then-is_none : goal.returns-then-is_none
returns-then-is_none c =
    let due = c.args.self.now in
    let some = spot_of [] [] in (
      λ t. covered_all due c.args.moment c.if-is_none.ensures (sym c.covers.ensures ∙ t),
      λ all. c.covers.ensures ∙ first_so (suffices_at due c.args.moment) (is_before due.end some) (all some),
    )

pub returns-else-is_none : goal.returns-else-is_none
returns-else-is_none c = (
  λ t. absurd (true≢false (sym t ∙ c.if-is_none.false)),
  λ all. absurd (true≢false (sym c.if-is_none.ensures
      ∙ covered_endless c.args.self.now c.args.moment all)),
)
