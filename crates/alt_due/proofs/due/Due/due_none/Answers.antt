-- It covers all, and lists nothing.
use Rattle.alt_due.proofs.Nothing.{none_due, due_lists}
use Rattle.alt_due.proofs.due.Due.due_none.Goals as goal

pub returns-then-covers_all : goal.returns-then-covers_all
returns-then-covers_all c =
    let due = c.args.self.now in (
      λ t. none_due due c.args.moment (c.covers_all.ensures.0 c.if-covers_all.true)
          (c.lists_none.ensures.0 t),
      λ none. c.lists_none.ensures.1 (due_lists due c.args.moment none),
    )
