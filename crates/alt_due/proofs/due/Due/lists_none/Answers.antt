-- None is ready, and none waits for that moment.
use Rattle.std.proofs.Common.{sym, ◌∙◌, true≢false}
use Rattle.alt_due.proofs.Nothing.{lists_none, none_ready, none_ripe}
use Rattle.alt_due.proofs.due.Due.lists_none.Goals as goal

pub returns-then-is_empty : goal.returns-then-is_empty
returns-then-is_empty c =
    let due = c.args.self.now in (
      λ t. lists_none due c.args.moment (c.is_empty.ensures.0 c.if-is_empty.true)
          (c.is_ripe.ensures.0 t),
      λ none. c.is_ripe.ensures.1 (none_ripe due c.args.moment none),
    )

pub returns-else-is_empty : goal.returns-else-is_empty
returns-else-is_empty c = (
  λ t. absurd (true≢false (sym t ∙ c.if-is_empty.false)),
  λ none. c.is_empty.ensures.1 (none_ready c.args.self.now c.args.moment none),
)
