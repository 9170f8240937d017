-- The name first, and then the value.
use Rattle.std.proofs.Common.{◌∙◌, length}
use Rattle.alt_value.specs.Size.{size}
use Rattle.alt_value.specs.Stands.{tree_of}
use Rattle.alt_value.proofs.Budget.{left_short, left_on}
use Rattle.alt_views.proofs.OwnKeys.{none_left, over, size_left, under}
use Rattle.alt_views.proofs.key_row.left_of_one.Goals as goal

pub returns-in_err-left : goal.returns-in_err-left
returns-in_err-left c = c.from_residual.ensures ∙ left_short c.args.left
    (length c.args.name.now) (size (tree_of c.args.value.now))
    (over c.args.left (length c.args.name.now) c.in_err-left.ensures)

pub returns-in_err-size : goal.returns-in_err-size
returns-in_err-size c = c.from_residual-in_err-size.ensures
    ∙ none_left c.in_ok-left.left (size (tree_of c.args.value.now)) c.in_err-size.ensures.size
    ∙ left_on c.args.left (length c.args.name.now) (size (tree_of c.args.value.now))
    c.in_ok-left.left
    (under c.args.left (length c.args.name.now) c.in_ok-left.left c.in_ok-left.ensures)

pub returns : goal.returns
returns c = size_left c.in_ok-left.left (size (tree_of c.args.value.now)) c.in_ok-size.size
    c.in_ok-size.ensures.size
    ∙ left_on c.args.left (length c.args.name.now) (size (tree_of c.args.value.now))
    c.in_ok-left.left
    (under c.args.left (length c.args.name.now) c.in_ok-left.left c.in_ok-left.ensures)
