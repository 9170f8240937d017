-- A value is that of its tree.
use Rattle.std.proofs.Common.{◌≡◌, sym, subst, IfOk}
use Rattle.alt_expr.proofs.Copied.{attr_of-tree_of}
use Rattle.alt_expr.proofs.values.shared.Goals as goal

pub returns : goal.returns
returns c = subst (λ x. IfOk c.share.result (λ a. a ≡ x)) (sym (attr_of-tree_of c.args.value.now)) c.share.ensures.same
