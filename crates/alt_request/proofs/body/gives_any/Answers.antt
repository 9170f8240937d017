use Rattle.std.proofs.Common.{◌∙◌, is_some}
use Rattle.serde_json.specs.View.{members_view}
use Rattle.alt_shape.specs.Shape.{given}
use Rattle.alt_request.proofs.Walks.{any_mapped}
use Rattle.alt_request.proofs.body.gives_any.Goals as goal

pub returns : goal.returns
returns c = c.any_given.ensures ∙ any_mapped (λ w. w.now)
    (λ name. is_some (given name (members_view c.args.body.now.entries))) c.args.names.now
