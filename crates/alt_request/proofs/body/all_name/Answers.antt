use Rattle.std.proofs.Common.{◌∙◌}
use Rattle.serde_json.specs.View.{members_view}
use Rattle.alt_machine.specs.Members.{may_name}
use Rattle.alt_request.proofs.Walks.{all_mapped}
use Rattle.alt_request.proofs.body.all_name.Goals as goal

pub returns : goal.returns
returns c = c.each_may_name.ensures ∙ all_mapped (λ w. w.now)
    (may_name (members_view c.args.body.now.entries)) c.args.names.now
