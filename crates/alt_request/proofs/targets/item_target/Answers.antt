-- All of the body is at hand.
use Rattle.std.proofs.Common.{refl}
use Rattle.serde_json.specs.View.{members_view}
use Rattle.alt_request.proofs.targets.item_target.Goals as goal

pub returns : goal.returns
returns c = record {
  target = c.given_target.ensures.target (members_view c.args.body.now.entries) (record {
    beside = record { words = refl; table = refl; says = λ d g. refl };
    item = refl;
  });
}
