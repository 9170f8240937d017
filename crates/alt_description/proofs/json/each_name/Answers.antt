-- At the end all are shown.
use Rattle.serde_json.specs.Data.{string}
use Rattle.alt_description.proofs.Shown.{shown_whole}
use Rattle.alt_description.proofs.json.each_name.Goals as goal

pub returns : goal.returns
returns c =
    shown_whole (λ name. string name) c.args.names.now c.loop-name.name-index
    c.loop-name.values.items c.loop-name-test.false c.loop-name.invariant
