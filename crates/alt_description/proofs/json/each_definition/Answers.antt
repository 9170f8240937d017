-- At the end all are shown.
use Rattle.alt_description.specs.Json.{definition_json}
use Rattle.alt_description.proofs.Shown.{shown_whole}
use Rattle.alt_description.proofs.json.each_definition.Goals as goal

pub returns : goal.returns
returns c =
    shown_whole definition_json c.args.definitions.now c.loop-definition.definition-index
    c.loop-definition.values.items c.loop-definition-test.false c.loop-definition.invariant
