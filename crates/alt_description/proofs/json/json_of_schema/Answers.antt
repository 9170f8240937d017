-- What is shown has no float.
use Rattle.alt_description.proofs.Plain.{shown_plain}
use Rattle.alt_description.proofs.json.json_of_schema.Goals as goal

pub returns-clause-no_float : goal.returns-clause-no_float
returns-clause-no_float c = shown_plain c.shown.result c.args.s.now c.args.status.now
    c.shown.ensures
