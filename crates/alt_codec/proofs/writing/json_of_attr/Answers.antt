-- What is written has no float, and stands for the value.
use Rattle.alt_value.specs.Stands.{tree_of}
use Rattle.alt_codec.proofs.Plain.{written_plain}
use Rattle.alt_codec.proofs.Relation.{written_stands}
use Rattle.alt_codec.proofs.writing.json_of_attr.Goals as goal

pub returns-clause-no_float : goal.returns-clause-no_float
returns-clause-no_float c = written_plain c.json_of_value.result
    (tree_of c.args.a.now) c.json_of_value.ensures.json

pub returns-clause-stands : goal.returns-clause-stands
returns-clause-stands c = written_stands c.json_of_value.result
    (tree_of c.args.a.now) c.json_of_value.ensures.json c.json_of_value.ensures.read_back
