-- What is written has no float, and stands for the item.
use Rattle.std.proofs.Common.{◌∙◌, ap}
use Rattle.serde_json.specs.Written.{has_float, members_have_float}
use Rattle.serde_json.proofs.Views.{view-Object}
use Rattle.serde_json.specs.Data.{object}
use Rattle.alt_codec.specs.Reading.{item_in}
use Rattle.alt_codec.proofs.Plain.{pairs_plain}
use Rattle.alt_codec.proofs.Relation.{item-there}
use Rattle.alt_codec.proofs.writing.json_of_item.Goals as goal

pub returns-clause-no_float : goal.returns-clause-no_float
returns-clause-no_float c =
    ap has_float (view-Object c.in_ok-json_of_members.field-0)
    ∙ ap members_have_float c.in_ok-json_of_members.ensures.json ∙ pairs_plain c.args.i.now

pub returns-clause-stands : goal.returns-clause-stands
returns-clause-stands c = λ full fits.
    item-there 32 _ c.args.i.now
    (ap (item_in 32) (view-Object c.in_ok-json_of_members.field-0
    ∙ ap object c.in_ok-json_of_members.ensures.json)
    ∙ c.in_ok-json_of_members.ensures.read_back 32 full fits)
