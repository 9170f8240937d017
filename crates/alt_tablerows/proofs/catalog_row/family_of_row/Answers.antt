-- Where the bytes of the one column tell no family, the row does not.
use Rattle.std.proofs.Common.{ap, option_map}
use Rattle.alt_tablerows.proofs.NextFamily.{none_told}
use Rattle.alt_tablerows.proofs.catalog_row.family_of_row.Goals as goal

pub returns-in-Some-value_of-clause-none : goal.returns-in-Some-value_of-clause-none
returns-in-Some-value_of-clause-none c = none_told (option_map (λ r. r.now) c.args.row)
    c.in-Some.row.now c.in-Some-value_of.bytes.now (ap (option_map (λ r. r.now)) c.in-Some.is)
    c.in-Some-value_of.ensures.value c.family_of_bytes.result c.family_of_bytes.ensures.none
