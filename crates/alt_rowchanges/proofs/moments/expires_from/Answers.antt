-- The table's attribute tells the time.
use Rattle.std.proofs.Common.{◌≡◌, sym, subst, rules, false, Some}
use Rattle.std.specs.Option.{option_map_or}
use Rattle.std.specs.Prelude.{option_and_then}
use Rattle.alt_machine.specs.Expiry.{is_over}
use Rattle.alt_rowchanges.specs.Moments.{IsMetFrom}
use Rattle.alt_value.specs.Item.{at_name}
use Rattle.alt_value.specs.Stands.{tree_of}
use Rattle.alt_rowchanges.proofs.moments.expires_from.Goals as goal

pub returns-in-Some-get : goal.returns-in-Some-get
returns-in-Some-get c =
    let found : option_and_then (λ name. at_name name c.args.item.now) c.args.schema.now.ttl
    ≡ Some (tree_of c.in-Some-get.value.now) = search rules in
    subst (λ o. IsMetFrom (λ moment. option_map_or (is_over moment) o false)
    c.is_over_from.result) (sym found) c.is_over_from.ensures
