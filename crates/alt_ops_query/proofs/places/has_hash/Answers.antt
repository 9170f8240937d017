-- The value of the start key is the one that is asked for.
use Rattle.std.proofs.Common.{sym, ap, ◌∙◌, Some, option_map, true}
use Rattle.std.specs.Option.{option_map_or}
use Rattle.alt_expr.specs.Holds.{equal}
use Rattle.alt_expr.proofs.SameValues.{same-told}
use Rattle.alt_value.specs.Item.{at_name}
use Rattle.alt_value.specs.Stands.{tree_of}
use Rattle.alt_ops_query.proofs.places.has_hash.Goals as goal

pub returns-in-Some-get : goal.returns-in-Some-get
returns-in-Some-get c =
    same-told c.equal.result (tree_of c.in-Some-get.value.now) (tree_of c.in-Some.hash.now)
    c.equal.ensures.same
    ∙ ap (λ o. equal o (Some (tree_of c.in-Some.hash.now)))
    (c.in-Some-get.ensures.value ∙ ap (λ n. at_name n c.args.key.now) c.as_str.ensures.same)
    ∙ ap (λ o. option_map_or
    (λ v. equal (at_name c.args.attribute.now.name c.args.key.now) (Some (tree_of v)))
    (option_map (λ a. a.now) o) true) (sym c.in-Some.is)
