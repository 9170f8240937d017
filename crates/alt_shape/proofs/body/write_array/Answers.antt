-- The brackets stand round the tokens of the items.
use Rattle.std.proofs.Common.{ap, ◌∙◌, ◌++◌, ◌∷◌, []}
use Rattle.std.specs.List.{flat_map}
use Rattle.json.specs.Token as token
use Rattle.alt_shape.specs.Pieces.{item_tokens}
use Rattle.alt_shape.proofs.Pieces.{array_written}
use Rattle.alt_shape.proofs.body.write_array.Goals as goal

pub returns-clause-written : goal.returns-clause-written
returns-clause-written c =
    c.in_ok-end_array.ensures.ok
    ∙ ap (λ ts. ts ++ token.end_array ∷ []) (c.in_ok-write_items.ensures.written
    ∙ ap (λ ts. ts ++ flat_map item_tokens c.args.items.now) c.in_ok-begin_array.ensures.ok)
    ∙ array_written c.args.out.now.tokens c.args.items.now
