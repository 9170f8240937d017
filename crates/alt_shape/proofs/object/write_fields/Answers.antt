-- The brackets stand round the tokens of the fields.
use Rattle.std.proofs.Common.{ap, ◌∙◌, ◌++◌, ◌∷◌, []}
use Rattle.std.specs.List.{flat_map}
use Rattle.json.specs.Token as token
use Rattle.alt_shape.specs.ObjectPieces.{field_tokens}
use Rattle.alt_shape.proofs.ObjectPieces.{fields_written}
use Rattle.alt_shape.proofs.object.write_fields.Goals as goal

pub returns-clause-written : goal.returns-clause-written
returns-clause-written c =
    c.in_ok-end_object.ensures.ok
    ∙ ap (λ ts. ts ++ token.end_object ∷ []) (c.in_ok-fields_inside.ensures.written
    ∙ ap (λ ts. ts ++ flat_map field_tokens c.args.fields.now) c.in_ok-begin_object.ensures.ok)
    ∙ fields_written c.args.out.now.tokens c.args.fields.now
