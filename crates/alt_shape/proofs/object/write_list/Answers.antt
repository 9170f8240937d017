-- The brackets stand round the tokens of the objects.
use Rattle.std.proofs.Common.{ap, ◌∙◌, ◌++◌, ◌∷◌, []}
use Rattle.std.specs.List.{flat_map}
use Rattle.json.specs.Token as token
use Rattle.alt_shape.specs.ObjectPieces.{object_tokens}
use Rattle.alt_shape.proofs.ObjectPieces.{objects_written}
use Rattle.alt_shape.proofs.object.write_list.Goals as goal

pub returns-clause-written : goal.returns-clause-written
returns-clause-written c =
    c.in_ok-end_array.ensures.ok
    ∙ ap (λ ts. ts ++ token.end_array ∷ []) (c.in_ok-write_objects.ensures.written
    ∙ ap (λ ts. ts ++ flat_map object_tokens c.args.objects.now) c.in_ok-begin_array.ensures.ok)
    ∙ objects_written c.args.out.now.tokens c.args.objects.now
