-- The brackets stand round the tokens of the entries.
use Rattle.std.proofs.Common.{ap, ◌∙◌, ◌++◌, ◌∷◌, []}
use Rattle.std.specs.List.{flat_map}
use Rattle.json.specs.Token as token
use Rattle.alt_shape.specs.ObjectPieces.{entry_tokens}
use Rattle.alt_shape.proofs.ObjectPieces.{entries_written}
use Rattle.alt_shape.proofs.object.write_entries.Goals as goal

pub returns-clause-written : goal.returns-clause-written
returns-clause-written c =
    c.in_ok-end_object.ensures.ok
    ∙ ap (λ ts. ts ++ token.end_object ∷ []) (c.in_ok-entries_inside.ensures.written
    ∙ ap (λ ts. ts ++ flat_map entry_tokens c.args.entries.now) c.in_ok-begin_object.ensures.ok)
    ∙ entries_written c.args.out.now.tokens c.args.entries.now
