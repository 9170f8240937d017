-- The brackets stand round the tokens of the tables.
use Rattle.std.proofs.Common.{ap, ◌∙◌, ◌++◌, ◌∷◌, []}
use Rattle.std.specs.List.{flat_map}
use Rattle.json.specs.Token as token
use Rattle.alt_shape.specs.Pieces.{table_tokens}
use Rattle.alt_shape.proofs.Pieces.{tables_written}
use Rattle.alt_shape.proofs.body.write_object.Goals as goal

pub returns-clause-written : goal.returns-clause-written
returns-clause-written c =
    c.in_ok-end_object.ensures.ok
    ∙ ap (λ ts. ts ++ token.end_object ∷ []) (c.in_ok-write_tables.ensures.written
    ∙ ap (λ ts. ts ++ flat_map table_tokens c.args.tables.now) c.in_ok-begin_object.ensures.ok)
    ∙ tables_written c.args.out.now.tokens c.args.tables.now
