-- The four parts of an index, one behind another.
use Rattle.std.proofs.lemmas.Result.{on_ok_weaker}
use Rattle.std.specs.Int.{w32, to_be_bytes}
use Rattle.alt_fields.specs.Field.{field}
use Rattle.alt_schemabytes.specs.Format.{keys_bytes, projection_bytes}
use Rattle.alt_schemabytes.proofs.Pieces.{four_pieces}
use Rattle.alt_schemabytes.proofs.format.put_index.Goals as goal

pub returns-clause-appended : goal.returns-clause-appended
returns-clause-appended c =
    on_ok_weaker c.put_projection.result
    (four_pieces c.args.out.now.items _ _ _ _ (field c.args.index.now.name)
    (to_be_bytes w32 c.args.index.now.family)
    (keys_bytes c.args.index.now.hash c.args.index.now.range)
    (projection_bytes c.args.index.now.projection)
    c.in_ok-put_text.ensures.appended c.in_ok-put_u32.ensures.ok c.in_ok-put_keys.ensures.appended)
    c.put_projection.ensures.appended
