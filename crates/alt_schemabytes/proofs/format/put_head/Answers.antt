-- The four parts of a head, one behind another.
use Rattle.std.proofs.lemmas.Result.{on_ok_weaker}
use Rattle.std.specs.Int.{w32, w64, to_be_bytes}
use Rattle.alt_fields.specs.Field.{field}
use Rattle.alt_schemabytes.proofs.Pieces.{four_pieces}
use Rattle.alt_schemabytes.proofs.format.put_head.Goals as goal

pub returns-clause-appended : goal.returns-clause-appended
returns-clause-appended c =
    on_ok_weaker c.put_u32.result
    (four_pieces c.args.out.now.items _ _ _ _ (field c.args.s.now.name)
    (to_be_bytes w64 c.args.s.now.created) (to_be_bytes w64 c.args.s.now.number)
    (to_be_bytes w32 c.args.s.now.family)
    c.in_ok-put_text.ensures.appended c.in_ok-put_u64.ensures.ok c.in_ok-put_u64-2.ensures.ok)
    c.put_u32.ensures.ok
