-- A count that stands there is within the bytes.
use Rattle.alt_fields.proofs.Apart.{number_within}
use Rattle.alt_cellbytes.proofs.pieces.take_count.Goals as goal

pub split_at-requires : goal.split_at-requires
split_at-requires c = number_within c.args.bytes.now c.in-Ok.count c.in-Ok.end c.in-Ok.ensures.ok.0
    c.in-Ok.ensures.ok.1
