use Rattle.alt_http.proofs.Fronts.{go_on_plain}
use Rattle.alt_http.proofs.reading.answer.Goals as goal

pub without_head-requires : goal.without_head-requires
without_head-requires c = go_on_plain c.args.bytes.now c.in-None.ensures
