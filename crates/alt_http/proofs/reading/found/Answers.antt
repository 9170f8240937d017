use Rattle.std.proofs.lemmas.Result.{IfOk-weaker}
use Rattle.alt_http.specs.Judged.{IsScan}
use Rattle.alt_http.proofs.Laws.{found_head}
use Rattle.alt_http.proofs.reading.found.Goals as goal

pub returns : goal.returns
returns c =
    IfOk-weaker c.judge.result _ (IsScan c.args.bytes.now)
    (λ scan is. found_head c.args.bytes.now c.args.front.now c.args.headers.now c.args.head scan
    c.requires.last.is_front c.requires.reads is) c.judge.ensures
