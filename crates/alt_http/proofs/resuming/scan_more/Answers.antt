use Rattle.std.proofs.Common.{◌≡◌}
use Rattle.std.proofs.lemmas.Result.{IfOk-weaker}
use Rattle.alt_http.specs.Judged.{IsScan}
use Rattle.alt_http.specs.Reading.{scan_of}
use Rattle.alt_http.proofs.Answering.{is-scan_of}
use Rattle.alt_http.proofs.resuming.scan_more.Goals as goal

pub returns : goal.returns
returns c = IfOk-weaker c.resumed.result (IsScan c.args.bytes.now)
    (λ scan. scan ≡ scan_of c.args.bytes.now) (is-scan_of c.args.bytes.now) c.resumed.ensures
