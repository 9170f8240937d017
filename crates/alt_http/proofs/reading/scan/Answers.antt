use Rattle.std.proofs.Common.{◌≡◌, [], List, ℕ, subst}
use Rattle.std.proofs.lemmas.Result.{IfOk-weaker}
use Rattle.alt_http.specs.declared.outcome.Scan.TheVariants.{More}
use Rattle.alt_http.specs.Judged.{IsScan, ScanStays, LiesIn}
use Rattle.alt_http.specs.Reading.{scan_of}
use Rattle.alt_http.proofs.Answering.{is-scan_of}
use Rattle.alt_http.proofs.Laws.{IsScan_unique, IsScan_nothing, IsScan_final, IsScan_within}
use Rattle.alt_http.proofs.reading.scan.Goals as goal

pub returns-clause-nothing : goal.returns-clause-nothing
returns-clause-nothing c none =
    IfOk-weaker c.answer.result (IsScan c.args.bytes.now) (λ s. s ≡ More)
    (λ s is. IsScan_unique [] s More (subst (λ (l : List ℕ). IsScan l s) none is) IsScan_nothing)
    c.answer.ensures

pub returns-clause-stays : goal.returns-clause-stays
returns-clause-stays c = IfOk-weaker c.answer.result (IsScan c.args.bytes.now)
    (ScanStays c.args.bytes.now) (IsScan_final c.args.bytes.now) c.answer.ensures

pub returns-clause-within : goal.returns-clause-within
returns-clause-within c = IfOk-weaker c.answer.result (IsScan c.args.bytes.now)
    (LiesIn c.args.bytes.now) (IsScan_within c.args.bytes.now) c.answer.ensures

pub returns-clause-answer : goal.returns-clause-answer
returns-clause-answer c = IfOk-weaker c.answer.result (IsScan c.args.bytes.now)
    (λ s. s ≡ scan_of c.args.bytes.now) (is-scan_of c.args.bytes.now) c.answer.ensures
