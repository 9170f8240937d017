use Rattle.std.proofs.Common.{Ok, ap, subst, ◌∙◌}
use Rattle.httparse.specs.Outcome.{OnPartial}
use Rattle.httparse.specs.Grammar.{HasNoRequest, MayBecomeRequest}
use Rattle.alt_http.proofs.Fronts.{go_on}
use Rattle.alt_http.proofs.reading.read.Goals as goal

pub without_head-requires : goal.without_head-requires
without_head-requires c =
    let front = c.args.front.now in
    let partial = c.in-Ok-Partial.is ∙ ap Ok c.in-Ok-Partial.field-0-is in
    go_on c.args.bytes.now front c.requires (subst
    (λ (r : _). OnPartial r (HasNoRequest front)) partial c.parse_request.ensures.partial)
    (subst (λ (r : _). OnPartial r (MayBecomeRequest front)) partial
    c.parse_request.ensures.unfinished)
