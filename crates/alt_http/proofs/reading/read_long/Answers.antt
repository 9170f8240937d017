use Rattle.std.proofs.Common.{◌<◌, ◌*◌, length, Ok, Err, ap, subst, refl, ◌∙◌, arith}
use Rattle.httparse.specs.Outcome.{OnPartial, OnInvalid}
use Rattle.httparse.specs.Grammar.{HasNoRequest, MayBecomeRequest, NeverHasRequest}
use Rattle.alt_http.specs.Judged.{by_bad}
use Rattle.alt_http.proofs.Fronts.{go_on, bad, enough_room}
use Rattle.alt_http.proofs.reading.read_long.Goals as goal

pub without_head-requires : goal.without_head-requires
without_head-requires c =
    let front = c.args.front.now in
    let partial = c.in-Ok-Partial.is ∙ ap Ok c.in-Ok-Partial.field-0-is in
    go_on c.args.bytes.now front c.requires (subst
    (λ (r : _). OnPartial r (HasNoRequest front)) partial c.parse_request.ensures.partial)
    (subst (λ (r : _). OnPartial r (MayBecomeRequest front)) partial
    c.parse_request.ensures.unfinished)

pub returns : goal.returns
returns c =
    let front = c.args.front.now in
    let room = length c.deref_mut.result.now in
    let enough : length front < room * 3 = let e = c.deref_mut.ensures.len in
    let n = c.in-Ok.ensures.len in omega (arith, e, n) in
    let never : NeverHasRequest front =
    subst (λ (r : _). OnInvalid r (NeverHasRequest front)) c.in-Err.is
    c.parse_request.ensures.invalid
    (λ many. enough_room front room enough (c.parse_request.ensures.too_many
    (c.in-Err.is ∙ ap Err many))) in
    by_bad (bad c.args.bytes.now front c.requires never) refl
