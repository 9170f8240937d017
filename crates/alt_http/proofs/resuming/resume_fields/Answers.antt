use Rattle.std.proofs.Common.{rules, Ok, ◌-◌, length, take, drop, ap, subst, ◌∙◌}
use Rattle.std.proofs.lemmas.List.{take_rest}
use Rattle.httparse.specs.Outcome.{OnPartial}
use Rattle.httparse.specs.Grammar.{HasNoSection, MayBecomeSection, NeverHasSection}
use Rattle.alt_http.proofs.Continuing.{fields_on, fields_bad}
use Rattle.alt_http.proofs.resuming.resume_fields.Goals as goal

pub without_head-requires : goal.without_head-requires
without_head-requires c =
    let front = c.args.front.now in
    let before = c.args.before in
    let new = take_rest front before in
    let cut = take (length front - before) (drop before front) in
    let partial = c.in-Ok-Partial.is ∙ ap Ok c.in-Ok-Partial.field-0-is in
    fields_on c.args.bytes.now front before c.requires.resumed c.requires.within
    (subst HasNoSection new (subst (λ (r : _). OnPartial r (HasNoSection cut)) partial
    c.parse_headers.ensures.partial))
    (subst MayBecomeSection new (subst (λ (r : _). OnPartial r (MayBecomeSection cut)) partial
    c.parse_headers.ensures.unfinished))

pub returns-in-Err : goal.returns-in-Err
returns-in-Err c =
    let front = c.args.front.now in
    let before = c.args.before in
    fields_bad c.args.bytes.now front before c.requires.resumed c.requires.within
    (subst NeverHasSection (take_rest front before) (c.in-Err.ensures.invalid (search rules)))
