use Rattle.std.proofs.Common.{◌≡◌, IfOk, subst, ◌∙◌}
use Rattle.httpdate.specs.Date.{unix_secs}
use Rattle.alt_http.proofs.Dating.{date_same}
use Rattle.alt_http.proofs.replying.date.Goals as goal

pub returns : goal.returns
returns c =
    c.to_bytes.ensures ∙ date_same c.unwrap.result c.args.moment c.requires
    (subst (λ (r : _). IfOk r (λ d. unix_secs d ≡ c.args.moment)) c.unwrap.ensures
    c.from_unix_secs.ensures.value)
