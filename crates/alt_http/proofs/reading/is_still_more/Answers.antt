use Rattle.std.proofs.Common.{Bool, true, false, subst}
use Rattle.std.specs.Bool.{OnTrue}
use Rattle.std.proofs.lemmas.List.{take_rest}
use Rattle.alt_http.specs.Feeds.{IsPlain}
use Rattle.alt_http.proofs.Answering.{scan_of-plain}
use Rattle.alt_http.proofs.reading.is_still_more.Goals as goal

on_true : (t : Bool) (P Q : Type 0) → (P → Q) → OnTrue t P → OnTrue t Q
on_true true P Q step holds = step holds
on_true false P Q step holds = tt

pub returns-then-bytes-lt-LONGEST_HEAD : goal.returns-then-bytes-lt-LONGEST_HEAD
returns-then-bytes-lt-LONGEST_HEAD c =
    let bytes = c.args.bytes.now in
    let seen = c.args.seen in
    on_true c.has_no_feed.result _ _
    (λ plain. scan_of-plain bytes seen (subst IsPlain (take_rest bytes seen) plain)
    c.if-bytes-lt-LONGEST_HEAD.true) c.has_no_feed.ensures
