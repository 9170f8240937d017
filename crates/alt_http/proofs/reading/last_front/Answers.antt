use Rattle.std.proofs.Common.{◌+◌, Some, None, List, ℕ, take, subst, sym}
use Rattle.alt_http.specs.Feeds.{LastLineFeedStandsAt, IsLastFront, IsPlain}
use Rattle.alt_http.proofs.Fronts.{last_feed, last_front}
use Rattle.alt_http.proofs.reading.last_front.Goals as goal

pub returns-in-Some : goal.returns-in-Some
returns-in-Some c =
    let bytes = c.args.bytes.now in
    let place = c.in-Some.place in
    let w = c.window-within.result.now in
    let ends : LastLineFeedStandsAt w place = last_feed w (Some place) c.in-Some.ensures in
    subst (λ (l : List ℕ). IsLastFront bytes (take (place + 1) l)) (sym c.window-within.ensures)
    (last_front bytes place (subst (λ (l : List ℕ). LastLineFeedStandsAt l place) c.window-within.ensures ends))

pub returns-in-None : goal.returns-in-None
returns-in-None c =
    let plain : IsPlain c.window-within.result.now =
    last_feed c.window-within.result.now None c.in-None.ensures in
    subst IsPlain c.window-within.ensures plain
