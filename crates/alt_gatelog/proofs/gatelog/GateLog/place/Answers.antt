-- The list of places has the entry's.
use Rattle.std.proofs.Common.{◌<◌, length, ◌∙◌, arith}
use Rattle.std.proofs.lemmas.Grind.{get_or_default_zero}
use Rattle.alt_gatelog.proofs.Places.{place_is}
use Rattle.alt_gatelog.proofs.gatelog.GateLog.place.Goals as goal

pub returns : goal.returns
returns c s entries reads =
    let log = c.args.self.now in
    let i = c.args.i in
    let less : i < length log.places.items = omega (arith, c.requires) in
    c.index.ensures ∙ get_or_default_zero log.places.items i c.index.result.now less
    ∙ place_is log.form s log.file log.gate log.places.items entries reads i less
