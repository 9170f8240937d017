-- What was found stands at the key, and is no larger than an item may be.
use Rattle.std.proofs.Common.{◌≡◌, sym, subst, ◌∙◌, ◌+◌, Some, OnOk}
use Rattle.std.specs.Option.{option_map_or}
use Rattle.alt_machine.specs.Ops.BatchGetItem.{found_at}
use Rattle.alt_ops_batch.specs.private.Readings.{ShowsMore}
use Rattle.alt_ops_batch.proofs.Showing.{found_is, found_fits}
use Rattle.alt_value.specs.Size.{item_size}
use Rattle.alt_ops_batch.proofs.reading.read_key.Goals as goal

pub returns-in-Some-clause-shown : goal.returns-in-Some-clause-shown
returns-in-Some-clause-shown g c s stands =
    let is : found_at s c.args.key ≡ Some c.in-Some.item =
    found_is (g.D.Disk.state c.args.disk.now) c.args.tables.now s stands c.args.key c.requires.there
    c.as_str.result.now c.as_str.ensures.same c.in_ok-found.found c.in_ok-found.ensures.place
    (c.in_ok-found.ensures.item s stands) ∙ c.in-Some.is in
    subst (λ o. OnOk c.show.result
    (ShowsMore c.args.projection.now o c.args.items.now.items c.show.new.items.items)) (sym is)
    c.show.ensures.shown

pub returns-in-Some-clause-size : goal.returns-in-Some-clause-size
returns-in-Some-clause-size g c s stands =
    let is : found_at s c.args.key ≡ Some c.in-Some.item =
    found_is (g.D.Disk.state c.args.disk.now) c.args.tables.now s stands c.args.key c.requires.there
    c.as_str.result.now c.as_str.ensures.same c.in_ok-found.found c.in_ok-found.ensures.place
    (c.in_ok-found.ensures.item s stands) ∙ c.in-Some.is in
    subst (λ o. OnOk c.show.result (c.show.new.size
    ≡ c.args.size.now + option_map_or item_size o 0))
    (sym is)
    (c.show.ensures.size (found_fits (g.D.Disk.state c.args.disk.now) c.args.tables.now s stands
    c.args.key c.requires.there c.as_str.result.now c.as_str.ensures.same c.in_ok-found.found
    c.in_ok-found.ensures.place (c.in_ok-found.ensures.item s stands) c.in-Some.item c.in-Some.is))
