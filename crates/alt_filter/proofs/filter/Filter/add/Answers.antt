-- Each of the three bits is set, and none is cleared.
use Rattle.alt_filter.specs.Filters.{Holds, IsSet, places}
use Rattle.alt_filter.proofs.Kept.{set_on, all_on}
use Rattle.alt_filter.proofs.filter.Filter.add.Goals as goal

pub returns-clause-kept : goal.returns-clause-kept
unfolding Holds
returns-clause-kept c = λ before holds.
    all_on (IsSet c.args.self.now) (IsSet c.set-3.new.self) (λ p there.
    set_on c.set-2.new.self c.set-3.new.self c.set-3.ensures.same c.set-3.ensures.other p
    (set_on c.set.new.self c.set-2.new.self c.set-2.ensures.same c.set-2.ensures.other p
    (set_on c.args.self.now c.set.new.self c.set.ensures.same c.set.ensures.other p there)))
    (places before) holds
