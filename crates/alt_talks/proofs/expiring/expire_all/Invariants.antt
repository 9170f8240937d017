-- Some were made, and as many as are left may be.
use Rattle.std.proofs.Common.{◌≡◌, ◌-◌}
use Rattle.alt_disk.specs.Disk.{Goes}
use Rattle.alt_machine.specs.State.{State}
use Rattle.alt_tables.specs.Stands.{Stands, bounds_of}
use Rattle.alt_talks.proofs.Expired.{AreExpired}
use Rattle.alt_talks.proofs.expiring.expire_all.Given as goal

abbrev pub invariant-rounds : goal.invariant-rounds
invariant-rounds g l =
    let state = g.D.Disk.state in
    ((s : State) → Stands (state l.initial.disk) l.initial.tables s
    → AreExpired (state l.initial.disk) (state l.disk) l.tables l.moment l.most
    (l.most - l.counter) s)
    × (bounds_of l.tables ≡ bounds_of l.initial.tables)
    × Goes (state l.initial.disk) (state l.disk)
