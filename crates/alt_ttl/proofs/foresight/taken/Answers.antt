-- The list of the tables, or another one.
use Rattle.std.proofs.Common.{sym, subst}
use Rattle.alt_request.specs.TablesForeseen.{Foresees}
use Rattle.alt_request.proofs.TablesForeseen.{foresees_nothing}
use Rattle.alt_request.proofs.TablesLooking.{only_nothing}
use Rattle.alt_ttl.proofs.Ripening.{exchanged}
use Rattle.alt_ttl.proofs.foresight.taken.Goals as goal

pub returns-then-covers-clause-known : goal.returns-then-covers-clause-known
returns-then-covers-clause-known g c s stands =
    subst (Foresees s.tables) (sym c.exchange_due.ensures.due) stands.due

pub returns-then-covers-clause-only : goal.returns-then-covers-clause-only
returns-then-covers-clause-only g c = exchanged c.new.result c.requires.ready
    (only_nothing (g.D.Disk.state c.args.disk.now) c.args.tables.now)
    c.exchange_due.ensures.catalog c.exchange_due.ensures.stands
    (λ s stands. foresees_nothing s.tables c.new.result c.new.ensures.none)
