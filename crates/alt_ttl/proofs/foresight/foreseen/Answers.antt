-- Nothing is due, or the list tells, or it doesn't.
use Rattle.std.proofs.Common.{◌≡◌, sym, subst, ◌∙◌, rules}
use Rattle.alt_due.specs.Due.{NoneDue}
use Rattle.alt_due.specs.declared.due.Due.{Due}
use Rattle.alt_machine.specs.Expiry.{expiring}
use Rattle.alt_request.proofs.TablesForeseen.{foresees_on}
use Rattle.alt_request.proofs.TablesLooking.{fails_then, only_then, ready_only}
use Rattle.alt_request.specs.TablesStands.{catalog_of, due_of}
use Rattle.alt_ttl.specs.private.Searched.{StandingTablesAreThere}
use Rattle.alt_ttl.proofs.Ripening.{exchanged, none_expiring, some_of}
use Rattle.alt_ttl.proofs.foresight.foreseen.Goals as goal

pub returns-then-due_none-clause-standings : goal.returns-then-due_none-clause-standings
returns-then-due_none-clause-standings g c s stands = c.new.ensures.items
    ∙ sym (none_expiring s (due_of c.args.tables.now) c.args.moment (search rules) stands.due
    (subst (λ (d : Due). NoneDue d c.args.moment) c.due.ensures.due (c.due_none.ensures.0 c.if-due_none.true)))

pub returns-then-due_none-clause-named : goal.returns-then-due_none-clause-named
returns-then-due_none-clause-named g c =
    subst (StandingTablesAreThere (catalog_of c.args.tables.now)) (sym c.new.ensures.items) tt

pub ripe-requires-clause-ready : goal.ripe-requires-clause-ready
ripe-requires-clause-ready g c = ready_only c.taken.ensures.only c.requires.ready

pub returns-in-Ok-Some-clause-standings : goal.returns-in-Ok-Some-clause-standings
returns-in-Ok-Some-clause-standings g c s stands =
    some_of _ c.in-Ok-Some.standings c.in-Ok-Some.field-0-is
    (λ v. v.items ≡ expiring s c.args.moment)
    (c.in-Ok-Some.ensures.standings s ((c.taken.ensures.only.stays s).0 stands)
    (foresees_on s.tables c.in-Ok.due c.advance.new.self c.advance.ensures.keeps
    (c.in-Ok.ensures.known s stands)))

pub returns-in-Ok-Some-clause-only : goal.returns-in-Ok-Some-clause-only
returns-in-Ok-Some-clause-only g c = exchanged c.ripe.new.due c.requires.ready
    (only_then c.taken.ensures.only c.ripe.ensures.only) c.exchange_due-empty.ensures.catalog
    c.exchange_due-empty.ensures.stands
    (λ s stands. c.in-Ok-Some.ensures.known s ((c.taken.ensures.only.stays s).0 stands)
    (foresees_on s.tables c.in-Ok.due c.advance.new.self c.advance.ensures.keeps
    (c.in-Ok.ensures.known s stands)))

pub returns-in-Ok-None-clause-only : goal.returns-in-Ok-None-clause-only
returns-in-Ok-None-clause-only g c = only_then c.taken.ensures.only c.ripe.ensures.only

pub returns-in-Err-ripe-clause-only : goal.returns-in-Err-ripe-clause-only
returns-in-Err-ripe-clause-only g c = only_then c.taken.ensures.only c.ripe.ensures.only

pub returns-in-Err-ripe-clause-fails : goal.returns-in-Err-ripe-clause-fails
returns-in-Err-ripe-clause-fails g c = fails_then c.taken.ensures.only c.in-Err-ripe.ensures.fails
