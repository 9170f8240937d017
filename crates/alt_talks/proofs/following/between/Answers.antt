-- Nothing follows but behind every 64th connection, and nothing there where no moment was told.
use Rattle.std.proofs.Common.{◌≡◌, ◌∙◌, ℕ, Option, sym, ap, subst, None, arith}
use Rattle.std.specs.Prelude.{OnOk, IfErr}
use Rattle.alt_disk.specs.Disk.{DiskState}
use Rattle.alt_machine.specs.Outcomes.{last_state}
use Rattle.alt_tables.specs.Stands.{Stands, bounds_of}
use Rattle.alt_talks.specs.Own.{BetweenNot, Own, own_between}
use Rattle.alt_talks.specs.Works.{Follows}
use Rattle.alt_talks.proofs.Owning.{follows_none, expiries_between, none_between, none_told}
use Rattle.alt_talks.proofs.following.between.Goals as goal

pub returns-then-number-ne0-clause-stands : goal.returns-then-number-ne0-clause-stands
returns-then-number-ne0-clause-stands g c = λ s stands.
    subst (λ (o : Own). Stands (g.D.Disk.state c.args.disk.now) c.args.tables.now (last_state s o.atoms))
    (sym (none_between c.args.number c.args.moment s (grind (arith, c.if-number-ne0.true)))) stands

pub returns-then-number-ne0-clause-follows : goal.returns-then-number-ne0-clause-follows
returns-then-number-ne0-clause-follows g c = λ s stands.
    let a : DiskState = g.D.Disk.state c.args.disk.now in
    subst (λ (o : Own). Follows a a s o.atoms) (sym (none_between c.args.number c.args.moment s (grind (arith, c.if-number-ne0.true))))
    (follows_none a c.args.tables.now s stands)

pub returns-then-number-ne0-clause-enough : goal.returns-then-number-ne0-clause-enough
returns-then-number-ne0-clause-enough g c = λ s stands. ap (λ (o : Own). o.lacks) (none_between c.args.number c.args.moment s (grind (arith, c.if-number-ne0.true)))

pub returns-in-None-clause-stands : goal.returns-in-None-clause-stands
returns-in-None-clause-stands g c = λ s stands.
    subst (λ (o : Own). Stands (g.D.Disk.state c.args.disk.now) c.args.tables.now (last_state s o.atoms))
    (sym (ap (λ (m : Option ℕ). own_between c.args.number m s) c.in-None.is ∙ none_told c.args.number s)) stands

pub returns-in-None-clause-follows : goal.returns-in-None-clause-follows
returns-in-None-clause-follows g c = λ s stands.
    let a : DiskState = g.D.Disk.state c.args.disk.now in
    subst (λ (o : Own). Follows a a s o.atoms) (sym (ap (λ (m : Option ℕ). own_between c.args.number m s) c.in-None.is ∙ none_told c.args.number s))
    (follows_none a c.args.tables.now s stands)

pub returns-in-None-clause-enough : goal.returns-in-None-clause-enough
returns-in-None-clause-enough g c = λ s stands. ap (λ (o : Own). o.lacks) (ap (λ (m : Option ℕ). own_between c.args.number m s) c.in-None.is ∙ none_told c.args.number s)

pub returns-in-Some-clause-stands : goal.returns-in-Some-clause-stands
returns-in-Some-clause-stands g c = λ s stands.
    subst (λ (o : Own). OnOk c.expire_all.result (Stands (g.D.Disk.state c.expire_all.new.disk) c.expire_all.new.tables
    (last_state s o.atoms))) (sym (ap (λ (m : Option ℕ). own_between c.args.number m s) c.in-Some.is ∙ expiries_between c.args.number c.in-Some.moment s (grind (arith, c.if-number-ne0.false)))) (c.expire_all.ensures.stands s stands)

pub returns-in-Some-clause-follows : goal.returns-in-Some-clause-follows
returns-in-Some-clause-follows g c = λ s stands.
    subst (λ (o : Own). Follows (g.D.Disk.state c.args.disk.now) (g.D.Disk.state c.expire_all.new.disk) s o.atoms)
    (sym (ap (λ (m : Option ℕ). own_between c.args.number m s) c.in-Some.is ∙ expiries_between c.args.number c.in-Some.moment s (grind (arith, c.if-number-ne0.false)))) (c.expire_all.ensures.follows s stands)

pub returns-in-Some-clause-enough : goal.returns-in-Some-clause-enough
returns-in-Some-clause-enough g c = λ s stands.
    subst (λ (o : Own). OnOk c.expire_all.result (o.lacks ≡ None)) (sym (ap (λ (m : Option ℕ). own_between c.args.number m s) c.in-Some.is ∙ expiries_between c.args.number c.in-Some.moment s (grind (arith, c.if-number-ne0.false)))) (c.expire_all.ensures.enough s stands)

pub returns-in-Some-clause-fault : goal.returns-in-Some-clause-fault
returns-in-Some-clause-fault g c = λ s stands.
    subst (λ (o : Own). IfErr c.expire_all.result (BetweenNot (bounds_of c.args.tables.now).file o)) (sym (ap (λ (m : Option ℕ). own_between c.args.number m s) c.in-Some.is ∙ expiries_between c.args.number c.in-Some.moment s (grind (arith, c.if-number-ne0.false))))
    (c.expire_all.ensures.fault s stands)
