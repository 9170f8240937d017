-- A description that may not stand there is the only one with that row.
use Rattle.std.proofs.Common.{◌≡◌, sym, subst, ◌∙◌, IsTrue}
use Rattle.std.proofs.lemmas.Bool.{false≢true}
use Rattle.alt_opening.specs.private.Opening.{TableMayStand}
use Rattle.alt_tablerows.proofs.OneDescription.{one_table_row}
use Rattle.alt_opening.proofs.opened.test_table.Goals as goal

pub returns-else-branch-clause-none : goal.returns-else-branch-clause-none
returns-else-branch-clause-none c bad d is =
    let read = c.in_ok-schema.ensures.schema in
    let same : d ≡ c.in_ok-schema.schema = one_table_row d c.in_ok-schema.schema
    is.may.good.made.whole is.may.good.held is.may.good.made.built is.may.good.differ read.0
    read.1 read.2 (sym is.row ∙ read.3) in
    let may : IsTrue c.in_ok-may_stand.field-0 = c.in_ok-may_stand.ensures.may.1
    (subst (TableMayStand c.args.number c.args.family c.args.catalog.now c.args.name.now) same
    is.may) in
    false≢true (sym c.if-branch.false ∙ may)
