-- The list ends before, or the page was the last, or its last item says where to go on.
use Rattle.std.proofs.Common.{◌++◌, ◌∷◌, [], true, sym, ap, subst, ◌∙◌, List, ℕ, None, Some, take, arith}
use Rattle.std.specs.Prelude.{not}
use Rattle.alt_due.specs.Due.{is_before}
use Rattle.alt_due.specs.Order.{spot_of}
use Rattle.alt_machine.specs.Walks.{items_between}
use Rattle.alt_ops_query.proofs.Described.{described, stored_at}
use Rattle.alt_schema.specs.declared.schema.TableSchema.{TableSchema}
use Rattle.alt_request.specs.TablesSeveral.{Every}
use Rattle.alt_ttl.specs.private.Foresight.{ForeseesPlaced, ForeseesFromNext}
use Rattle.alt_ttl.proofs.Searching.{page_none}
use Rattle.alt_ttl.proofs.Surveying.{surveyed_ended, surveyed_last, surveyed_on}
use Rattle.alt_value.specs.Tree.{Pair}
use Rattle.alt_ttl.proofs.survey.survey_page.Goals as goal

pub returns-then-ends_by-clause-known : goal.returns-then-ends_by-clause-known
returns-then-ends_by-clause-known g c s t stands at =
    surveyed_ended c.args.name.now t
    (stored_at (g.D.Disk.state c.args.disk.now) c.args.tables.now s stands c.args.name.now t at None
    (λ d e. tt)) c.args.from c.args.due.now
    (ap (λ (p : List ℕ). not (is_before c.args.due.now.end (spot_of c.args.name.now p)))
    (sym c.as_slice.ensures.same) ∙ sym c.if-ends_by.ensures)

pub returns-then-got-clause-known : goal.returns-then-got-clause-known
returns-then-got-clause-known g c s t stands at =
    let a = g.D.Disk.state c.args.disk.now in
    let name = c.args.name.now in
    let items : List (List Pair) = c.rows.new.out.items in
    let list : List (List Pair) = items_between t None c.args.from None true in
    surveyed_last name t (stored_at a c.args.tables.now s stands name t at None (λ d e. tt))
    c.args.from 64 items c.note_items.new.due
    (c.in-Ok.ensures.rows s t stands at ∙ ap (λ l. l ++ take 64 list) c.new-items.ensures.items)
    (subst (λ (d : TableSchema). Every (ForeseesPlaced d name c.note_items.new.due) items)
    (described a c.args.tables.now s stands name t at c.rows.new.self c.in-Some.schema.now
    c.in-Ok.ensures.only.catalog c.in-Some.ensures.table) c.in_ok-note_items.ensures.known)
    (omega (arith, c.if-got.true, c.len-got.ensures))

pub returns-in-Some-last-clause-known : goal.returns-in-Some-last-clause-known
returns-in-Some-last-clause-known g c s t stands at =
    let a = g.D.Disk.state c.args.disk.now in
    let name = c.args.name.now in
    let items : List (List Pair) = c.rows.new.out.items in
    let list : List (List Pair) = items_between t None c.args.from None true in
    subst (λ (p : List ℕ). ForeseesFromNext name t c.args.from c.note_items.new.due (Some p))
    (sym (c.in_ok-behind-in-Some-last.ensures
    ∙ ap (λ (p : List ℕ). p ++ 0 ∷ []) c.as_slice-in-Some-last.ensures.same))
    (surveyed_on name t (stored_at a c.args.tables.now s stands name t at None (λ d e. tt))
    c.args.from 64 items c.note_items.new.due
    (c.in-Ok.ensures.rows s t stands at ∙ ap (λ l. l ++ take 64 list) c.new-items.ensures.items)
    (subst (λ (d : TableSchema). Every (ForeseesPlaced d name c.note_items.new.due) items)
    (described a c.args.tables.now s stands name t at c.rows.new.self c.in-Some.schema.now
    c.in-Ok.ensures.only.catalog c.in-Some.ensures.table) c.in_ok-note_items.ensures.known)
    (omega arith) (omega (arith, c.if-got.false, c.len-got.ensures)) c.in-Ok.last
    c.in-Some-last.place (c.in-Ok.ensures.last s t stands at) c.in-Some-last.is)

pub returns-clause-known : goal.returns-clause-known
returns-clause-known g c s t stands at =
    let a = g.D.Disk.state c.args.disk.now in
    let list : List (List Pair) = items_between t None c.args.from None true in
    absurd (page_none c.args.name.now t 0
    (stored_at a c.args.tables.now s stands c.args.name.now t at None (λ d e. tt))
    c.args.from 64 c.rows.new.out.items
    (c.in-Ok.ensures.rows s t stands at ∙ ap (λ l. l ++ take 64 list) c.new-items.ensures.items)
    (omega arith) (omega (arith, c.if-got.false, c.len-got.ensures)) c.in-Ok.last
    (c.in-Ok.ensures.last s t stands at) c.in-None.is)
