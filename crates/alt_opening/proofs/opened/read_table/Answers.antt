-- The next row is that of a table, or the first wrong one, or there is none.
use Rattle.std.proofs.Common.{ap, subst, ◌∙◌, ◌++◌, ◌∷◌, [], Err}
use Rattle.alt_opening.specs.Scans.{IsFirstFrom, IsNextRow}
use Rattle.alt_opening.specs.StateRows.{catalog_family}
use Rattle.alt_opening.proofs.Ahead.{ahead_then}
use Rattle.alt_opening.proofs.CatalogSteps.{step_none, step_wrong, step_more}
use Rattle.alt_opening.proofs.Recovering.{number_within}
use Rattle.alt_opening.proofs.TableSteps.{device_fault}
use Rattle.alt_opening.proofs.opened.read_table.Goals as goal

pub returns-in-Ok-None-clause-read : goal.returns-in-Ok-None-clause-read
returns-in-Ok-None-clause-read g c tells l reads had so_far =
    step_none l (number_within (g.D.Disk.state c.args.disk.now) c.args.engine.now l reads)
    c.args.family c.args.catalog.now c.args.from.now so_far
    (subst (IsNextRow l catalog_family c.args.from.now) c.in-Ok-None.field-0-is
    (c.in-Ok-None.ensures.row tells l reads had))

pub returns-in-Err-Bad-clause-wrong : goal.returns-in-Err-Bad-clause-wrong
returns-in-Err-Bad-clause-wrong g c tells l reads had so_far =
    let first : IsFirstFrom l catalog_family c.args.from.now c.in-Ok-Some.next.0
    c.in-Ok-Some.next.1 = subst (IsNextRow l catalog_family c.args.from.now)
    c.in-Ok-Some.field-0-is (c.in-Ok-Some.ensures.row tells l reads had) in
    step_wrong l (number_within (g.D.Disk.state c.args.disk.now) c.args.engine.now l reads)
    c.args.family c.args.catalog.now c.args.from.now so_far c.in-Ok-Some.next.0
    c.in-Ok-Some.next.1 first c.next_number-number.result
    (c.next_number-number.ensures.layout (g.D.Disk.state c.args.disk.now) l reads)
    (c.in-Err-Bad.ensures.none (ap (λ f. Err f) c.in-Err-Bad.field-0-is))

pub returns-in-Ok-key_after-clause-read : goal.returns-in-Ok-key_after-clause-read
returns-in-Ok-key_after-clause-read g c tells l reads had so_far =
    let first : IsFirstFrom l catalog_family c.args.from.now c.in-Ok-Some.next.0
    c.in-Ok-Some.next.1 = subst (IsNextRow l catalog_family c.args.from.now)
    c.in-Ok-Some.field-0-is (c.in-Ok-Some.ensures.row tells l reads had) in
    let added = c.in-Ok.ensures.added in
    step_more l (number_within (g.D.Disk.state c.args.disk.now) c.args.engine.now l reads)
    c.args.family c.args.catalog.now c.args.from.now so_far c.in-Ok-Some.next.0
    c.in-Ok-Some.next.1 first c.next_number-number.result
    (c.next_number-number.ensures.layout (g.D.Disk.state c.args.disk.now) l reads)
    added.0 added.1 c.add_table.new.catalog added.2 c.in-Ok-key_after.after
    (c.in-Ok-key_after.ensures ∙ ap (λ k. k ++ 0 ∷ []) c.as_slice.ensures.same)

pub returns-in-Err-clause-wrong : goal.returns-in-Err-clause-wrong
returns-in-Err-clause-wrong g c tells l reads had so_far =
    device_fault l c.in-Err.fault (c.in-Err.ensures.fault tells l reads)

pub returns-in-Ok-key_after-clause-ahead : goal.returns-in-Ok-key_after-clause-ahead
returns-in-Ok-key_after-clause-ahead g c tells l reads had =
    ahead_then l catalog_family c.in-Ok-Some.field-0 c.in-Ok-Some.next c.next_row.new.ahead.items
    c.in-Ok-Some.field-0-is (c.in-Ok-Some.ensures.ahead tells l reads had) c.in-Ok-key_after.after
    (c.in-Ok-key_after.ensures ∙ ap (λ k. k ++ 0 ∷ []) c.as_slice.ensures.same)
