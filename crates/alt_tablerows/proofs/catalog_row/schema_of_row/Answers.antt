-- The row of a description whose indexes are whole, or of one with the cell.
use Rattle.std.proofs.Common.{◌≡◌, sym, ap, subst, ◌∙◌, T, ◌∷◌, Err}
use Rattle.std.specs.FinMap.{entries_sorted}
use Rattle.std.specs.FinMap.Entries.{is_sorted}
use Rattle.std.specs.Prelude.{codes}
use Rattle.std.specs.Result.{IsErrAnd}
use Rattle.alt_cells.specs.Keys.{key_cmp}
use Rattle.alt_tablerows.proofs.BuiltRows.{if_both, no_plain, row_built_up, row_whole, same_bare, told_by_row}
use Rattle.alt_tablerows.proofs.CellRows.{sorted_behind}
use Rattle.alt_tablerows.proofs.catalog_row.schema_of_row.Goals as goal

pub returns-in_default-clause-schema : goal.returns-in_default-clause-schema
returns-in_default-clause-schema c = if_both _ _ _ c.plain_schema.result
    (λ d is whole. let r = row_whole c.args.row.now d whole is.2 in (is.0, is.1, r.0, r.1))
    c.plain_schema.ensures.schema c.plain_schema.ensures.whole

pub returns-in_default-clause-none : goal.returns-in_default-clause-none
returns-in_default-clause-none c bad d is held built own same =
    no_plain c.args.row.now d c.in_default.ensures.none
    (λ plain. c.plain_schema.ensures.none bad d is held plain) same

pub row_of_columns-requires : goal.row_of_columns-requires
row_of_columns-requires c = record {
  rise = sorted_behind (codes "b", c.in-Some.cell.now) c.in-Some.columns.now
      (subst (λ es. T (is_sorted key_cmp es)) c.in-Some.ensures.parts
      (entries_sorted c.args.row.now));
}

pub returns-in_err-schema-clause-none : goal.returns-in_err-schema-clause-none
returns-in_err-schema-clause-none c bad d is held built own same =
    let told = told_by_row c.args.row.now c.in_ok-rest.rest d c.in-Some.cell.now
    (c.in-Some.ensures.parts
    ∙ ap (λ es. (codes "b", c.in-Some.cell.now) ∷ es) (sym c.in_ok-rest.ensures.row)) same in
    c.plain_schema-2.ensures.none
    (c.in_err-schema.was ∙ ap Err (sym (subst (λ r. IsErrAnd r (λ e. e ≡ c.in_err-schema.field-0.0))
    bad c.from_residual-in_err-schema.ensures.1)))
    d is held told.1

pub returns-in_err-built-clause-none : goal.returns-in_err-built-clause-none
returns-in_err-built-clause-none c bad d is held built own same =
    let told = told_by_row c.args.row.now c.in_ok-rest.rest d c.in-Some.cell.now
    (c.in-Some.ensures.parts
    ∙ ap (λ es. (codes "b", c.in-Some.cell.now) ∷ es) (sym c.in_ok-rest.ensures.row)) same in
    let read = c.in_ok-schema.ensures.schema in
    c.built_up.ensures.none
    (c.in_err-built.was ∙ ap Err (sym (subst (λ r. IsErrAnd r (λ e. e ≡ c.in_err-built.field-0.0))
    bad c.from_residual-in_err-built.ensures.1)))
    d held built own
    (same_bare c.in_ok-rest.rest c.in_ok-schema.schema d read.0 read.1 is held read.2 told.1) told.0

pub returns-clause-schema : goal.returns-clause-schema
returns-clause-schema c =
    let read = c.in_ok-schema.ensures.schema in
    let r = row_built_up c.args.row.now c.in_ok-rest.rest c.in_ok-schema.schema c.in_ok-built.built
    c.in-Some.cell.now
    (c.in-Some.ensures.parts
    ∙ ap (λ es. (codes "b", c.in-Some.cell.now) ∷ es) (sym c.in_ok-rest.ensures.row))
    read.2 read.0 c.in_ok-built.ensures.built.1 c.in_ok-built.ensures.same.0
    c.in_ok-built.ensures.same.1 in
    (r.0, c.held.ensures.held, c.in_ok-built.ensures.built.0, r.1)
