-- The number of a row's key says what the row has to be.
use Rattle.std.proofs.Common.{◌≡◌, ◌∙◌, inl, sym, ap, rules, arith}
use Rattle.std.proofs.lemmas.Bool.{false≢true}
use Rattle.std.proofs.lemmas.Result.{on_ok_weaker}
use Rattle.alt_changes.specs.ChangeRows.{row_key}
use Rattle.alt_tablerows.proofs.StreamTests.{kept_behind, no_number, none_at_zero, none_behind}
use Rattle.alt_tablerows.proofs.stream_row.test_row.Goals as goal

pub returns-in_default-clause-none : goal.returns-in_default-clause-none
returns-in_default-clause-none c bad = no_number c.args.schema.now c.args.next c.args.trimmed
    c.args.key.now c.args.row.now (search rules) (λ n small at.
    let no = c.in_default.ensures.none n small (c.as_slice.ensures.same ∙ at) in
    let f : ⊥ = cc in f)

pub returns-then-tells_trimmed-clause-row : goal.returns-then-tells_trimmed-clause-row
returns-then-tells_trimmed-clause-row c =
    let none : c.in-Some.number ≡ 0 = omega (arith, c.if-number-eq0.true) in
    inl (
      sym c.as_slice.ensures.same ∙ c.in-Some.ensures.number.1 ∙ ap row_key none,
      c.tells_trimmed.ensures.0 c.if-tells_trimmed.true,
    )

pub returns-else-tells_trimmed-clause-none : goal.returns-else-tells_trimmed-clause-none
returns-else-tells_trimmed-clause-none c bad = none_at_zero c.args.schema.now c.args.next
    c.args.trimmed c.args.key.now c.args.row.now (search rules) c.in-Some.number
    c.in-Some.ensures.number.0 (sym c.as_slice.ensures.same ∙ c.in-Some.ensures.number.1)
    (omega (arith, c.if-number-eq0.true))
    (λ told. false≢true (sym c.if-tells_trimmed.false ∙ c.tells_trimmed.ensures.1 told))

pub returns-clause-row : goal.returns-clause-row
returns-clause-row c = on_ok_weaker c.test_change.result (kept_behind c.args.schema.now c.args.next
    c.args.trimmed c.args.key.now c.args.row.now (search rules) c.in-Some.number
    c.in-Some.ensures.number.0 (sym c.as_slice.ensures.same ∙ c.in-Some.ensures.number.1)
    (omega (arith, c.if-number-trimmed.false))) c.test_change.ensures.change

pub returns-clause-none : goal.returns-clause-none
returns-clause-none c bad = none_behind c.args.schema.now c.args.next
    c.args.trimmed c.args.key.now c.args.row.now (search rules) c.in-Some.number
    c.in-Some.ensures.number.0 (sym c.as_slice.ensures.same ∙ c.in-Some.ensures.number.1)
    (omega (arith, c.if-number-trimmed.false)) (c.test_change.ensures.none bad)
