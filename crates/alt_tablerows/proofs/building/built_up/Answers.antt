-- The one index of the family is built so far, and a cell that tells no such one is none.
use Rattle.std.proofs.Common.{◌≡◌, sym, ap, subst, ◌∙◌, Err, IfSome, IfNone, false, arith}
use Rattle.std.specs.List.{count_by, list_any}
use Rattle.std.specs.Result.{IsErrAnd}
use Rattle.alt_schema.specs.SoFar.{schema_of_family}
use Rattle.alt_tablerows.specs.private.Cells.{TellsBuilt}
use Rattle.alt_tablerows.proofs.BuiltUp.{built_up, family_stands, from_fifth, none_found, of_family, one_of, rest_tells, same_ok, the_one}
use Rattle.alt_tablerows.proofs.building.built_up.Goals as goal

pub returns-then-count_of-ne1-clause-none : goal.returns-then-count_of-ne1-clause-none
returns-then-count_of-ne1-clause-none c bad e held is own same told =
    let f = family_stands c.args.schema e c.args.cell.now held is own same told in
    let family = same_ok c.take_u32.result _ _ _ _ c.in-Ok.is
    (c.take_u32.ensures.again _ f.0 f.1) in
    omega (
      arith,
      c.count_of.ensures
          ∙ (λ j. count_by (of_family (family j)) (c.as_slice.ensures.members j))
          ∙ one_of c.args.schema e c.args.cell.now held is own same told,
      c.if-count_of-ne1.true,
    )

pub returns-in_err-built-clause-none : goal.returns-in_err-built-clause-none
returns-in_err-built-clause-none c bad e held is own same told =
    let rest = rest_tells c.args.schema e c.args.cell.now held is own same told in
    c.built_of.ensures.none
    (c.in_err-built.was ∙ ap Err (sym (subst (λ r. IsErrAnd r (λ e. e ≡ c.in_err-built.field-0.0))
    bad c.from_residual.ensures.1)))
    _ rest.0
    (subst (λ bs. TellsBuilt c.args.schema bs
    (the_one c.args.schema e c.args.cell.now held is own same told).index.built)
    (sym (from_fifth c.args.cell.now c.in-Ok.at c.in-Ok.ensures.ok.1)) rest.1)

pub returns-in-Some-clause-built : goal.returns-in-Some-clause-built
returns-in-Some-clause-built c =
    let up = built_up c.args.schema c.args.cell.now c.in-Ok.family c.in_ok-built.built
    c.requires.whole c.in-Ok.ensures.ok.0
    (ap (count_by (of_family c.in-Ok.family)) (sym c.as_slice.ensures.members)
    ∙ sym c.count_of.ensures ∙ omega (arith, c.if-count_of-ne1.false))
    (subst (λ bs. TellsBuilt c.args.schema bs c.in_ok-built.built)
    (from_fifth c.args.cell.now c.in-Ok.at c.in-Ok.ensures.ok.1) c.in_ok-built.ensures.built)
    c.in-Some.schema
    (subst (λ o. IfSome o
    (λ e. e ≡ schema_of_family c.in-Ok.family c.in_ok-built.built c.args.schema)) c.in-Some.is
    c.in_ok-schema.ensures.built) in
    (up.is_built, up.told)

pub returns-in-Some-clause-same : goal.returns-in-Some-clause-same
returns-in-Some-clause-same c =
    let up = built_up c.args.schema c.args.cell.now c.in-Ok.family c.in_ok-built.built
    c.requires.whole c.in-Ok.ensures.ok.0
    (ap (count_by (of_family c.in-Ok.family)) (sym c.as_slice.ensures.members)
    ∙ sym c.count_of.ensures ∙ omega (arith, c.if-count_of-ne1.false))
    (subst (λ bs. TellsBuilt c.args.schema bs c.in_ok-built.built)
    (from_fifth c.args.cell.now c.in-Ok.at c.in-Ok.ensures.ok.1) c.in_ok-built.ensures.built)
    c.in-Some.schema
    (subst (λ o. IfSome o
    (λ e. e ≡ schema_of_family c.in-Ok.family c.in_ok-built.built c.args.schema)) c.in-Some.is
    c.in_ok-schema.ensures.built) in
    (up.same, up.time)

pub returns-clause-none : goal.returns-clause-none
returns-clause-none c bad e held is own same told =
    none_found c.in-Ok.family c.args.schema.globals
    (ap (count_by (of_family c.in-Ok.family)) (sym c.as_slice.ensures.members)
    ∙ sym c.count_of.ensures ∙ omega (arith, c.if-count_of-ne1.false))
    (subst (λ o. IfNone o (list_any (of_family c.in-Ok.family) c.args.schema.globals ≡ false))
    c.in-None.is c.in_ok-schema.ensures.none)
