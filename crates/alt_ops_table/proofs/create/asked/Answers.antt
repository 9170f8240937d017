-- Each test in turn, as the machine has it.
use Rattle.std.proofs.Common.{sym, ap, subst, ◌∙◌, is_some, arith, ℕ}
use Rattle.std.specs.FinMap as map
use Rattle.serde_json.specs.Data.{Members}
use Rattle.serde_json.specs.View.{members_view}
use Rattle.alt_ops_table.specs.private.Asked.{IsToBeMadeOrRefused}
use Rattle.alt_ops_table.proofs.Asking.{known, unfit_asked, name-described, create-refused, create-exists, create-many, some_there, none_there, free_family}
use Rattle.alt_request.proofs.Reaching.{err_is}
use Rattle.alt_schema.specs.Described.{SchemaFaultApplies, description_of}
use Rattle.alt_request.specs.TablesStands.{catalog_of, next_write_of_tables, next_family_of_tables}
use Rattle.alt_ops_table.proofs.create.asked.Goals as goal

pub returns-in_err-unfit : goal.returns-in_err-unfit
returns-in_err-unfit c = record {
  asked = subst (IsToBeMadeOrRefused c.args.tables.now c.args.moment (members_view c.args.body.now.entries))
      (sym (err_is c.from_residual.result c.in_err-unfit.field-0.0 c.from_residual.ensures))
      (unfit_asked c.args.tables.now c.args.moment
      (members_view c.args.body.now.entries) c.in_err-unfit.field-0.0
      c.in_err-unfit.ensures.tested);
}

pub returns-in-Err-Refused : goal.returns-in-Err-Refused
returns-in-Err-Refused c =
    let ms : Members = members_view c.args.body.now.entries in
    let cause = subst (SchemaFaultApplies ms) c.in-Err-Refused.field-0-is c.in-Err-Refused.ensures.cause in
    record {
      asked = (
        known ms c.in-Err-Refused.refusal cause,
        λ s same. create-refused s c.args.moment ms c.in_ok-unfit.ensures.tested
            c.in-Err-Refused.refusal cause,
      );
    }

pub returns-then-is_some : goal.returns-then-is_some
returns-then-is_some c =
    let ms : Members = members_view c.args.body.now.entries in
    let name = c.as_str.ensures.same ∙ name-described ms c.args.moment c.next_number.result
    c.first_family-family.result c.in-Ok.schema c.in-Ok.ensures.described in
    record {
      asked = (
        tt,
        λ s same. create-exists s c.args.moment ms c.in_ok-unfit.ensures.tested
            c.in-Ok.ensures.taken (catalog_of c.args.tables.now) same
            (ap (λ n. is_some (map.get (catalog_of c.args.tables.now) n)) (sym name)
            ∙ some_there (λ d. d.now) c.table.result _ c.table.ensures.table
            (sym c.is_some.ensures ∙ c.if-is_some.true)),
      );
    }

pub returns-then-count-ge-MOST_TABLES : goal.returns-then-count-ge-MOST_TABLES
returns-then-count-ge-MOST_TABLES c =
    let ms : Members = members_view c.args.body.now.entries in
    let name = c.as_str.ensures.same ∙ name-described ms c.args.moment c.next_number.result
    c.first_family-family.result c.in-Ok.schema c.in-Ok.ensures.described in
    record {
      asked = (
        tt,
        λ s same. create-many s c.args.moment ms c.in_ok-unfit.ensures.tested
            c.in-Ok.ensures.taken (catalog_of c.args.tables.now) same
            (ap (λ n. is_some (map.get (catalog_of c.args.tables.now) n)) (sym name)
            ∙ ap is_some (none_there (λ d. d.now) c.table.result _ c.table.ensures.table
            (sym c.is_some.ensures ∙ c.if-is_some.false)))
            (omega (arith, c.count.ensures.count)),
      );
    }

pub returns : goal.returns
returns c =
    let ms : Members = members_view c.args.body.now.entries in
    record {
      asked = record {
        body = c.in_ok-unfit.ensures.tested;
        taken = c.in-Ok.ensures.taken;
        absent = ap (map.get (catalog_of c.args.tables.now)) (sym c.as_str.ensures.same)
            ∙ none_there (λ d. d.now) c.table.result _ c.table.ensures.table
            (sym c.is_some.ensures ∙ c.if-is_some.false);
        few = omega (arith, c.count.ensures.count);
        new = c.in-Ok.ensures.valid;
        family = c.first_family-family.result;
        is = c.in-Ok.ensures.described ∙ ap (λ (n : ℕ).
            description_of ms c.args.moment n c.first_family-family.result)
            c.next_number.ensures.number;
        next = λ free. c.first_family-family.ensures.next
            (omega (
              arith,
              c.next_family.ensures.family,
              free_family (next_write_of_tables c.args.tables.now) (next_family_of_tables c.args.tables.now) free,
            ))
            ∙ c.next_family.ensures.family;
      };
    }
