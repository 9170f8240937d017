-- Each step in turn, as the machine has it, of a body that says the same.
use Rattle.std.proofs.Common.{◌≡◌, ◌∙◌, sym, ap, subst, Ok, Err, Result, Bor}
use Rattle.std.specs.FinMap as map
use Rattle.serde_json.specs.Data.{Members}
use Rattle.serde_json.specs.View.{members_view}
use Rattle.alt_expr.specs.Given as expr
use Rattle.alt_machine.specs.declared.Expressions.{Expressions}
use Rattle.alt_machine.specs.Members.{table_name}
use Rattle.alt_machine.specs.Refusals.{or_refused}
use Rattle.alt_machine.specs.State.{Texts}
use Rattle.alt_machine.proofs.Chains.{found_is}
use Rattle.alt_request.specs.Steps.{Comes}
use Rattle.alt_said.specs.Words.{given_of, texts_of}
use Rattle.alt_said.specs.declared.words.Given.{Given}
use Rattle.alt_request.proofs.Reaching.{passed_on, no_words, no_table, unsaid, unplaced, fits_so}
use Rattle.alt_schema.specs.declared.schema.TableSchema.{TableSchema}
use Rattle.alt_shape.specs.Refusals.{Answer, not_found}
use Rattle.alt_said.specs.TablesStands.{catalog_of}
use Rattle.alt_request.proofs.targets.target_of_item.Goals as goal

-- the description of a table that was found is found under the name that another body gives it
there : (catalog : Texts TableSchema) (ms bs : Members) (d : TableSchema)
    → table_name ms ≡ table_name bs
    → or_refused not_found (map.get catalog (table_name bs)) ≡ Ok d
    → or_refused not_found (map.get catalog (table_name ms)) ≡ Ok d
there catalog ms bs d same found =
    ap (λ name. or_refused not_found (map.get catalog name)) same ∙ found

pub returns-in_err-given : goal.returns-in_err-given
returns-in_err-given c = record {
  target = λ tests ms same free read.
      passed_on tests c.args.sought (texts_of c.args.texts.now) (catalog_of c.args.tables.now) ms
      c.from_residual.result c.in_err-given.field-0.0 c.from_residual.ensures
      (no_words tests c.args.sought (texts_of c.args.texts.now) (catalog_of c.args.tables.now) ms
      free c.args.item read c.in_err-given.field-0.0
      (subst (λ (r : Result expr.Given Answer). Comes {X = Given} given_of r
      (Err c.in_err-given.field-0.0)) (sym same.words) c.in_err-given.ensures.given));
}

pub returns-in_err-schema : goal.returns-in_err-schema
returns-in_err-schema c = record {
  target = λ tests ms same free read.
      passed_on tests c.args.sought (texts_of c.args.texts.now) (catalog_of c.args.tables.now) ms
      c.from_residual-in_err-schema.result c.in_err-schema.field-0.0
      c.from_residual-in_err-schema.ensures
      (no_table tests c.args.sought (texts_of c.args.texts.now) (catalog_of c.args.tables.now) ms
      free c.args.item read (given_of c.in_ok-given.given)
      (same.words ∙ c.in_ok-given.ensures.given) c.in_err-schema.field-0.0
      (subst (λ name. Comes {X = Bor TableSchema} (λ d. d.now)
      (or_refused not_found (map.get (catalog_of c.args.tables.now) name))
      (Err c.in_err-schema.field-0.0)) (sym same.table) c.in_err-schema.ensures.found));
}

pub expressions-requires : goal.expressions-requires
expressions-requires c = record { fresh = c.in_ok-given.ensures.fresh }

pub returns-in_err-said : goal.returns-in_err-said
returns-in_err-said c = record {
  target = λ tests ms same free read.
      let bs : Members = members_view c.args.body.now.entries in
      let catalog : Texts TableSchema = catalog_of c.args.tables.now in
      let d : TableSchema = c.in_ok-schema.schema.now in
      let g : expr.Given = given_of c.in_ok-given.given in
      passed_on tests c.args.sought (texts_of c.args.texts.now) catalog ms
      c.from_residual-in_err-said.result c.in_err-said.field-0.0
      c.from_residual-in_err-said.ensures
      (unsaid tests c.args.sought (texts_of c.args.texts.now) catalog ms free c.args.item read g
      (same.words ∙ c.in_ok-given.ensures.given)
      d (there catalog ms bs d same.table c.in_ok-schema.ensures.found) c.in_err-said.field-0.0
      (subst (λ (r : Result Expressions Answer). Comes {X = Expressions} (λ e. e) r
      (Err c.in_err-said.field-0.0)) (sym (same.says d g)) c.in_err-said.ensures.said));
}

pub returns : goal.returns
returns c = record {
  target = λ tests ms same free read.
      let bs : Members = members_view c.args.body.now.entries in
      let catalog : Texts TableSchema = catalog_of c.args.tables.now in
      let d : TableSchema = c.in_ok-schema.schema.now in
      let g : expr.Given = given_of c.in_ok-given.given in
      unplaced tests c.args.sought (texts_of c.args.texts.now) catalog ms free c.args.item read g
      (same.words ∙ c.in_ok-given.ensures.given)
      d (there catalog ms bs d same.table c.in_ok-schema.ensures.found) c.in_ok-said.said
      (same.says d g ∙ c.in_ok-said.ensures.said) c.in-Err.stop c.in-Err.ensures.place;
}

pub returns-in-Ok : goal.returns-in-Ok
returns-in-Ok c = record {
  target = λ tests ms same free read.
      let bs : Members = members_view c.args.body.now.entries in
      let catalog : Texts TableSchema = catalog_of c.args.tables.now in
      let d : TableSchema = c.in_ok-schema.schema.now in
      let g : expr.Given = given_of c.in_ok-given.given in
      let fits = fits_so d c.args.item c.args.sought c.in-Ok.place c.in-Ok.ensures.place in record {
        there = found_is not_found (map.get catalog (table_name ms)) d
            (there catalog ms bs d same.table c.in_ok-schema.ensures.found);
        placed = record {
          body = free;
          read = read;
          words = g;
          given = same.words ∙ c.in_ok-given.ensures.given;
          says = same.says d g ∙ c.in_ok-said.ensures.said;
          at = fits.0;
          fits = fits.1;
        };
      };
}
