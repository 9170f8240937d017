-- Each step in turn, as the machine has it.
use Rattle.std.proofs.Common.{List, Option, Bool, sym, subst}
use Rattle.std.specs.FinMap as map
use Rattle.serde_json.specs.Data.{Members}
use Rattle.serde_json.specs.View.{members_view}
use Rattle.alt_machine.specs.Body.{paired_refusals}
use Rattle.alt_machine.specs.Members.{table_name}
use Rattle.alt_machine.proofs.Chains.{found_is}
use Rattle.alt_request.specs.Steps.{rules_of}
use Rattle.alt_request.specs.Targets.{OnList}
use Rattle.alt_said.specs.Words.{given_of, texts_of}
use Rattle.alt_request.specs.declared.body.Rules.{Rules}
use Rattle.alt_request.proofs.Listing.{list_untaken, list_no_words, list_no_start, list_no_table, list_no_index, list_unsaid}
use Rattle.alt_request.proofs.Reaching.{err_is}
use Rattle.alt_shape.specs.Refusals.{Answer, not_found}
use Rattle.alt_shape.specs.declared.rule.Broken.{Broken}
use Rattle.alt_said.specs.TablesStands.{catalog_of}
use Rattle.alt_request.proofs.lists.list_target.Goals as goal

abbrev tests_of : Option Broken → Bool → Rules → Members → List (Option Answer)
tests_of broken mismatched rules ms = paired_refusals broken mismatched (rules_of rules) ms

pub returns-in_err-paired_refusal-clause-target : goal.returns-in_err-paired_refusal-clause-target
returns-in_err-paired_refusal-clause-target c =
    let ms : Members = members_view c.args.body.now.entries in
    let tests = tests_of c.args.broken c.args.mismatched c.args.rules.now ms in
    subst (λ r. OnList tests (texts_of c.args.texts.now) (catalog_of c.args.tables.now) ms r)
    (sym (err_is c.from_residual.result c.in_err-paired_refusal.field-0.0
    c.from_residual.ensures))
    (list_untaken tests (texts_of c.args.texts.now) (catalog_of c.args.tables.now) ms
    c.in_err-paired_refusal.field-0.0 c.in_err-paired_refusal.ensures.tested)

pub returns-in_err-given-clause-target : goal.returns-in_err-given-clause-target
returns-in_err-given-clause-target c =
    let ms : Members = members_view c.args.body.now.entries in
    let tests = tests_of c.args.broken c.args.mismatched c.args.rules.now ms in
    subst (λ r. OnList tests (texts_of c.args.texts.now) (catalog_of c.args.tables.now) ms r)
    (sym (err_is c.from_residual-in_err-given.result c.in_err-given.field-0.0
    c.from_residual-in_err-given.ensures))
    (list_no_words tests (texts_of c.args.texts.now) (catalog_of c.args.tables.now) ms
    c.in_ok-paired_refusal.ensures.tested c.in_err-given.field-0.0
    c.in_err-given.ensures.given)

pub returns-in_err-start-clause-target : goal.returns-in_err-start-clause-target
returns-in_err-start-clause-target c =
    let ms : Members = members_view c.args.body.now.entries in
    let tests = tests_of c.args.broken c.args.mismatched c.args.rules.now ms in
    subst (λ r. OnList tests (texts_of c.args.texts.now) (catalog_of c.args.tables.now) ms r)
    (sym (err_is c.from_residual-in_err-start.result c.in_err-start.field-0.0
    c.from_residual-in_err-start.ensures))
    (list_no_start tests (texts_of c.args.texts.now) (catalog_of c.args.tables.now) ms
    c.in_ok-paired_refusal.ensures.tested (given_of c.in_ok-given.given)
    c.in_ok-given.ensures.given c.in_err-start.field-0.0 c.in_err-start.ensures.read)

pub returns-in_err-schema-clause-target : goal.returns-in_err-schema-clause-target
returns-in_err-schema-clause-target c =
    let ms : Members = members_view c.args.body.now.entries in
    let tests = tests_of c.args.broken c.args.mismatched c.args.rules.now ms in
    subst (λ r. OnList tests (texts_of c.args.texts.now) (catalog_of c.args.tables.now) ms r)
    (sym (err_is c.from_residual-in_err-schema.result c.in_err-schema.field-0.0
    c.from_residual-in_err-schema.ensures))
    (list_no_table tests (texts_of c.args.texts.now) (catalog_of c.args.tables.now) ms
    c.in_ok-paired_refusal.ensures.tested (given_of c.in_ok-given.given)
    c.in_ok-given.ensures.given c.in_ok-start.start c.in_ok-start.ensures.read
    c.in_err-schema.field-0.0 c.in_err-schema.ensures.found)

pub returns-in_err-index-clause-target : goal.returns-in_err-index-clause-target
returns-in_err-index-clause-target c =
    let ms : Members = members_view c.args.body.now.entries in
    let tests = tests_of c.args.broken c.args.mismatched c.args.rules.now ms in
    subst (λ r. OnList tests (texts_of c.args.texts.now) (catalog_of c.args.tables.now) ms r)
    (sym (err_is c.from_residual-in_err-index.result c.in_err-index.field-0.0
    c.from_residual-in_err-index.ensures))
    (list_no_index tests (texts_of c.args.texts.now) (catalog_of c.args.tables.now) ms
    c.in_ok-paired_refusal.ensures.tested (given_of c.in_ok-given.given)
    c.in_ok-given.ensures.given c.in_ok-start.start c.in_ok-start.ensures.read
    c.in_ok-schema.schema.now c.in_ok-schema.ensures.found c.in_err-index.field-0.0
    c.in_err-index.ensures.asked)

pub expressions-requires : goal.expressions-requires
expressions-requires c = record { fresh = c.in_ok-given.ensures.fresh }

pub returns-in_err-said-clause-target : goal.returns-in_err-said-clause-target
returns-in_err-said-clause-target c =
    let ms : Members = members_view c.args.body.now.entries in
    let tests = tests_of c.args.broken c.args.mismatched c.args.rules.now ms in
    subst (λ r. OnList tests (texts_of c.args.texts.now) (catalog_of c.args.tables.now) ms r)
    (sym (err_is c.from_residual-in_err-said.result c.in_err-said.field-0.0
    c.from_residual-in_err-said.ensures))
    (list_unsaid tests (texts_of c.args.texts.now) (catalog_of c.args.tables.now) ms
    c.in_ok-paired_refusal.ensures.tested (given_of c.in_ok-given.given)
    c.in_ok-given.ensures.given c.in_ok-start.start c.in_ok-start.ensures.read
    c.in_ok-schema.schema.now c.in_ok-schema.ensures.found c.in_ok-index.index
    c.in_ok-index.ensures.asked c.in_err-said.field-0.0
    c.in_err-said.ensures.said)

pub returns-clause-target : goal.returns-clause-target
returns-clause-target c =
    let ms : Members = members_view c.args.body.now.entries in
    record {
      there = found_is not_found (map.get (catalog_of c.args.tables.now) (table_name ms))
          c.in_ok-schema.schema.now c.in_ok-schema.ensures.found;
      listed = record {
        body = c.in_ok-paired_refusal.ensures.tested;
        words = given_of c.in_ok-given.given;
        given = c.in_ok-given.ensures.given;
        read = c.in_ok-start.ensures.read;
        asks = c.in_ok-index.ensures.asked;
        says = c.in_ok-said.ensures.said;
      };
    }
