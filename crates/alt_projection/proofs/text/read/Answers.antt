-- Each test is made in the order of the faults.
use Rattle.std.proofs.Common.{sym, ap, ◌∙◌, map}
use Rattle.std.specs.List.{list_any}
use Rattle.alt_expr.specs.Crowded.{is_long}
use Rattle.alt_expr.specs.PathsGrammar.{some_overlap}
use Rattle.alt_expr.specs.Tokens.{tok_of}
use Rattle.alt_expr.specs.Lookups.{names_alone}
use Rattle.alt_expr.specs.NamesGiven.{given_names}
use Rattle.alt_expr.specs.Languages.{projections}
use Rattle.alt_expr.proofs.Parsing.{read_too_deep, read_cut, read_err, read_undefined, read_too_many, read_overlap, read_tree, tree_read, read_no_memory}
use Rattle.alt_expr.proofs.PlainFacts.{clash}
use Rattle.alt_expr.proofs.PathsWhole.{unique, never_repeats, overlaps_is, crowded_is}
use Rattle.alt_projection.proofs.text.read.Goals as goal

pub returns-then-is_too_deep : goal.returns-then-is_too_deep
returns-then-is_too_deep c =
    read_too_deep projections (names_alone (given_names c.args.names.now))
    (map tok_of c.args.tokens.now) c.args.whole (c.is_too_deep.ensures.0 c.if-is_too_deep.true)

pub returns-then-not-whole : goal.returns-then-not-whole
returns-then-not-whole c =
    read_cut projections (names_alone (given_names c.args.names.now))
    (map tok_of c.args.tokens.now) c.args.whole
    (λ deep. clash c.is_too_deep.result (c.is_too_deep.ensures.1 deep) c.if-is_too_deep.false)
    c.if-not-whole.true

pub returns-in-Err : goal.returns-in-Err
returns-in-Err c =
    read_err projections (names_alone (given_names c.args.names.now))
    (map tok_of c.args.tokens.now) c.args.whole c.in-Err.fault
    (λ deep. clash c.is_too_deep.result (c.is_too_deep.ensures.1 deep) c.if-is_too_deep.false)
    c.in-Err.ensures

pub returns-then-has_unknown : goal.returns-then-has_unknown
returns-then-has_unknown c =
    let tree = tree_read projections (names_alone (given_names c.args.names.now))
    (map tok_of c.args.tokens.now) c.in-Ok.paths c.in-Ok.ensures in
    read_undefined projections (names_alone (given_names c.args.names.now))
    (map tok_of c.args.tokens.now) c.args.whole
    (λ deep. clash c.is_too_deep.result (c.is_too_deep.ensures.1 deep) c.if-is_too_deep.false)
    c.if-not-whole.false
    c.in-Ok.paths tree (unique (names_alone (given_names c.args.names.now)))
    (sym c.has_unknown.ensures ∙ c.if-has_unknown.true)

pub returns-then-has_long : goal.returns-then-has_long
returns-then-has_long c =
    let tree = tree_read projections (names_alone (given_names c.args.names.now))
    (map tok_of c.args.tokens.now) c.in-Ok.paths c.in-Ok.ensures in
    read_too_many projections (names_alone (given_names c.args.names.now))
    (map tok_of c.args.tokens.now) c.args.whole
    (λ deep. clash c.is_too_deep.result (c.is_too_deep.ensures.1 deep) c.if-is_too_deep.false)
    c.if-not-whole.false
    c.in-Ok.paths tree (unique (names_alone (given_names c.args.names.now)))
    (sym c.has_unknown.ensures ∙ c.if-has_unknown.false)
    (crowded_is c.in-Ok.paths ∙ ap (list_any is_long) (sym c.as_slice.ensures.members)
    ∙ sym c.has_long.ensures ∙ c.if-has_long.true)

pub returns-in-Err-some_overlap : goal.returns-in-Err-some_overlap
returns-in-Err-some_overlap c =
    read_no_memory projections (names_alone (given_names c.args.names.now))
    (map tok_of c.args.tokens.now) c.args.whole

pub returns-in-Ok-true : goal.returns-in-Ok-true
returns-in-Ok-true c =
    let tree = tree_read projections (names_alone (given_names c.args.names.now))
    (map tok_of c.args.tokens.now) c.in-Ok.paths c.in-Ok.ensures in
    read_overlap projections (names_alone (given_names c.args.names.now))
    (map tok_of c.args.tokens.now) c.args.whole
    (λ deep. clash c.is_too_deep.result (c.is_too_deep.ensures.1 deep) c.if-is_too_deep.false)
    c.if-not-whole.false
    c.in-Ok.paths tree (unique (names_alone (given_names c.args.names.now)))
    (sym c.has_unknown.ensures ∙ c.if-has_unknown.false)
    (crowded_is c.in-Ok.paths ∙ ap (list_any is_long) (sym c.as_slice.ensures.members)
    ∙ sym c.has_long.ensures ∙ c.if-has_long.false)
    (λ d is. never_repeats d ∙ sym (never_repeats tree.0)) (never_repeats tree.0)
    (overlaps_is c.in-Ok.paths ∙ ap some_overlap (sym c.as_slice-in-Ok.ensures.members)
    ∙ sym c.in-Ok-true.ensures.overlap ∙ c.in-Ok-true.field-0-test)

pub returns-in-Ok-false : goal.returns-in-Ok-false
returns-in-Ok-false c =
    let tree = tree_read projections (names_alone (given_names c.args.names.now))
    (map tok_of c.args.tokens.now) c.in-Ok.paths c.in-Ok.ensures in
    read_tree projections (names_alone (given_names c.args.names.now))
    (map tok_of c.args.tokens.now) c.args.whole
    (λ deep. clash c.is_too_deep.result (c.is_too_deep.ensures.1 deep) c.if-is_too_deep.false)
    c.if-not-whole.false
    c.in-Ok.paths tree (unique (names_alone (given_names c.args.names.now)))
    (sym c.has_unknown.ensures ∙ c.if-has_unknown.false)
    (crowded_is c.in-Ok.paths ∙ ap (list_any is_long) (sym c.as_slice.ensures.members)
    ∙ sym c.has_long.ensures ∙ c.if-has_long.false)
    (λ d is. never_repeats d ∙ sym (never_repeats tree.0)) (never_repeats tree.0)
    (overlaps_is c.in-Ok.paths ∙ ap some_overlap (sym c.as_slice-in-Ok.ensures.members)
    ∙ sym c.in-Ok-false.ensures.overlap ∙ c.in-Ok-false.field-0-test)
