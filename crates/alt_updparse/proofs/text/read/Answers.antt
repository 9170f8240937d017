-- Each test is made in the order of the faults.
use Rattle.std.proofs.Common.{sym, ap, ◌∙◌, map}
use Rattle.std.specs.List.{list_any}
use Rattle.alt_expr.specs.Tokens.{tok_of}
use Rattle.alt_expr.specs.Lookups.{given_by}
use Rattle.alt_expr.specs.UpdateLanguage.{updates, is_long_action, targets_overlap}
use Rattle.alt_expr.proofs.Parsing.{read_too_deep, read_cut, read_err, read_undefined, read_too_many, read_repeated, read_overlap, read_tree, tree_read, read_no_memory}
use Rattle.alt_expr.proofs.PlainFacts.{clash}
use Rattle.alt_expr.proofs.UpdateWhole.{unique, repeats_by, crowded_is, overlaps_is}
use Rattle.alt_updparse.proofs.text.read.Goals as goal

pub returns-then-is_too_deep : goal.returns-then-is_too_deep
returns-then-is_too_deep c =
    read_too_deep updates (given_by c.args.names.now c.args.values.now)
    (map tok_of c.args.tokens.now) c.args.whole (c.is_too_deep.ensures.0 c.if-is_too_deep.true)

pub returns-then-not-whole : goal.returns-then-not-whole
returns-then-not-whole c =
    read_cut updates (given_by c.args.names.now c.args.values.now)
    (map tok_of c.args.tokens.now) c.args.whole
    (λ deep. clash c.is_too_deep.result (c.is_too_deep.ensures.1 deep) c.if-is_too_deep.false)
    c.if-not-whole.true

pub returns-in-Err : goal.returns-in-Err
returns-in-Err c =
    read_err updates (given_by c.args.names.now c.args.values.now)
    (map tok_of c.args.tokens.now) c.args.whole c.in-Err.fault
    (λ deep. clash c.is_too_deep.result (c.is_too_deep.ensures.1 deep) c.if-is_too_deep.false)
    c.in-Err.ensures

pub returns-then-is_undefined : goal.returns-then-is_undefined
returns-then-is_undefined c =
    let g = given_by c.args.names.now c.args.values.now in
    let toks = map tok_of c.args.tokens.now in
    read_undefined updates g toks c.args.whole
    (λ deep. clash c.is_too_deep.result (c.is_too_deep.ensures.1 deep) c.if-is_too_deep.false)
    c.if-not-whole.false
    c.in-Ok.actions (tree_read updates g toks c.in-Ok.actions c.in-Ok.ensures) (unique g)
    (sym c.is_undefined.ensures ∙ c.if-is_undefined.true)

pub returns-then-is_crowded : goal.returns-then-is_crowded
returns-then-is_crowded c =
    let g = given_by c.args.names.now c.args.values.now in
    let toks = map tok_of c.args.tokens.now in
    read_too_many updates g toks c.args.whole
    (λ deep. clash c.is_too_deep.result (c.is_too_deep.ensures.1 deep) c.if-is_too_deep.false)
    c.if-not-whole.false
    c.in-Ok.actions (tree_read updates g toks c.in-Ok.actions c.in-Ok.ensures) (unique g)
    (sym c.is_undefined.ensures ∙ c.if-is_undefined.false)
    (crowded_is c.in-Ok.actions ∙ ap (list_any is_long_action) (sym c.as_slice.ensures.members)
    ∙ sym c.is_crowded.ensures ∙ c.if-is_crowded.true)

pub returns-then-repeats_clause : goal.returns-then-repeats_clause
returns-then-repeats_clause c =
    let g = given_by c.args.names.now c.args.values.now in
    let toks = map tok_of c.args.tokens.now in
    let tree = tree_read updates g toks c.in-Ok.actions c.in-Ok.ensures in
    read_repeated updates g toks c.args.whole
    (λ deep. clash c.is_too_deep.result (c.is_too_deep.ensures.1 deep) c.if-is_too_deep.false)
    c.if-not-whole.false
    c.in-Ok.actions tree (unique g)
    (sym c.is_undefined.ensures ∙ c.if-is_undefined.false)
    (crowded_is c.in-Ok.actions ∙ ap (list_any is_long_action) (sym c.as_slice.ensures.members)
    ∙ sym c.is_crowded.ensures ∙ c.if-is_crowded.false)
    (λ d is. sym (repeats_by d toks is) ∙ repeats_by tree.0 toks tree.1)
    (sym (repeats_by tree.0 toks tree.1) ∙ sym c.repeats_clause.ensures ∙ c.if-repeats_clause.true)

pub returns-then-overlap : goal.returns-then-overlap
returns-then-overlap c =
    let g = given_by c.args.names.now c.args.values.now in
    let toks = map tok_of c.args.tokens.now in
    let tree = tree_read updates g toks c.in-Ok.actions c.in-Ok.ensures in
    read_overlap updates g toks c.args.whole
    (λ deep. clash c.is_too_deep.result (c.is_too_deep.ensures.1 deep) c.if-is_too_deep.false)
    c.if-not-whole.false
    c.in-Ok.actions tree (unique g)
    (sym c.is_undefined.ensures ∙ c.if-is_undefined.false)
    (crowded_is c.in-Ok.actions ∙ ap (list_any is_long_action) (sym c.as_slice.ensures.members)
    ∙ sym c.is_crowded.ensures ∙ c.if-is_crowded.false)
    (λ d is. sym (repeats_by d toks is) ∙ repeats_by tree.0 toks tree.1)
    (sym (repeats_by tree.0 toks tree.1) ∙ sym c.repeats_clause.ensures ∙ c.if-repeats_clause.false)
    (overlaps_is c.in-Ok.actions ∙ ap targets_overlap (sym c.as_slice-in-Ok.ensures.members)
    ∙ sym c.in-Ok-targets_overlap.ensures ∙ c.if-overlap.true)

pub returns-else-overlap : goal.returns-else-overlap
returns-else-overlap c =
    let g = given_by c.args.names.now c.args.values.now in
    let toks = map tok_of c.args.tokens.now in
    let tree = tree_read updates g toks c.in-Ok.actions c.in-Ok.ensures in
    read_tree updates g toks c.args.whole
    (λ deep. clash c.is_too_deep.result (c.is_too_deep.ensures.1 deep) c.if-is_too_deep.false)
    c.if-not-whole.false
    c.in-Ok.actions tree (unique g)
    (sym c.is_undefined.ensures ∙ c.if-is_undefined.false)
    (crowded_is c.in-Ok.actions ∙ ap (list_any is_long_action) (sym c.as_slice.ensures.members)
    ∙ sym c.is_crowded.ensures ∙ c.if-is_crowded.false)
    (λ d is. sym (repeats_by d toks is) ∙ repeats_by tree.0 toks tree.1)
    (sym (repeats_by tree.0 toks tree.1) ∙ sym c.repeats_clause.ensures ∙ c.if-repeats_clause.false)
    (overlaps_is c.in-Ok.actions ∙ ap targets_overlap (sym c.as_slice-in-Ok.ensures.members)
    ∙ sym c.in-Ok-targets_overlap.ensures ∙ c.if-overlap.false)

pub returns-in_default : goal.returns-in_default
returns-in_default c = read_no_memory updates (given_by c.args.names.now c.args.values.now)
    (map tok_of c.args.tokens.now) c.args.whole
