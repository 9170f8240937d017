-- Each test is made in the order of the faults.
use Rattle.std.proofs.Common.{sym, ◌∙◌, map, true, false}
use Rattle.alt_expr.specs.Tokens.{tok_of}
use Rattle.alt_expr.specs.Lookups.{given_by}
use Rattle.alt_expr.specs.Languages.{conditions}
use Rattle.alt_expr.proofs.Parsing.{read_too_deep, read_cut, read_err, read_undefined, read_too_many, read_tree, tree_read}
use Rattle.alt_expr.proofs.CondWhole.{unique, never_repeats, never_overlaps, crowded_is}
use Rattle.alt_expr.proofs.PlainFacts.{clash}
use Rattle.alt_condparse.proofs.text.read.Goals as goal

pub returns-then-is_too_deep : goal.returns-then-is_too_deep
returns-then-is_too_deep c =
    read_too_deep conditions (given_by c.args.names.now c.args.values.now)
    (map tok_of c.args.tokens.now) c.args.whole (c.is_too_deep.ensures.0 c.if-is_too_deep.true)

pub returns-then-not-whole : goal.returns-then-not-whole
returns-then-not-whole c =
    read_cut conditions (given_by c.args.names.now c.args.values.now)
    (map tok_of c.args.tokens.now) c.args.whole
    (λ deep. clash c.is_too_deep.result (c.is_too_deep.ensures.1 deep) c.if-is_too_deep.false)
    c.if-not-whole.true

pub returns-in-Err : goal.returns-in-Err
returns-in-Err c =
    read_err conditions (given_by c.args.names.now c.args.values.now)
    (map tok_of c.args.tokens.now) c.args.whole c.in-Err.fault
    (λ deep. clash c.is_too_deep.result (c.is_too_deep.ensures.1 deep) c.if-is_too_deep.false)
    c.in-Err.ensures

pub returns-then-is_undefined : goal.returns-then-is_undefined
returns-then-is_undefined c =
    let g = given_by c.args.names.now c.args.values.now in
    let toks = map tok_of c.args.tokens.now in
    read_undefined conditions g toks c.args.whole
    (λ deep. clash c.is_too_deep.result (c.is_too_deep.ensures.1 deep) c.if-is_too_deep.false)
    c.if-not-whole.false
    c.in-Ok.condition (tree_read conditions g toks c.in-Ok.condition c.in-Ok.ensures) (unique g)
    (sym c.is_undefined.ensures ∙ c.if-is_undefined.true)

pub returns-then-is_crowded : goal.returns-then-is_crowded
returns-then-is_crowded c =
    let g = given_by c.args.names.now c.args.values.now in
    let toks = map tok_of c.args.tokens.now in
    read_too_many conditions g toks c.args.whole
    (λ deep. clash c.is_too_deep.result (c.is_too_deep.ensures.1 deep) c.if-is_too_deep.false)
    c.if-not-whole.false
    c.in-Ok.condition (tree_read conditions g toks c.in-Ok.condition c.in-Ok.ensures) (unique g)
    (sym c.is_undefined.ensures ∙ c.if-is_undefined.false)
    (crowded_is c.in-Ok.condition ∙ sym c.is_crowded.ensures ∙ c.if-is_crowded.true)

pub returns-else-is_crowded : goal.returns-else-is_crowded
returns-else-is_crowded c =
    let g = given_by c.args.names.now c.args.values.now in
    let toks = map tok_of c.args.tokens.now in
    let tree = tree_read conditions g toks c.in-Ok.condition c.in-Ok.ensures in
    read_tree conditions g toks c.args.whole
    (λ deep. clash c.is_too_deep.result (c.is_too_deep.ensures.1 deep) c.if-is_too_deep.false)
    c.if-not-whole.false
    c.in-Ok.condition tree (unique g)
    (sym c.is_undefined.ensures ∙ c.if-is_undefined.false)
    (crowded_is c.in-Ok.condition ∙ sym c.is_crowded.ensures ∙ c.if-is_crowded.false)
    (λ d is. never_repeats d ∙ sym (never_repeats tree.0)) (never_repeats tree.0)
    (never_overlaps c.in-Ok.condition)
