-- What is answered of the tokens is answered of the text.
use Rattle.std.proofs.Common.{◌≡◌, ◌∙◌, sym, refl, subst, map, Ok, Err, arith}
use Rattle.alt_expr.specs.Tokens.{tok_of}
use Rattle.alt_expr.specs.Lookups.{given_by}
use Rattle.alt_expr.specs.Languages.{conditions}
use Rattle.alt_expr.specs.Read.{ReadTokens}
use Rattle.alt_expr.specs.Given.{with_hashes, with_colons}
use Rattle.alt_expr.specs.NamesGiven.{used_names, used_values}
use Rattle.alt_expr.specs.declared.fault.ExprFault.TheVariants as fault
use Rattle.alt_expr.specs.declared.cond.Cond.{Cond}
use Rattle.alt_expr.proofs.Parsing.{parsed_too_long, parsed_by_tokens, reaches_end, parsed_no_memory}
use Rattle.alt_expr.proofs.OneAnswer.{only_answer}
use Rattle.alt_expr.proofs.CondWhole.{unique}
use Rattle.alt_expr.proofs.Noting.{notes_hashes, no_hashes, notes_colons, no_colons}
use Rattle.alt_expr.proofs.PlainFacts.{was_ok}
use Rattle.alt_condparse.proofs.text.parse.Goals as goal

pub returns-then-text-gt-MOST_BYTES-clause-parsed :
    goal.returns-then-text-gt-MOST_BYTES-clause-parsed
returns-then-text-gt-MOST_BYTES-clause-parsed c =
    parsed_too_long conditions (given_by c.args.names.now c.args.values.now) c.args.text.now
    (omega (arith, c.if-text-gt-MOST_BYTES.true))

pub returns-then-text-gt-MOST_BYTES-clause-only : goal.returns-then-text-gt-MOST_BYTES-clause-only
returns-then-text-gt-MOST_BYTES-clause-only c =
    let given = given_by c.args.names.now c.args.values.now in
    only_answer conditions given (unique given) c.args.text.now (Err fault.TooLong)
    (returns-then-text-gt-MOST_BYTES-clause-parsed c)

pub returns-then-text-gt-MOST_BYTES-clause-names : goal.returns-then-text-gt-MOST_BYTES-clause-names
returns-then-text-gt-MOST_BYTES-clause-names c =
    no_hashes Cond c.args.text.now c.args.names.now c.args.names.now fault.TooLong (λ other. refl)

pub returns-then-text-gt-MOST_BYTES-clause-values :
    goal.returns-then-text-gt-MOST_BYTES-clause-values
returns-then-text-gt-MOST_BYTES-clause-values c =
    no_colons Cond c.args.text.now c.args.values.now c.args.values.now fault.TooLong (λ other. refl)

pub returns-in_default-clause-parsed : goal.returns-in_default-clause-parsed
returns-in_default-clause-parsed c =
    parsed_no_memory conditions (given_by c.args.names.now c.args.values.now) c.args.text.now

pub returns-in_default-clause-only : goal.returns-in_default-clause-only
returns-in_default-clause-only c =
    let given = given_by c.args.names.now c.args.values.now in
    only_answer conditions given (unique given) c.args.text.now (Err fault.NoMemory)
    (returns-in_default-clause-parsed c)

pub returns-in_default-clause-names : goal.returns-in_default-clause-names
returns-in_default-clause-names c =
    no_hashes Cond c.args.text.now c.args.names.now c.args.names.now fault.NoMemory (λ other. refl)

pub returns-in_default-clause-values : goal.returns-in_default-clause-values
returns-in_default-clause-values c =
    no_colons Cond c.args.text.now c.args.values.now c.args.values.now fault.NoMemory
    (λ other. refl)

pub returns-in-Err-clause-parsed : goal.returns-in-Err-clause-parsed
returns-in-Err-clause-parsed c =
    parsed_by_tokens conditions (given_by c.args.names.now c.args.values.now) c.args.text.now
    (map tok_of c.in-Ok.found.items) c.in-Ok.whole c.in-Ok.ensures
    (omega (arith, c.if-text-gt-MOST_BYTES.false)) (Err c.in-Err.fault)
    (subst (λ ts. ReadTokens conditions (given_by c.args.names.now c.args.values.now)
    (map tok_of ts) c.in-Ok.whole (Err c.in-Err.fault)) c.deref.ensures.value c.in-Err.ensures)

pub returns-in-Err-clause-only : goal.returns-in-Err-clause-only
returns-in-Err-clause-only c =
    let given = given_by c.args.names.now c.args.values.now in
    only_answer conditions given (unique given) c.args.text.now (Err c.in-Err.fault)
    (returns-in-Err-clause-parsed c)

pub returns-in-Err-clause-names : goal.returns-in-Err-clause-names
returns-in-Err-clause-names c =
    no_hashes Cond c.args.text.now c.args.names.now c.args.names.now c.in-Err.fault (λ other. refl)

pub returns-in-Err-clause-values : goal.returns-in-Err-clause-values
returns-in-Err-clause-values c =
    no_colons Cond c.args.text.now c.args.values.now c.args.values.now c.in-Err.fault
    (λ other. refl)

pub returns-then-is_err-clause-parsed : goal.returns-then-is_err-clause-parsed
returns-then-is_err-clause-parsed c =
    parsed_no_memory conditions (given_by c.args.names.now c.args.values.now) c.args.text.now

pub returns-then-is_err-clause-only : goal.returns-then-is_err-clause-only
returns-then-is_err-clause-only c =
    let given = given_by c.args.names.now c.args.values.now in
    only_answer conditions given (unique given) c.args.text.now (Err fault.NoMemory)
    (returns-then-is_err-clause-parsed c)

pub returns-then-is_err-clause-names : goal.returns-then-is_err-clause-names
returns-then-is_err-clause-names c =
    no_hashes Cond c.args.text.now c.args.names.now c.note.new.names fault.NoMemory
    (λ other. absurd (other refl))

pub returns-then-is_err-clause-values : goal.returns-then-is_err-clause-values
returns-then-is_err-clause-values c =
    no_colons Cond c.args.text.now c.args.values.now c.note.new.values fault.NoMemory
    (λ other. absurd (other refl))

pub returns-clause-parsed : goal.returns-clause-parsed
returns-clause-parsed c =
    parsed_by_tokens conditions (given_by c.args.names.now c.args.values.now) c.args.text.now
    (map tok_of c.in-Ok.found.items) c.in-Ok.whole c.in-Ok.ensures
    (omega (arith, c.if-text-gt-MOST_BYTES.false)) (Ok c.in-Ok-read.condition)
    (subst (λ ts. ReadTokens conditions (given_by c.args.names.now c.args.values.now)
    (map tok_of ts) c.in-Ok.whole (Ok c.in-Ok-read.condition)) c.deref.ensures.value
    c.in-Ok-read.ensures)

pub returns-clause-only : goal.returns-clause-only
returns-clause-only c =
    let given = given_by c.args.names.now c.args.values.now in
    only_answer conditions given (unique given) c.args.text.now (Ok c.in-Ok-read.condition)
    (returns-clause-parsed c)

pub returns-clause-names : goal.returns-clause-names
returns-clause-names c =
    let whole = reaches_end conditions (given_by c.args.names.now c.args.values.now)
    (map tok_of c.in-Ok.found.items) c.in-Ok.whole c.in-Ok-read.condition
    (subst (λ ts. ReadTokens conditions (given_by c.args.names.now c.args.values.now)
    (map tok_of ts) c.in-Ok.whole (Ok c.in-Ok-read.condition)) c.deref.ensures.value
    c.in-Ok-read.ensures) in
    let noted = was_ok c.note.result _ (sym c.is_err.ensures.value
    ∙ c.if-is_err.false) c.note.ensures.names in
    notes_hashes c.args.text.now (map tok_of c.in-Ok.found.items) c.in-Ok.whole c.args.names.now
    c.note.new.names c.in-Ok-read.condition c.in-Ok.ensures whole
    (subst (λ ts. used_names c.note.new.names
    ≡ with_hashes (map tok_of ts) (used_names c.args.names.now))
    c.deref-in-Ok-read.ensures.value noted)

pub returns-clause-values : goal.returns-clause-values
returns-clause-values c =
    let whole = reaches_end conditions (given_by c.args.names.now c.args.values.now)
    (map tok_of c.in-Ok.found.items) c.in-Ok.whole c.in-Ok-read.condition
    (subst (λ ts. ReadTokens conditions (given_by c.args.names.now c.args.values.now)
    (map tok_of ts) c.in-Ok.whole (Ok c.in-Ok-read.condition)) c.deref.ensures.value
    c.in-Ok-read.ensures) in
    let noted = was_ok c.note.result _ (sym c.is_err.ensures.value
    ∙ c.if-is_err.false) c.note.ensures.values in
    notes_colons c.args.text.now (map tok_of c.in-Ok.found.items) c.in-Ok.whole c.args.values.now
    c.note.new.values c.in-Ok-read.condition c.in-Ok.ensures whole
    (subst (λ ts. used_values c.note.new.values
    ≡ with_colons (map tok_of ts) (used_values c.args.values.now))
    c.deref-in-Ok-read.ensures.value noted)
