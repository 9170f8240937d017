use Rattle.std.proofs.Common.{◌∙◌, arith}
use Rattle.std.specs.Prelude.{codes}
use Rattle.alt_http.specs.Fields.{values_named}
use Rattle.alt_http.specs.Spans.{fields_at}
use Rattle.alt_http.proofs.Walks.{length_other, length_long, length_fits, found_is_length}
use Rattle.alt_http.proofs.judging.checked_length.Goals as goal

pub returns-then-has_value : goal.returns-then-has_value
returns-then-has_value c =
    length_other (values_named (codes "content-length")
    (fields_at c.args.buf.now c.args.fields.now)) c.in-Some.first.now c.in-Some.ensures
    c.if-has_value.ensures

pub returns-then-length-gt-LONGEST_BODY : goal.returns-then-length-gt-LONGEST_BODY
returns-then-length-gt-LONGEST_BODY c =
    let e = c.length_of-length.ensures in
    length_long (values_named (codes "content-length") (fields_at c.args.buf.now c.args.fields.now))
    c.in-Some.first.now c.in-Some.ensures c.if-has_value.ensures (omega arith)

pub returns-else-length-gt-LONGEST_BODY : goal.returns-else-length-gt-LONGEST_BODY
returns-else-length-gt-LONGEST_BODY c =
    let e = c.length_of-length.ensures in
    let both = length_fits (values_named (codes "content-length")
    (fields_at c.args.buf.now c.args.fields.now)) c.in-Some.first.now c.in-Some.ensures
    c.if-has_value.ensures (omega arith) in
    (both.0, e ∙ both.1)

pub length_of-length-requires : goal.length_of-length-requires
length_of-length-requires c =
    found_is_length (values_named (codes "content-length")
    (fields_at c.args.buf.now c.args.fields.now)) c.in-Some.first.now c.in-Some.ensures
    c.if-has_value.ensures
