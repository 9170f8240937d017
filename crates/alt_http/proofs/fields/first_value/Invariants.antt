use Rattle.std.proofs.Common.{◌≡◌, drop}
use Rattle.alt_http.specs.Fields.{values_named, first_field_value}
use Rattle.alt_http.specs.Spans.{fields_at}
use Rattle.alt_http.proofs.fields.first_value.Given as goal

abbrev pub invariant-loop-header : goal.invariant-loop-header
invariant-loop-header l = first_field_value (values_named l.name
    (fields_at l.buf (drop l.header-index l.headers)))
    ≡ first_field_value (values_named l.name (fields_at l.buf l.headers))
