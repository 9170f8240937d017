use Rattle.std.proofs.Common.{◌≡◌, drop}
use Rattle.std.specs.List.{list_any}
use Rattle.alt_http.specs.Asked.{passes_test}
use Rattle.alt_http.specs.Fields.{values_named}
use Rattle.alt_http.specs.Spans.{fields_at}
use Rattle.alt_http.proofs.fields.has_value.Given as goal

abbrev pub invariant-loop-header : goal.invariant-loop-header
invariant-loop-header l =
    list_any (passes_test l.test) (values_named l.name (fields_at l.buf (drop l.header-index l.headers)))
    ≡ list_any (passes_test l.test) (values_named l.name (fields_at l.buf l.headers))
