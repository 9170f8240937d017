-- A head as the spans of its parts tell it. These words serve the clauses of private functions
-- alone.
use Rattle.std.specs.Prelude.{ℕ, List, map}
use Rattle.httparse.specs.declared.spans.HeaderSpan.{HeaderSpan}
use Rattle.httparse.specs.declared.spans.RequestSpans.{RequestSpans}
use Rattle.httparse.specs.Spans.{span_bytes, header_bytes}
use Rattle.alt_http.specs.Fields.{Header}
use Rattle.alt_http.specs.Judged.{Parts}

-- the fields that the spans tell
abbrev pub fields_at : List ℕ → List HeaderSpan → List Header
fields_at buf headers = map (header_bytes buf) headers

-- the parts that the spans tell
abbrev pub parts_at : List ℕ → List HeaderSpan → RequestSpans → Parts
parts_at buf headers spans = record {
  size = spans.len;
  method = span_bytes buf spans.method;
  target = span_bytes buf spans.path;
  minor = spans.version;
  fields = fields_at buf headers;
}
