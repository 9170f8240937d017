use Rattle.std.proofs.Common.{◌≡◌, ◌≤◌, take}
use Rattle.alt_http.specs.Reading.{scan_of}
use Rattle.alt_http.specs.declared.outcome.Scan.TheVariants.{More}
use Rattle.tests_http.proofs.tests.pieces.answered_at.Given as goal

abbrev pub invariant-loop-place : goal.invariant-loop-place
invariant-loop-place l = record {
  behind : l.seen ≤ l.place;
  more : scan_of (take l.seen l.bytes) ≡ More;
}
