use Rattle.std.proofs.Common.{◌≡◌, drop}
use Rattle.alt_http.specs.Lengths as numbers
use Rattle.alt_http.proofs.lengths.without_zeros.Given as goal

abbrev pub invariant-loop-place : goal.invariant-loop-place
invariant-loop-place l = numbers.without_zeros (drop l.place l.text) ≡ numbers.without_zeros l.text
