use Rattle.std.proofs.Common.{◌≡◌, ◌≤◌, min, drop}
use Rattle.std.specs.Str.Parse.{digits_value, digits_value_after}
use Rattle.alt_http.proofs.lengths.length_of.Given as goal

abbrev pub invariant-loop-digit : goal.invariant-loop-digit
invariant-loop-digit l = record {
  bounded : l.value ≤ 16777217;
  so_far : min (digits_value_after 10 l.value (drop l.digit-index l.text)) 16777217
      ≡ min (digits_value 10 l.text) 16777217;
}
