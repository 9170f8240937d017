-- The members so far are written.
use Rattle.std.proofs.Common.{◌≡◌, map, take}
use Rattle.serde_json.specs.Data.{string}
use Rattle.serde_json.specs.View.{view}
use Rattle.alt_decimal.specs.Printed.{printed}
use Rattle.alt_codec.specs.Returning.{NumberReturns, Each}
use Rattle.alt_codec.proofs.writing.json_of_numbers.Given as goal

abbrev pub invariant-loop-place : goal.invariant-loop-place
invariant-loop-place l = record {
  written : map view l.values.items ≡ map (λ z. string (printed z)) (take l.place l.set);
  returns : Each NumberReturns (take l.place l.set);
}
