-- The members so far are written.
use Rattle.std.proofs.Common.{◌≡◌, map, take}
use Rattle.serde_json.specs.Data.{string}
use Rattle.serde_json.specs.View.{view}
use Rattle.base64.specs.Engines.{standard}
use Rattle.base64.specs.GeneralPurpose.{encode_of}
use Rattle.alt_codec.specs.Returning.{BytesReturn, Each}
use Rattle.alt_codec.proofs.writing.json_of_byte_strings.Given as goal

abbrev pub invariant-loop-place : goal.invariant-loop-place
invariant-loop-place l = record {
  written : map view l.values.items ≡ map (λ b. string (encode_of standard b)) (take l.place l.set);
  returns : Each BytesReturn (take l.place l.set);
}
