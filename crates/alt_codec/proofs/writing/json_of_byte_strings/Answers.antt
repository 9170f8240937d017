-- A member more is written; at the end all are.
use Rattle.std.proofs.Common.{◌∙◌, ap, map, arith}
use Rattle.alt_base.proofs.Lists.{get-past}
use Rattle.serde_json.specs.Data.{string}
use Rattle.serde_json.specs.View.{view}
use Rattle.serde_json.specs.declared.value.Value.{String as Text}
use Rattle.base64.specs.Engines.{standard}
use Rattle.base64.specs.GeneralPurpose.{encode_of}
use Rattle.alt_codec.specs.Returning.{BytesReturn}
use Rattle.alt_codec.proofs.ReadBack.{binaries_return, each_more, each_whole, bytes_back}
use Rattle.alt_codec.proofs.Written.{written_more, written_whole, text_written, items_of-texts}
use Rattle.alt_codec.proofs.writing.json_of_byte_strings.Goals as goal
use Rattle.alt_codec.proofs.writing.json_of_byte_strings.Goals.{else-loop-place-test, then-loop-place-test+in_default}

pub loop-place-preserved : goal.loop-place-preserved
loop-place-preserved c = record {
  written =
      ap (map view) c.in_ok-push.ensures.items
      ∙ written_more (λ b. string (encode_of standard b)) c.args.set.now c.loop-place.place
      c.in-Some.bytes.now c.loop-place.values.items
      (Text c.in_ok-encode.field-0) c.loop-place.invariant.written c.in-Some.ensures.member
      (text_written c.in_ok-encode.field-0
      (encode_of standard c.in-Some.bytes.now) c.in_ok-encode.ensures.text);
  returns = each_more BytesReturn c.args.set.now c.loop-place.place c.in-Some.bytes.now
      c.loop-place.invariant.returns c.in-Some.ensures.member
      (bytes_back _ c.in-Some.bytes.now c.in_ok-encode.ensures.text
      c.in_ok-encode.ensures.round_trip);
}

pub returns-clause-json : goal.returns-clause-json
returns-clause-json c =
    let ss = c.args.set.now in
    let i = c.loop-place.place in
    elim c.loop-place-test.branch [
      | else-loop-place-test w ↦ written_whole
          (λ b. string (encode_of standard b)) ss i c.loop-place.values.items
          c.loop-place.invariant.written (omega (arith, c.len-place-end.ensures.count))
      | then-loop-place-test+in_default w ↦ written_whole
          (λ b. string (encode_of standard b)) ss i c.loop-place.values.items
          c.loop-place.invariant.written (get-past ss i w.in_default.ensures.member)
    ] ∙ items_of-texts (encode_of standard) ss

pub returns-clause-read_back : goal.returns-clause-read_back
returns-clause-read_back c =
    let ss = c.args.set.now in
    let i = c.loop-place.place in
    binaries_return ss c.len-place-end.ensures.rising (elim c.loop-place-test.branch [
      | else-loop-place-test w ↦ each_whole BytesReturn ss i c.loop-place.invariant.returns
          (omega (arith, c.len-place-end.ensures.count))
      | then-loop-place-test+in_default w ↦ each_whole BytesReturn ss i
          c.loop-place.invariant.returns (get-past ss i w.in_default.ensures.member)
    ])
