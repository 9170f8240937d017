-- A member more is written; at the end all are.
use Rattle.std.proofs.Common.{◌∙◌, ap, map, arith}
use Rattle.alt_base.proofs.Lists.{get-past}
use Rattle.serde_json.specs.Data.{string}
use Rattle.serde_json.specs.View.{view}
use Rattle.serde_json.specs.declared.value.Value.{String as Text}
use Rattle.alt_codec.proofs.ReadBack.{texts_return}
use Rattle.alt_codec.proofs.Written.{written_more, written_whole, text_written, items_of-strings}
use Rattle.alt_codec.proofs.writing.json_of_texts.Goals as goal
use Rattle.alt_codec.proofs.writing.json_of_texts.Goals.{else-loop-place-test, then-loop-place-test+in_default}

pub loop-place-preserved : goal.loop-place-preserved
loop-place-preserved c =
    ap (map view) c.in_ok-push.ensures.items
    ∙ written_more (λ s. string s) c.args.set.now c.loop-place.place c.in-Some.text.now
    c.loop-place.values.items (Text c.in_ok-from_str.field-0) c.loop-place.invariant
    c.in-Some.ensures.member (text_written c.in_ok-from_str.field-0 c.in-Some.text.now
    c.in_ok-from_str.ensures.ok)

pub returns-clause-json : goal.returns-clause-json
returns-clause-json c =
    let ss = c.args.set.now in
    let i = c.loop-place.place in
    elim c.loop-place-test.branch [
      | else-loop-place-test w ↦ written_whole
          (λ s. string s) ss i c.loop-place.values.items c.loop-place.invariant
          (omega (arith, c.len-place-end.ensures.count))
      | then-loop-place-test+in_default w ↦ written_whole
          (λ s. string s) ss i c.loop-place.values.items c.loop-place.invariant
          (get-past ss i w.in_default.ensures.member)
    ] ∙ items_of-strings ss

pub returns-clause-read_back : goal.returns-clause-read_back
returns-clause-read_back c = texts_return c.args.set.now c.len-place-end.ensures.rising
