-- The content of the field is a text where it is UTF-8.
use Rattle.std.proofs.lemmas.Str.{is_utf8-from_IsUtf8}
use Rattle.alt_schemabytes.proofs.Wholes.{text_in, text_out, not_utf8}
use Rattle.alt_schemabytes.proofs.parts.take_text.Goals as goal

pub returns-in-Ok-clause-part : goal.returns-in-Ok-clause-part
returns-in-Ok-clause-part c =
    text_in c.args.bytes.now c.in-Ok.text.now c.in_ok-content.content.now c.in_ok-content.rest.now
    c.in_ok-content.ensures.part
    c.in-Ok.ensures.cases.0 (is_utf8-from_IsUtf8 c.in_ok-content.content.now
    c.in-Ok.ensures.cases.1)

pub returns-in-Err-clause-stop : goal.returns-in-Err-clause-stop
returns-in-Err-clause-stop c =
    text_out c.args.bytes.now c.in_ok-content.content.now c.in_ok-content.rest.now
    c.in_ok-content.ensures.part
    (not_utf8 c.in_ok-content.content.now c.in-Err.ensures.cases.0)
