-- Bytes are the body that their text says, or none.
use Rattle.std.proofs.Common.{◌≡◌, map, sym, subst, ap, ◌∙◌}
use Rattle.std.specs.Prelude.{IfOk, option_and_then, option_map}
use Rattle.serde_json.specs.Find.{as_object}
use Rattle.serde_json.specs.Read.{read}
use Rattle.serde_json.specs.View.{members_view}
use Rattle.alt_named.specs.Named.{SaysNamed, body_of}
use Rattle.alt_named.proofs.Bodies.{body_is, body_none}
use Rattle.alt_named.proofs.named.read_named.Goals as goal

pub returns-in-Ok : goal.returns-in-Ok
returns-in-Ok c =
    let bytes = c.args.bytes.now in
    let is : option_and_then as_object (read c.in-Ok.text.now) ≡ body_of bytes =
    ap (λ s. option_and_then as_object (read s)) c.in-Ok.ensures.0
    ∙ sym (body_is bytes c.in-Ok.ensures.1) in
    record {
      named = subst (λ b. IfOk c.of_text.result (λ o. SaysNamed (map (λ w. w.now) c.args.names.now) b
          (option_map (λ m. members_view m.entries) o))) is c.of_text.ensures.named;
    }

pub returns-in-Err : goal.returns-in-Err
returns-in-Err c =
    record {
      named = rw (body_none c.args.bytes.now c.in-Err.ensures) tt;
    }
