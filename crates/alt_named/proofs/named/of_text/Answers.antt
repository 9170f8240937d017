-- A text has the members that were read, or is no object.
use Rattle.std.proofs.Common.{◌≡◌, Some, map, sym, subst, ap, arith}
use Rattle.std.specs.Prelude.{option_and_then}
use Rattle.serde_json.specs.Find.{as_object}
use Rattle.serde_json.specs.Read.{read}
use Rattle.serde_json.specs.View.{members_view}
use Rattle.alt_named.specs.Named.{SaysNamed}
use Rattle.alt_named.proofs.named.of_text.Goals as goal

pub returns-in-Ok : goal.returns-in-Ok
returns-in-Ok c =
    let names = map (λ w. w.now) c.args.names.now in
    let (ms, reads, same) = c.in-Ok.ensures.named in
    let is : option_and_then as_object (read c.args.text.now) ≡ Some ms =
    ap (option_and_then as_object) reads in
    record {
      named = rw (← c.in-Ok.found-is) (subst (λ b. SaysNamed names b
          (Some (members_view c.in-Ok.found.entries))) (sym is) same);
    }
