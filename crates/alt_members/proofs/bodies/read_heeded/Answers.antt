-- What was read at the names that an operation heeds is enough for it.
use Rattle.std.proofs.Common.{ℕ, List, option_map, subst}
use Rattle.std.proofs.lemmas.Result.{IfOk-weaker}
use Rattle.serde_json.specs.View.{members_view}
use Rattle.alt_machine.specs.Members.{body_of}
use Rattle.alt_named.specs.Named.{SaysNamed}
use Rattle.alt_members.proofs.Laws.{suffices}
use Rattle.alt_members.proofs.bodies.read_heeded.Goals as goal

pub returns : goal.returns
returns c = record {
  suffices = IfOk-weaker c.read_named.result _ _ (λ o says.
      suffices c.args.operation (body_of c.args.bytes.now) (option_map (λ m. members_view m.entries) o)
      (subst (λ (names : List (List ℕ)). SaysNamed names (body_of c.args.bytes.now)
      (option_map (λ m. members_view m.entries) o)) c.heeded.ensures.names says))
      c.read_named.ensures.named;
}
