-- The rules of an operation, as the machine has them; and what the steps of a request come to, which alt_said has.
use Rattle.std.specs.Prelude.{map}
use Rattle.alt_machine.specs.Body as machine
use Rattle.alt_request.specs.declared.body.Rules.{Rules}
pub use Rattle.alt_said.specs.Steps.{Comes, IsMemory, Tested}

-- the rules of the program, as the machine has them
abbrev pub rules_of : Rules → machine.MemberRules
rules_of rules = record {
  legacy = map (λ w. w.now) rules.legacy.now;
  texts = map (λ w. w.now) rules.texts.now;
  joined = map (λ w. w.now) rules.joined.now;
  named = map (λ w. w.now) rules.named.now;
}
