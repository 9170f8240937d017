use Rattle.std.proofs.Common.{◌≡◌}
use Rattle.serde_json.specs.View.{members_view}
use Rattle.alt_said.specs.Words.{names_refusal}
use Rattle.alt_said.proofs.words.names_refusal.Given as goal

-- the first that is refused of all is that of those that are left
abbrev pub invariant-loop-name : goal.invariant-loop-name
invariant-loop-name l = names_refusal (members_view l.names.entries)
    ≡ names_refusal (members_view l.name-iterator)
