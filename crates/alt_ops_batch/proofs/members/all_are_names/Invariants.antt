-- The names of all tables are names where those of the tables that are left are.
use Rattle.std.proofs.Common.{◌≡◌}
use Rattle.std.specs.List.{list_all}
use Rattle.serde_json.specs.View.{members_view}
use Rattle.alt_machine.specs.Batches.{pairs_in}
use Rattle.alt_schema.specs.Rules.{is_name}
use Rattle.alt_ops_batch.proofs.members.all_are_names.Given as goal

abbrev pub invariant-loop-name : goal.invariant-loop-name
invariant-loop-name l = list_all (λ t. is_name t.0) (pairs_in (members_view l.tables.entries))
    ≡ list_all (λ t. is_name t.0) (pairs_in (members_view l.name-iterator))
