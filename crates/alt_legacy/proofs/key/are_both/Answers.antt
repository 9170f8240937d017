-- The second entry decides, once the first is on the HASH attribute.
use Rattle.std.proofs.Common.{sym, ◌∙◌}
use Rattle.alt_legacy.specs.Keys.{key_of, entry_hash_value, entry_range_test}
use Rattle.alt_legacy.proofs.Keyed.{both_there}
use Rattle.alt_legacy.proofs.key.are_both.Goals as goal

pub returns-then-is_hash : goal.returns-then-is_hash
returns-then-is_hash c =
    both_there (entry_hash_value (key_of c.args.hash.now) c.args.first.now)
    (entry_range_test (key_of c.args.range.now) c.args.second.now) c.is_range.result
    (sym c.is_hash.ensures ∙ c.if-is_hash.true) c.is_range.ensures
