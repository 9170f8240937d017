-- After an insertion a map has at each name what it had, but for the one put in.
use Rattle.std.specs.Prelude.{Some}
use Rattle.std.proofs.lemmas.Map.Text.{btree_map_updates_str}
use Rattle.alt_schema.proofs.named.Kinds.add.Goals as goal

pub returns-clause-added : goal.returns-clause-added
returns-clause-added c = λ other.
    btree_map_updates_str c.args.name.now c.args.self.now.by_name c.insert.new.self
    (Some c.args.kind) c.in_ok-old.ensures.updates other
