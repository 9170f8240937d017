-- The elements of the indexes so far have kinds, and their names are put in.
use Rattle.std.proofs.Common.{is_some}
use Rattle.std.specs.List.{list_all}
use Rattle.alt_schema.specs.Named.{kind_at}
use Rattle.alt_schema.specs.Rules.{is_used_in}
use Rattle.alt_schema.proofs.InUse.{Goes}
use Rattle.alt_schema.proofs.rules.add_indexes.Given as goal

abbrev pub invariant-loop-index : goal.invariant-loop-index
invariant-loop-index l =
    Goes (λ i. list_all (λ e. is_some (kind_at l.kinds e.name)) i.keys)
    (λ name i. is_used_in name i.keys) l.fn.used l.used l.indexes l.index-index
