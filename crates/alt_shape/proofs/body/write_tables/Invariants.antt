-- The tokens of the tables so far stand behind those that were there.
use Rattle.std.proofs.Common.{◌≡◌, ◌++◌, take}
use Rattle.std.specs.List.{flat_map}
use Rattle.alt_shape.specs.Pieces.{table_tokens}
use Rattle.alt_shape.proofs.body.write_tables.Given as goal

abbrev pub invariant-loop-table : goal.invariant-loop-table
invariant-loop-table l = record {
  written : l.out.tokens ≡ l.fn.out.tokens ++ flat_map table_tokens (take l.table-index l.tables);
  before : l.out.before ≡ l.fn.out.before;
}
