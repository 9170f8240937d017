-- The tokens of the entries so far stand behind those that were there.
use Rattle.std.proofs.Common.{◌≡◌, ◌++◌, take}
use Rattle.std.specs.List.{flat_map}
use Rattle.alt_shape.specs.ObjectPieces.{entry_tokens}
use Rattle.alt_shape.proofs.object.entries_inside.Given as goal

abbrev pub invariant-loop-entry : goal.invariant-loop-entry
invariant-loop-entry l = record {
  written : l.out.tokens ≡ l.fn.out.tokens ++ flat_map entry_tokens (take l.entry-index l.entries);
  before : l.out.before ≡ l.fn.out.before;
}
