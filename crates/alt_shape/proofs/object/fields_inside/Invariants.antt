-- The tokens of the fields so far stand behind those that were there.
use Rattle.std.proofs.Common.{◌≡◌, ◌++◌, take}
use Rattle.std.specs.List.{flat_map}
use Rattle.alt_shape.specs.ObjectPieces.{field_tokens}
use Rattle.alt_shape.proofs.object.fields_inside.Given as goal

abbrev pub invariant-loop-field : goal.invariant-loop-field
invariant-loop-field l = record {
  written : l.out.tokens ≡ l.fn.out.tokens ++ flat_map field_tokens (take l.field-index l.fields);
  before : l.out.before ≡ l.fn.out.before;
}
