-- The tokens of the objects so far stand behind those that were there.
use Rattle.std.proofs.Common.{◌≡◌, ◌++◌, take}
use Rattle.std.specs.List.{flat_map}
use Rattle.alt_shape.specs.ObjectPieces.{object_tokens}
use Rattle.alt_shape.proofs.object.write_objects.Given as goal

abbrev pub invariant-loop-object : goal.invariant-loop-object
invariant-loop-object l = record {
  written : l.out.tokens ≡ l.fn.out.tokens ++ flat_map object_tokens (take l.object-index l.objects);
  before : l.out.before ≡ l.fn.out.before;
}
