-- The tokens of the members so far stand behind those that were there.
use Rattle.std.proofs.Common.{◌≡◌, ◌++◌, take}
use Rattle.std.specs.List.{flat_map}
use Rattle.alt_shape.specs.Pieces.{member_tokens}
use Rattle.alt_shape.proofs.body.write_members.Given as goal

abbrev pub invariant-loop-member : goal.invariant-loop-member
invariant-loop-member l = record {
  written : l.out.tokens ≡ l.fn.out.tokens ++ flat_map member_tokens (take l.member-index l.members);
  before : l.out.before ≡ l.fn.out.before;
}
