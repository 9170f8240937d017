-- The attributes so far are copied.
use Rattle.std.proofs.Common.{◌≡◌, take}
use Rattle.alt_description.proofs.copies.copied_keys.Given as goal

abbrev pub invariant-loop-key : goal.invariant-loop-key
invariant-loop-key l = l.list ≡ take l.key-index l.keys
