-- The names so far are copied.
use Rattle.std.proofs.Common.{◌≡◌, take}
use Rattle.alt_description.proofs.copies.copied_texts.Given as goal

abbrev pub invariant-loop-name : goal.invariant-loop-name
invariant-loop-name l = l.list ≡ take l.name-index l.names
