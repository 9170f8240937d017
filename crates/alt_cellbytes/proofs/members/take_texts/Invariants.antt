-- The members so far, and the bytes behind them.
use Rattle.std.proofs.Common.{◌≡◌, ◌++◌, length}
use Rattle.std.specs.List.{flat_map}
use Rattle.alt_value.specs.Members.{text_order}
use Rattle.alt_value.specs.Values.{IsText}
use Rattle.alt_cellbytes.specs.Values.{AreSetMembers}
use Rattle.alt_fields.specs.Field.{field}
use Rattle.alt_cellbytes.proofs.members.take_texts.Given as goal

abbrev pub invariant-loop-done : goal.invariant-loop-done
invariant-loop-done l = record {
  count : length l.set ≡ l._done;
  members : AreSetMembers IsText text_order l.set;
  bytes : l.bytes ≡ flat_map field l.set ++ l.rest;
}
