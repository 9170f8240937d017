use Rattle.std.proofs.Common.{◌≡◌, ◌++◌, drop}
use Rattle.alt_disk.specs.Stopped.{filled, behind_filled}
use Rattle.alt_disk.proofs.pick.fill_known.Given as goal

-- the bytes so far and those to come, and the choice behind them
abbrev pub invariant-loop-byte : goal.invariant-loop-byte
invariant-loop-byte l = record {
  bytes : l.bytes.items ++ filled (drop l.byte-index l.known) l.choice.rest.now
      ≡ l.fn.bytes.items ++ filled l.known l.fn.choice.rest.now;
  rest : behind_filled (drop l.byte-index l.known) l.choice.rest.now
      ≡ behind_filled l.known l.fn.choice.rest.now;
}
