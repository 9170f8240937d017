use Rattle.std.proofs.Common.{◌≡◌, ◌++◌, ◌-◌}
use Rattle.alt_disk.specs.Stopped.{filled, behind_filled, open_bytes}
use Rattle.alt_disk.proofs.pick.fill_open.Given as goal

-- the bytes so far and those to come, and the choice behind them
abbrev pub invariant-loop : goal.invariant-loop
invariant-loop l = record {
  bytes : l.bytes.items ++ filled (open_bytes (l.count - l.counter)) l.choice.rest.now
      ≡ l.fn.bytes.items ++ filled (open_bytes l.count) l.fn.choice.rest.now;
  rest : behind_filled (open_bytes (l.count - l.counter)) l.choice.rest.now
      ≡ behind_filled (open_bytes l.count) l.fn.choice.rest.now;
}
