use Rattle.std.specs.Prelude.{◌≡◌, false}
use Rattle.alt_shell.specs.Log.{talks}
use Rattle.alt_shell.specs.Memory.{shell_state}
use Rattle.tests_run.proofs.tests.building.served.Given as goal

abbrev pub invariant-loop-piece : goal.invariant-loop-piece
invariant-loop-piece l = talks (shell_state l.shell).beside ≡ false
