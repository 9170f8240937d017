use Rattle.std.specs.Prelude.{◌≡◌, ◌<◌, false}
use Rattle.alt_shell.specs.Log.{talks}
use Rattle.alt_shell.specs.Memory.{connections_added, shell_state}
use Rattle.tests_run.proofs.tests.talks.connected.Given as goal

abbrev pub invariant-loop-byte : goal.invariant-loop-byte
invariant-loop-byte l = (0 < connections_added l.shell) × (talks (shell_state l.shell).beside ≡ false)
