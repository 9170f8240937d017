use Rattle.std.specs.Prelude.{◌≡◌, false}
use Rattle.alt_shell.specs.Log.{talks}
use Rattle.alt_shell.specs.Memory.{shell_state}
use Rattle.tests_run.proofs.tests.expiry.left.Given as goal

abbrev pub invariant-loop-number : goal.invariant-loop-number
invariant-loop-number l = talks (shell_state l.shell).beside ≡ false
