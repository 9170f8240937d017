use Rattle.std.specs.Prelude.{◌≡◌, false}
use Rattle.alt_shell.specs.Log.{talks}
use Rattle.alt_shell.specs.Memory.{shell_state}
use Rattle.tests_run.proofs.tests.over.shell_over.Given as goal

abbrev pub invariant-loop-line : goal.invariant-loop-line
invariant-loop-line l = talks (shell_state l.shell).beside ≡ false
