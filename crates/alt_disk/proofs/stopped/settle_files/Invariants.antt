use Rattle.std.specs.List.{All}
use Rattle.alt_disk.specs.Memory.{Timed, at_moment}
use Rattle.alt_disk.proofs.Walk.{Walked}
use Rattle.alt_disk.proofs.stopped.settle_files.Given as goal

-- the files so far stand as picked, and the choice is used up for them
abbrev pub invariant-loop-f : goal.invariant-loop-f
invariant-loop-f l = record {
  walked : Walked (λ g. at_moment l.moment g l.calls) l.fn.choice l.numbers l.f-index
      l.choice.rest.now l.history.calls.items;
  timed : All (Timed 0) l.history.calls.items;
}
