-- Why turns broke off, told of a greater number of the next file: fewer are left then.
use Rattle.std.proofs.Common.{◌≤◌, inl, inr, ℕ, List, Bool, false}
use Rattle.alt_disk.specs.Disk.{DiskState}
use Rattle.alt_machine.specs.State.{State}
use Rattle.alt_shell.specs.Log.{Log, taken}
use Rattle.alt_talks.specs.Connections.{turns_of}
use Rattle.alt_talks.specs.Talks.{ConnectionPlace, Rules, Turn, turns, turns_at}
use Rattle.alt_talks.specs.private.RungStops.{AnswersSomeOn, ComesSomeOn, GoesSomeOn, MovesSomeOn}
use Rattle.alt_talks.specs.declared.fault.RunFault.{RunFault}
use Rattle.alt_talks.proofs.Breaking.{some_wider}

module _ (r : Rules) (fault : RunFault) (a b : DiskState) (k l : ℕ) (s : State) (es : Log)
    (ms : List ℕ) (le : k ≤ l) where
  pub answers_wider : (m : Bool) (ts : List Turn) → AnswersSomeOn r fault k s m ts a b es ms
      → AnswersSomeOn r fault l s m ts a b es ms
  answers_wider m ts x = (
    record { some = some_wider r fault k l s m ts es ms le x.0.some; quiet = x.0.quiet },
    x.1,
  )

  pub moves_wider : (p : ConnectionPlace) (m : Bool) → MovesSomeOn r fault k p s m a b es ms
      → MovesSomeOn r fault l p s m a b es ms
  moves_wider p m x = (
    record {
      some = some_wider r fault k l s m (turns r p.left p.greeted p.bytes) es ms le x.0.some;
      quiet = x.0.quiet;
    },
    x.1,
  )

  pub goes_wider : (p : ConnectionPlace) (m : Bool) → GoesSomeOn r fault k p s m a b es ms
      → GoesSomeOn r fault l p s m a b es ms
  goes_wider p m x = (
    record {
      some = some_wider r fault k l s m (turns_at r p (taken es)) es ms le x.0.some;
      inside = x.0.inside;
      idle = x.0.idle;
    },
    x.1,
  )

  pub comes_wider : (per : ℕ) → ComesSomeOn r per fault k s a b es ms
      → ComesSomeOn r per fault l s a b es ms
  comes_wider per (inl none, left) = (inl none, left)
  comes_wider per (inr one, left) = (
    inr (
      one.0,
      record {
        some = some_wider r fault k l s false (turns_of r per one.0) one.0.entries one.0.told le
            one.1.some;
        idle = one.1.idle;
        before = one.1.before;
        at = one.1.at;
        clocked = one.1.clocked;
        hung = one.1.hung;
        inside = one.1.inside;
      },
      one.2,
      one.3,
    ),
    left,
  )
