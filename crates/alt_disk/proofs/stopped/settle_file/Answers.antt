use Rattle.std.proofs.Common.{◌==◌, if◌then◌else◌, ℕ, Vec, Option, sym, ◌∙◌, ap, subst, arith}
use Rattle.std.specs.declared.alloc.Global.{Global}
use Rattle.std.specs.List.{All}
use Rattle.alt_disk.specs.Files.{option_items}
use Rattle.alt_disk.specs.Memory.{Timed, nothing, replay}
use Rattle.alt_disk.specs.Stopped.{settled}
use Rattle.alt_disk.proofs.Replay.{timed_push}
use Rattle.alt_disk.proofs.Settle.{written_call, synced_call, settle_two}
use Rattle.alt_disk.proofs.stopped.settle_file.Goals as goal

pub returns-in_ok-add-2-clause-file : goal.returns-in_ok-add-2-clause-file
returns-in_ok-add-2-clause-file c g =
    let old = c.args.history.now.calls.items in
    settle_two c.args.f c.in-Some.bytes old c.add.new.self.calls.items
    c.add-in-Some.new.self.calls.items c.in_ok-add.ensures.ok c.in_ok-add-2.ensures.ok
    c.requires.none g
    ∙ ap (λ (file : Option (Vec ℕ Global)). if c.args.f == g then settled
    (option_items file) else replay g nothing old) (sym c.in-Some.is)

pub returns-in_ok-add-2-clause-timed : goal.returns-in_ok-add-2-clause-timed
returns-in_ok-add-2-clause-timed c =
    let old = c.args.history.now.calls.items in
    let first : All (Timed 0) c.add.new.self.calls.items =
    subst (All (Timed 0)) (sym c.in_ok-add.ensures.ok)
    (timed_push 0 old (written_call c.args.f c.in-Some.bytes) c.requires.timed (omega arith)) in
    subst (All (Timed 0)) (sym c.in_ok-add-2.ensures.ok)
    (timed_push 0 c.add.new.self.calls.items (synced_call c.args.f c.in-Some.bytes) first
    (omega arith))
