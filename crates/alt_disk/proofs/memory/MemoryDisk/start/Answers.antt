use Rattle.std.proofs.Common.{◌≡◌, ◌==◌, ℕ, List, true, arith, ap, sym, ◌∙◌}
use Rattle.std.specs.List.{list_any}
use Rattle.alt_disk.proofs.ToFail.{later_fails, one_failed}
use Rattle.alt_disk.proofs.memory.MemoryDisk.start.Goals as goal

pub invariant_of-self-2-clause-room : goal.invariant_of-self-2-clause-room
invariant_of-self-2-clause-room c =
    let d = c.args.self.now in
    omega (arith, d.room, later_fails d.moment d.fails.items)

pub returns-clause-room : goal.returns-clause-room
returns-clause-room c is =
    let d = c.args.self.now in
    let listed : list_any (λ t. t == d.moment) d.fails.items ≡ true =
    ap (λ (l : List ℕ). list_any (λ t. t == d.moment) l) (sym c.as_slice.ensures.value)
    ∙ sym c.contains-to_fail.ensures.value ∙ is in
    let less = one_failed d.moment d.fails.items listed in
    omega (arith, d.room, less)
