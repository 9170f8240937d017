-- A row that tells no next family is the first wrong one.
use Rattle.std.proofs.Common.{◌≡◌, sym, subst, ◌∙◌, []}
use Rattle.alt_opening.specs.Recovery.{IsFirstWrong}
use Rattle.alt_opening.specs.StateRows.{catalog_family}
use Rattle.alt_opening.proofs.Recovering.{number_within}
use Rattle.alt_opening.proofs.TableSteps.{device_fault}
use Rattle.alt_opening.proofs.WrongTable.{next_wrong}
use Rattle.alt_opening.proofs.DeviceFaults.{device_walk}
use Rattle.alt_opening.proofs.opened.read_family.Goals as goal

pub returns-clause-wrong : goal.returns-clause-wrong
returns-clause-wrong g c tells l reads =
    let empty : c.from_vec.result ≡ [] = c.from_vec.ensures.same ∙ c.new.ensures.items in
    subst (IsFirstWrong l catalog_family) (sym empty)
    (next_wrong l (number_within (g.D.Disk.state c.args.disk.now) c.args.engine.now l reads)
    (λ family low high row.
    c.in-None.ensures.none family low high
    (c.as_ref.ensures.value ∙ c.in-Ok.ensures.row tells l reads ∙ row)))

pub returns-in-Err-clause-wrong : goal.returns-in-Err-clause-wrong
returns-in-Err-clause-wrong g c tells l reads = device_fault l c.from.result
    (device_walk c.in-Err.fault c.from.result c.from.ensures
    (c.in-Err.ensures.undamaged tells l reads))
