-- What the row of number 0 tells, or a fault of the device.
use Rattle.std.proofs.Common.{ap, ◌∙◌}
use Rattle.alt_tablerows.specs.TrimRows.{trimmed_told}
use Rattle.alt_opening.proofs.DeviceFaults.{device_walk}
use Rattle.alt_opening.proofs.change_scan.read_trimmed.Goals as goal

pub returns-in-Ok-clause-trimmed : goal.returns-in-Ok-clause-trimmed
returns-in-Ok-clause-trimmed g c tells l reads = c.trimmed_told.ensures
    ∙ ap trimmed_told (c.as_ref.ensures.value ∙ c.in-Ok.ensures.row tells l reads)

pub returns-in-Err-clause-fault : goal.returns-in-Err-clause-fault
returns-in-Err-clause-fault g c tells l reads = device_walk c.in-Err.fault c.from.result
    c.from.ensures (c.in-Err.ensures.undamaged tells l reads)
