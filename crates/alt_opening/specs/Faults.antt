-- What the faults of an opening tell.
use Rattle.alt_faults.specs.Faults.{Fault, failed, no_memory, damaged, bad_bytes, bad_digest, bad_row}
use Rattle.alt_opening.specs.declared.faults.OpenFault.{OpenFault}
use Rattle.alt_opening.specs.declared.faults.OpenFault.TheVariants.{Damaged, DigestDiffers, BadRow, Failed, NoMemory}

-- What each of its variants tells.
abbrev pub told_by_opening : OpenFault → Fault
told_by_opening (Damaged file at) = damaged (bad_bytes file at)
told_by_opening (DigestDiffers file kept found) = damaged (bad_digest file kept found)
told_by_opening (BadRow family key) = damaged (bad_row family key)
told_by_opening Failed = failed
told_by_opening NoMemory = no_memory
