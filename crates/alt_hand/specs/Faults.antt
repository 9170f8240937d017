-- What the faults of the engine and of a recovery tell.
use Rattle.alt_faults.specs.Faults.{Fault, failed, no_memory, damaged, bad_bytes, bad_digest}
use Rattle.alt_hand.specs.declared.recover.RecoverFault.{RecoverFault}
use Rattle.alt_hand.specs.declared.recover.RecoverFault.TheVariants as recovery
pub use Rattle.alt_drafts.specs.Faults.{told_by_engine}

-- What a fault of a recovery tells.
abbrev pub told_by_recovery : RecoverFault → Fault
told_by_recovery (recovery.Damaged file at) = damaged (bad_bytes file at)
told_by_recovery (recovery.DigestDiffers file kept found) = damaged (bad_digest file kept found)
told_by_recovery recovery.Failed = failed
told_by_recovery recovery.NoMemory = no_memory
