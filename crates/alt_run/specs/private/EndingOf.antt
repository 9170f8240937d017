-- How a run ends that was broken off, and which endings note numbers. Private contracts alone cite it.
use Rattle.alt_talks.specs.declared.fault.RunFault.{RunFault}
use Rattle.alt_talks.specs.declared.fault.RunFault.TheVariants as fault
use Rattle.alt_run.specs.declared.ending.Ending.{Ending}
use Rattle.alt_run.specs.declared.ending.Ending.TheVariants as ending
use Rattle.alt_run.specs.declared.ending.Ending.TheVariants.{Whole, Words, NotEmpty, Damaged, DigestDiffers, BadRow, Device, Memory, Spent}

-- the ending of each fault
abbrev pub ending_of : RunFault → Ending
ending_of fault.Failed = ending.Device
ending_of fault.NoMemory = ending.Memory
ending_of (fault.Spent number) = ending.Spent number
ending_of (fault.Damaged file at) = ending.Damaged file at
ending_of (fault.DigestDiffers file kept found) = ending.DigestDiffers file kept found
ending_of (fault.BadRow family key) = ending.BadRow family key

-- the note of an ending has numbers in it
abbrev pub HasNumbers : Ending → Type 0
HasNumbers Whole = ⊥
HasNumbers Words = ⊥
HasNumbers (NotEmpty first) = Unit {0}
HasNumbers (Damaged file at) = Unit {0}
HasNumbers (DigestDiffers file kept found) = Unit {0}
HasNumbers (BadRow family key) = Unit {0}
HasNumbers Device = ⊥
HasNumbers Memory = ⊥
HasNumbers (Spent number) = Unit {0}
