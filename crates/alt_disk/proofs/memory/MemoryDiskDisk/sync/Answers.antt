use Rattle.std.proofs.Common.{◌≡◌, ◌⊎◌, ⊎_elim, is_ok, Bool, true, false, None, sym, subst}
use Rattle.alt_disk.specs.Disk.{DiskState, Synced, Same}
use Rattle.alt_disk.specs.Acted.{Acted, ActedSome}
use Rattle.alt_disk.specs.Honest.{reads_as_image_of}
use Rattle.alt_disk.specs.MemoryState.{state_of}
use Rattle.alt_disk.specs.declared.made.Deed.TheVariants.{Sync}
use Rattle.alt_disk.proofs.Calls.{split}
use Rattle.alt_disk.proofs.MemoryCalls.{acted_synced, same_synced}
use Rattle.alt_disk.proofs.memory.MemoryDiskDisk.sync.Goals as goal

pub returns-clause-synced : goal.returns-clause-synced
returns-clause-synced c =
    let d = c.args.self.now in
    let f = c.args.f in
    let a : DiskState = state_of d in
    let b : DiskState = state_of c.make.new.self in
    ⊎_elim
    (λ (done : (is_ok c.make.result ≡ true) × Acted a b f Sync). subst
    (λ (ok : Bool). Synced a b f ok) (sym done.0)
    (acted_synced a b f (reads_as_image_of d f) done.1))
    (λ (failed : (is_ok c.make.result ≡ false) × (Same a b ⊎ ActedSome a b f None)).
    subst (λ (ok : Bool). Synced a b f ok) (sym failed.0)
    (⊎_elim (λ (same : Same a b). same_synced a b f same)
    (λ (none : ActedSome a b f None). absurd none) failed.1))
    (split c.make.result c.make.ensures.ok c.make.ensures.err)
