use Rattle.std.proofs.Common.{ℕ, List, sym, subst}
use Rattle.alt_disk.specs.Disk.{DiskState, IsNames}
use Rattle.alt_drafts.proofs.make.no_files.Goals as goal

pub returns-in-Ok-clause-not_empty : goal.returns-in-Ok-clause-not_empty
returns-in-Ok-clause-not_empty g c told =
    let s : DiskState = g.D.Disk.state c.args.disk.now in
    c.none_of.ensures.first s.file
    (subst (λ (list : List ℕ). IsNames list s.file) (sym c.as_slice.ensures.value)
    (c.in-Ok.ensures.names told))
