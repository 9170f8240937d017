pub mod Ahead
pub mod Altered
pub mod Batches
pub mod Behind
pub mod BuildReads
pub mod BuildStands
pub mod ByKeys
pub mod ChangePages
pub mod Differing
pub mod Each
pub mod FilesLaws
pub mod Foreseen
pub mod Holding
pub mod Left
pub mod Looking
pub mod Making
pub mod TableMaking
pub mod MakingAll
pub mod NoneBuilt
pub mod Noting
pub mod Pages
pub mod Paying
pub mod Staged
pub mod Sizing
pub mod Standing
pub mod Starting
pub mod Timed
pub mod TrimSteps
pub mod Trimmed
pub mod Working
pub use Rattle.alt_rowchanges.proofs.OpeningNextRow as OpeningNextRow
pub use Rattle.alt_rowchanges.proofs.OpeningOneColumn as OpeningOneColumn
pub use Rattle.alt_rowchanges.proofs.OpeningOneState as OpeningOneState
pub use Rattle.alt_rowchanges.proofs.AlterLaws
