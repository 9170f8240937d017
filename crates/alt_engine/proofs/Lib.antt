pub mod EngineLaws
pub mod HistoryLaws
pub mod Stepping
pub mod Taking
pub mod Turning
pub mod Versioning
pub use Rattle.alt_merging.proofs.HandHandLaws as HandHandLaws
pub use Rattle.alt_merging.proofs.HandNeedLaws as HandNeedLaws
pub use Rattle.alt_merging.proofs.HandSegmentFiles as HandSegmentFiles
