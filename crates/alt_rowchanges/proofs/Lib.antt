pub mod AlterLaws
pub mod BuildLaws
pub mod BuildShows
pub mod CanTrim
pub mod CatalogLaws
pub mod ChangeLaws
pub mod DescribedShows
pub mod Elsewhere
pub mod FrontLaws
pub mod FrontTrims
pub mod HasFamily
pub mod IndexFamilies
pub mod IndexShows
pub mod ItemTurns
pub mod KeptFrom
pub mod LeftoverLaws
pub mod LeftoverRows
pub mod MomentLaws
pub mod Moving
pub mod PageRows
pub mod Rising
pub mod StepParts
pub mod StreamShows
pub mod StreamTrims
pub mod TimeLaws
pub mod TrimKeys
pub mod WriteLaws
pub use Rattle.alt_opening.proofs.EngineTaking as OpeningEngineTaking
pub use Rattle.alt_opening.proofs.Families as OpeningFamilies
pub use Rattle.alt_opening.proofs.HandNeedLaws as OpeningHandNeedLaws
pub use Rattle.alt_opening.proofs.HandSegmentFiles as OpeningHandSegmentFiles
pub use Rattle.alt_opening.proofs.KeptChanges as OpeningKeptChanges
pub use Rattle.alt_opening.proofs.LiveLaws as OpeningLiveLaws
pub use Rattle.alt_opening.proofs.LiveLists as OpeningLiveLists
pub use Rattle.alt_opening.proofs.Maps as OpeningMaps
pub use Rattle.alt_opening.proofs.NextRow as OpeningNextRow
pub use Rattle.alt_opening.proofs.OneColumn as OpeningOneColumn
pub use Rattle.alt_opening.proofs.OneIndex as OpeningOneIndex
pub use Rattle.alt_opening.proofs.OneState as OpeningOneState
pub use Rattle.alt_opening.proofs.OneStream as OpeningOneStream
pub use Rattle.alt_opening.proofs.OverEngine as OpeningOverEngine
pub use Rattle.alt_opening.proofs.StreamKeys as OpeningStreamKeys
pub use Rattle.alt_opening.proofs.TrimmedLaws as OpeningTrimmedLaws
pub use Rattle.alt_opening.proofs.EngineLaws as OpeningEngineLaws
