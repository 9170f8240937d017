pub mod Altering
pub mod Faults
pub mod Fronts
pub mod Leftovers
pub mod Moments
pub mod Pages
pub mod RowChanges
pub mod Steps
pub mod Trims
pub use Rattle.alt_opening.specs.EngineDeclaredEngine as OpeningEngineDeclaredEngine
pub use Rattle.alt_opening.specs.EngineDeclaredTask as OpeningEngineDeclaredTask
pub use Rattle.alt_opening.specs.EngineInHand as OpeningEngineInHand
pub use Rattle.alt_opening.specs.EngineOpened as OpeningEngineOpened
pub use Rattle.alt_opening.specs.EngineWorking as OpeningEngineWorking
pub use Rattle.alt_opening.specs.Families as OpeningFamilies
pub use Rattle.alt_opening.specs.Faults as OpeningFaults
pub use Rattle.alt_opening.specs.FirstFiles as OpeningFirstFiles
pub use Rattle.alt_opening.specs.HandDeclaredEngineFault as OpeningHandDeclaredEngineFault
pub use Rattle.alt_opening.specs.HandDeclaredHand as OpeningHandDeclaredHand
pub use Rattle.alt_opening.specs.HandDeclaredLimits as OpeningHandDeclaredLimits
pub use Rattle.alt_opening.specs.HandDeclaredMakeFault as OpeningHandDeclaredMakeFault
pub use Rattle.alt_opening.specs.HandDrafting as OpeningHandDrafting
pub use Rattle.alt_opening.specs.HandFaults as OpeningHandFaults
pub use Rattle.alt_opening.specs.HandInHand as OpeningHandInHand
pub use Rattle.alt_opening.specs.HandMaking as OpeningHandMaking
pub use Rattle.alt_opening.specs.HandOpened as OpeningHandOpened
pub use Rattle.alt_opening.specs.HandWorking as OpeningHandWorking
pub use Rattle.alt_opening.specs.Images as OpeningImages
pub use Rattle.alt_opening.specs.Live as OpeningLive
pub use Rattle.alt_opening.specs.Opened as OpeningOpened
pub use Rattle.alt_opening.specs.Order as OpeningOrder
pub use Rattle.alt_opening.specs.Recovery as OpeningRecovery
pub use Rattle.alt_opening.specs.Sized as OpeningSized
pub use Rattle.alt_opening.specs.StateRows as OpeningStateRows
pub use Rattle.alt_opening.specs.Trimmed as OpeningTrimmed
pub use Rattle.alt_opening.specs.declared.faults.OpenFault as OpeningDeclaredOpenFault
pub use Rattle.alt_opening.specs.declared.trimmed.Trimmed as OpeningDeclaredTrimmed
