pub mod Built
pub mod Faults
pub mod FilesLeft
pub mod Foreseen
pub mod Found
pub mod Images
pub mod Laws
pub mod Looking
pub mod Merged
pub mod Reading
pub mod Several
pub mod Stands
pub mod private
pub use Rattle.alt_rowchanges.specs.Altering as Altering
pub use Rattle.alt_rowchanges.specs.declared.faults.TableFault as DeclaredTableFault
pub use Rattle.alt_rowchanges.specs.OpeningEngineInHand as EngineInHand
pub use Rattle.alt_rowchanges.specs.OpeningEngineDeclaredTask as EngineDeclaredTask
pub use Rattle.alt_rowchanges.specs.OpeningHandMaking as HandMaking
pub use Rattle.alt_rowchanges.specs.OpeningHandWorking as HandWorking
pub use Rattle.alt_rowchanges.specs.OpeningHandDeclaredLimits as HandDeclaredLimits
pub use Rattle.alt_rowchanges.specs.OpeningHandDeclaredMakeFault as HandDeclaredMakeFault
pub use Rattle.alt_rowchanges.specs.OpeningFaults as OpeningFaults
pub use Rattle.alt_rowchanges.specs.OpeningOrder as OpeningOrder
pub use Rattle.alt_rowchanges.specs.OpeningRecovery as OpeningRecovery
pub use Rattle.alt_rowchanges.specs.OpeningTrimmed as OpeningTrimmed
pub use Rattle.alt_rowchanges.specs.OpeningDeclaredOpenFault as OpeningDeclaredOpenFault
pub use Rattle.alt_rowchanges.specs.OpeningDeclaredTrimmed as OpeningDeclaredTrimmed
