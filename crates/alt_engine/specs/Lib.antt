pub mod Histories
pub mod InHand
pub mod Opened
pub mod Versions
pub mod Working
pub use Rattle.alt_merging.specs.HandDrafting as HandDrafting
pub use Rattle.alt_merging.specs.HandFaults as HandFaults
pub use Rattle.alt_merging.specs.HandInHand as HandInHand
pub use Rattle.alt_merging.specs.HandMaking as HandMaking
pub use Rattle.alt_merging.specs.HandOpened as HandOpened
pub use Rattle.alt_merging.specs.HandRecovery as HandRecovery
pub use Rattle.alt_merging.specs.HandWorking as HandWorking
pub use Rattle.alt_merging.specs.HandDeclaredEngineFault as HandDeclaredEngineFault
pub use Rattle.alt_merging.specs.HandDeclaredHand as HandDeclaredHand
pub use Rattle.alt_merging.specs.HandDeclaredLimits as HandDeclaredLimits
pub use Rattle.alt_merging.specs.HandDeclaredMakeFault as HandDeclaredMakeFault
pub use Rattle.alt_merging.specs.HandDeclaredRecoverFault as HandDeclaredRecoverFault
