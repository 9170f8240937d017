pub mod Codes
pub mod Faults
pub mod FirstFiles
pub mod Images
pub mod Live
pub mod Opened
pub mod Order
pub mod Recovery
pub mod Scans
pub mod Sized
pub mod StateRows
pub mod StreamScans
pub mod Trimmed
pub mod private
pub use Rattle.alt_engine.specs.InHand as EngineInHand
pub use Rattle.alt_engine.specs.Opened as EngineOpened
pub use Rattle.alt_engine.specs.Working as EngineWorking
pub use Rattle.alt_engine.specs.declared.engine.Engine as EngineDeclaredEngine
pub use Rattle.alt_engine.specs.declared.work.Task as EngineDeclaredTask
pub use Rattle.alt_engine.specs.declared.work.Worked as EngineDeclaredWorked
pub use Rattle.alt_engine.specs.HandDrafting as HandDrafting
pub use Rattle.alt_engine.specs.HandFaults as HandFaults
pub use Rattle.alt_engine.specs.HandInHand as HandInHand
pub use Rattle.alt_engine.specs.HandMaking as HandMaking
pub use Rattle.alt_engine.specs.HandOpened as HandOpened
pub use Rattle.alt_engine.specs.HandWorking as HandWorking
pub use Rattle.alt_engine.specs.HandDeclaredEngineFault as HandDeclaredEngineFault
pub use Rattle.alt_engine.specs.HandDeclaredHand as HandDeclaredHand
pub use Rattle.alt_engine.specs.HandDeclaredLimits as HandDeclaredLimits
pub use Rattle.alt_engine.specs.HandDeclaredMakeFault as HandDeclaredMakeFault
pub use Rattle.alt_tablerows.specs.Families
