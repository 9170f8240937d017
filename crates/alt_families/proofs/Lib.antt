pub mod FirstLaws
pub mod GatherLaws
pub mod MemoryLaws
pub mod OpenLaws
pub mod PayLaws
pub mod RangeLaws
pub mod SourceLaws
pub mod StepLaws
