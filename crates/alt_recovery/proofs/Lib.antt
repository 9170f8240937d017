pub mod OpenLaws
pub mod EntryLaws
pub mod NumberLaws
pub mod HeldLaws
pub mod JoinLaws
pub mod ReplayLaws
pub mod SegmentReplays
