pub mod EntryReads
pub mod FormatLaws
pub mod OneWrite
pub mod PushLaws
pub mod ReadLaws
