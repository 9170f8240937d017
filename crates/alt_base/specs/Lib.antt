pub mod Counts
pub mod Prefix
