pub mod Begins
pub mod LongLaws
