pub mod Agreeing
pub mod Bounded
