pub mod Denoted
pub mod Settled
