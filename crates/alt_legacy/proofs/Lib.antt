pub mod Joined
pub mod Keyed
pub mod Listed
pub mod Meaning
pub mod Named
pub mod Updating
