pub mod OneList
pub mod Elsewhere
mod Around
pub mod Append
mod Entries
mod Places
