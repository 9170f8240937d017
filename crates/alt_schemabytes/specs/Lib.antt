pub mod Format
pub mod Held
pub mod Parts
pub mod Places
