pub mod Labels
pub mod Plain
pub mod Shown
