pub mod Keeping
pub mod Telling
mod Ending
mod Leaving
mod Missing
mod Over
mod Sending
mod Ticking
