pub mod Batches
pub mod Loops
pub mod Payloads
pub mod Putting
pub mod SoFar
pub mod Turns
