pub mod Chosen
pub mod Kept
pub mod Order
pub mod Range
pub mod Sameness
pub mod Loops
