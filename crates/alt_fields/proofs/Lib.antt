pub mod Apart
pub mod Faults
pub mod Numbers
pub mod Slices
