pub mod Bare
pub mod Indexes
pub mod Json
pub mod SoFar
