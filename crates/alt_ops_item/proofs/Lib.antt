pub mod BesideItem
pub mod Changed
pub mod Evaluated
pub mod Getting
pub mod Left
pub mod Outlined
pub mod Putting
pub mod Updating
