pub mod Counted
pub mod Looked
pub mod Offered
