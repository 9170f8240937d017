pub mod Carrying
pub mod Drafting
pub mod Faults
pub mod InHand
pub mod Making
pub mod Merging
