pub mod Offering
pub mod PageLaws
pub mod Sizes
