pub mod Within
pub mod Elements
pub mod Alike
