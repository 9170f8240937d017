pub mod Answers
pub mod Changes
pub mod Shown
pub mod Sketched
pub mod StandsIn
