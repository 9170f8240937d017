pub mod Bodies
pub mod Converted
pub mod Passed
pub mod Words
