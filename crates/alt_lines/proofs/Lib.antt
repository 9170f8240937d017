pub mod Feeds
pub mod Reading
pub mod Printing
