pub mod Families
pub mod First
pub mod Memory
pub mod Opened
pub mod Paying
pub mod Ranges
pub mod Reads
pub mod Sources
