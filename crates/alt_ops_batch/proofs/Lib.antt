mod KeysAsked
pub mod Ahead
pub mod Asked
pub mod AskedReads
pub mod Behind
pub mod Finding
pub mod Founds
pub mod Gets
pub mod Plain
pub mod Repeats
pub mod Showing
pub mod Stopping
pub mod Tables
pub mod Taking
pub mod Writes
pub mod Writing
