pub mod Heeded
