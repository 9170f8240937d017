pub mod Entries
pub mod Families
pub mod Flushed
pub mod Opening
pub mod Others
pub mod Replays
