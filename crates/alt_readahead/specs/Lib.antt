pub mod Ahead
pub mod Batch
pub mod Batches
pub mod Direct
pub mod Payloads
