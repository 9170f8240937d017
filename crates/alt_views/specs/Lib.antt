pub mod Batches
pub mod IndexRows
pub mod ItemRows
pub mod OwnKeys
pub mod Read
pub mod Readable
pub mod Values
pub mod private
