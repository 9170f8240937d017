-- What private contracts alone cite: nobody who believes the promises of this crate has to read it.
pub mod Ahead
pub mod Batches
pub mod Names
pub mod Readings
