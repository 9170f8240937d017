-- What private contracts alone cite: nobody who believes the promises of this crate has to read it.
pub mod Asked
pub mod Filled
pub mod Paged
pub mod Ranges
pub mod Replied
pub mod Stops
pub mod Tokens
