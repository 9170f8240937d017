-- What private contracts alone cite: nobody who believes the promises of this crate has to read it.
pub mod Listed
pub mod Named
pub mod Paged
pub mod Placed
pub mod Recorded
