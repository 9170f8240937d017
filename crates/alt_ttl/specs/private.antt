-- What private contracts alone cite: nobody who believes the promises of this crate has to read it.
pub mod Foresight
pub mod Searched
pub mod Timed
