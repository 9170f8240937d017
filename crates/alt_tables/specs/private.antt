-- What private contracts alone cite: nobody who believes the promises of this crate has to read it.
pub mod Foretold
pub mod Staging
pub mod Written
