-- What private contracts alone cite: nobody who believes the promises of this crate has to read it.
pub mod Gets
pub mod Outlines
pub mod Updates
pub mod Writes
