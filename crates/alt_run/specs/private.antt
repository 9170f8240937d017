-- What private contracts alone cite: nobody who believes the promises of this crate has to read it.
pub mod Brought
pub mod EndingOf
pub mod Rungs
pub mod Tallies
