-- What private contracts alone cite: nobody who believes the promises of this crate has to read it.
pub mod Cells
pub mod Made
pub mod Tests
