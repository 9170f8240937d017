-- What private contracts alone cite: nobody who believes the promises of this crate has to read it.
pub mod IndexScans
pub mod Opening
pub mod RowSizes
