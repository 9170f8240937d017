pub mod ChangeRows
pub mod KeyOf
pub mod NoChange
pub mod TrimRows
