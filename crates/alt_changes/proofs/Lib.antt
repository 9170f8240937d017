pub mod Found
pub mod IteratorTexts
pub mod KeyPut
pub mod RowLaws
pub mod Rows
pub mod TrimLaws
pub mod Written
