pub mod KeyBytes
pub mod Kinds
pub mod Laws
pub mod Place
pub mod Range
pub mod Token
