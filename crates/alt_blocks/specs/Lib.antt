pub mod Short
pub mod Places
pub mod Behind
