pub mod Bounds
pub mod Escaping
pub mod KindLaws
pub mod Parts
pub mod PlaceLaws
pub mod Places
pub mod Tokens
pub mod Unclosed
