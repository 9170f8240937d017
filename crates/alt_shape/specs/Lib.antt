pub mod Bodies
pub mod Body
pub mod BodyParts
pub mod ObjectPieces
pub mod Objects
pub mod Pieces
pub mod Refusals
pub mod Shape
