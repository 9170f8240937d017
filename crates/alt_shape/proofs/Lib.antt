pub mod ObjectPieces
pub mod Pieces
pub mod Places
pub mod Plain
pub mod Replies
pub mod Walks
