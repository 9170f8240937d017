pub mod Asked
pub mod KeysAsked
