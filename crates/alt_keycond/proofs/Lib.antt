pub mod FormLaws
pub mod Forms
pub mod Held
pub mod KeysAskedLaws
pub mod Under
pub mod Wanted
