pub mod Drawn
pub mod Feeds
pub mod Lines
pub mod Printed
pub mod Reader
pub mod Trial
pub mod TrialTexts
pub mod Unread
