pub mod Log
pub mod InHand
pub mod Parse
pub mod Laws
