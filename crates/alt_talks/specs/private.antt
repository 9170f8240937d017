-- What private contracts alone cite: nobody who believes the promises of this crate has to read it.
pub mod HeadViews
pub mod InHand
pub mod Lawful
pub mod RungStops
pub mod Rungs
