pub mod Growths
pub mod Placed
pub mod Performing
pub mod Lined
pub mod Playing
pub mod RequestTexts
pub mod RequestLines
