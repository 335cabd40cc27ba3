pub mod Ranges
pub mod Parts
pub mod Ranks
pub mod Signs
