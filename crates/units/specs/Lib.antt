pub mod Rounding
pub mod Sums
