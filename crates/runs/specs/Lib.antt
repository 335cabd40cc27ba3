pub mod Sums
pub mod After
pub mod Kept
pub mod Runs
