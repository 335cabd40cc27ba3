pub mod Integers
pub mod Summing
pub mod Nearby
