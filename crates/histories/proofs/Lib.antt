pub mod Alike
pub mod Following
pub mod Always
pub mod Covers
