pub mod Fields
pub mod Refusals
pub mod Replies
pub mod Sane
pub mod States
