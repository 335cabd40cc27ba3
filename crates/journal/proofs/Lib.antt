pub mod Running
pub mod Streaming
pub mod Seen
