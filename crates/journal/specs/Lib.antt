pub mod Told
pub mod Calling
pub mod Answered
pub mod Cutting
pub mod Lines
pub mod Streams
