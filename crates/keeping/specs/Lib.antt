pub mod Told
pub mod View
pub mod Starting
pub mod Entered
pub mod Answered
pub mod Cutting
pub mod Lines
