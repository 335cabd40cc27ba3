pub mod Told
pub mod Heads
pub mod Forms
pub mod Numbers
pub mod Layer
pub mod Walk
pub mod Written
