pub mod Bounds
pub mod Evaluation
pub mod Gathering
pub mod Sheets
pub mod Firsts
