pub mod Histories
pub mod Agreement
pub mod Covered
