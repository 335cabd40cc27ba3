pub mod Prices
pub mod Rules
pub mod Regulated
