pub mod Prices
pub mod Days
pub mod Need
