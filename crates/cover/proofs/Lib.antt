pub mod Exposures
pub mod Tables
pub mod Totals
pub mod Bounds
