pub mod Laws
pub mod Rules
pub mod Limits
pub mod Ranks
pub mod Signs
pub mod Leftovers
pub mod Runs
