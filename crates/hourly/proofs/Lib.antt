pub mod Delivering
