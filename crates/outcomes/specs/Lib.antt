pub mod Calls
pub mod Labels
pub mod Demands
