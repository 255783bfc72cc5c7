pub mod Columns
pub mod Networks
pub mod Steps
pub mod Bests
