pub mod Rule
pub mod Limit
pub mod Rows
pub mod Tables
pub mod Depth
