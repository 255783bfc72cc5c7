pub mod Exits
pub mod Flags
pub mod Small
pub mod Walks
