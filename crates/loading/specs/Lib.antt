pub mod Accepted
pub mod Networks
pub mod Selected
pub mod Loaded
