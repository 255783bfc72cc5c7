pub mod Bytes
pub mod Outcome
pub mod Rows
pub mod Layout
pub mod Calls
pub mod Refusals
pub mod Answers
