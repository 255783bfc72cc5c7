pub mod Answers
pub mod Slices
