pub mod Calls
pub mod Demands
pub mod Answers
pub mod Labelled
