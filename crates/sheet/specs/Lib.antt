pub mod Text
pub mod Sheet
pub mod Sample
pub mod Answers
