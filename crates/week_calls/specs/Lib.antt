pub mod Weeks
pub mod Asked
pub mod Answers
pub mod Promise
