pub mod Given
pub mod Contests
pub mod Leader
pub mod Counting
pub mod Finding
pub mod Answers
