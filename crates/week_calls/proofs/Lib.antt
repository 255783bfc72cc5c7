pub mod WeekLaws
pub mod PromiseLaws
