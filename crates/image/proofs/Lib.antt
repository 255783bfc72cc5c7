pub mod OutcomeLaws
pub mod AnswerLaws
pub mod ByteLaws
pub mod SliceLaws
pub mod RowLaws
pub mod CheckLaws
pub mod NetworkLaws
