pub mod LabelLaws
pub mod TableLaws
pub mod AnswerLaws
