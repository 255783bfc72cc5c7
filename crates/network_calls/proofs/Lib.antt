pub mod NodeListLaws
pub mod SharedLaws
pub mod ChoiceLaws
