pub mod ColumnLaws
pub mod StepLaws
pub mod BestLaws
