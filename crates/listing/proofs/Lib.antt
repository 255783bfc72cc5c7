mod ClearLaws
mod RowLaws
