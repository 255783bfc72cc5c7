pub mod CostLaws
pub mod LabelLaws
pub mod RowLaws
pub mod ShortestLaws
pub mod DemandLaws
pub mod WorkLaws
