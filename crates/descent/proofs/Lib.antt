pub mod EachLaws
pub mod JointLaws
pub mod OrderLaws
pub mod DescentLaws
pub mod LimitLaws
pub mod RowLaws
pub mod SampleLaws
-- for the proofs of this crate
mod StarLaws
mod TableLaws
mod MatchLaws
mod StepLaws
mod SweepLaws
mod StartLaws
