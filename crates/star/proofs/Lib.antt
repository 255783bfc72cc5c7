pub mod Stores
pub mod ArcLaws
pub mod SearchLaws
pub mod StarLaws
pub mod NetworkLaws
pub mod LayoutLaws
-- for the proofs of this crate
mod ChainLaws
