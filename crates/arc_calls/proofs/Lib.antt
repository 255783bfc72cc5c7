-- for the proofs of this crate
mod FindLaws
