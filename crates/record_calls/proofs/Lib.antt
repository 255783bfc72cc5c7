-- for the proofs of this crate
mod RecordLaws
mod StepLaws
mod WinnerLaws
mod UpdateLaws
