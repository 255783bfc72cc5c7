pub mod UnpackLaws
pub mod BuildLaws
pub mod RoundTripLaws
