pub mod PickLaws
pub mod MapLaws
pub mod WithoutLaws
pub mod RisingLaws
pub mod StandsLaws
pub mod ClosureLaws
pub mod TestLaws
