pub mod LeaderLaws
pub mod CountingLaws
pub mod PricedLaws
pub mod FindingLaws
