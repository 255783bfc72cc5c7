pub mod Map
pub mod Standing
