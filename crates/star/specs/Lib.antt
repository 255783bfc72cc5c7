pub mod Arcs
pub mod Chains
pub mod Found
pub mod Graphs
pub mod Layout
pub mod Search
pub mod Star
