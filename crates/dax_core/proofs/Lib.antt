pub mod Stepping
pub mod Running
pub mod Halving
pub mod Outcomes
