pub mod Wires
pub mod Keeps
pub mod Requests
pub mod Answers
pub mod Fakes
pub mod Kept
