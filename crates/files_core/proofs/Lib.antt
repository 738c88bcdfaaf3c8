pub mod Places
pub mod Sizes
pub mod Keeps
pub mod AllKeep
pub mod Starts
pub mod Grows
pub mod Others
