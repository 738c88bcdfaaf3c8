pub mod Files
pub mod Good
pub mod Laws
pub mod Shown
