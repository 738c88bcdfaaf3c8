pub mod Window
pub mod Good
pub mod Machine
pub mod Laws
pub mod Shown
