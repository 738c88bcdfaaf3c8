pub mod Packed
pub mod Table
pub mod Steps
pub mod Known
pub mod Boards
pub mod Turns
