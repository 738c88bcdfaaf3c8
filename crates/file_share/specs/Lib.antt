pub mod Table
pub mod Steps
pub mod Places
pub mod Known
pub mod Boards
pub mod Tries
pub mod Turns
