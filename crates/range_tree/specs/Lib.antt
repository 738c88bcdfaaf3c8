pub mod Logs
pub mod Trees
pub mod Behind
pub mod Ranges
pub mod Plain
