pub mod Carried
pub mod Requests
pub mod Session
pub mod Plays
pub mod Run
