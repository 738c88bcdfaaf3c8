pub mod Finding
pub mod InPage
pub mod Below
pub mod Loading
pub mod Storing
pub mod Names
pub mod Examples
