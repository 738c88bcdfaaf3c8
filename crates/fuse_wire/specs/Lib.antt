pub mod Attributes
pub mod Errno
pub mod Forgets
pub mod Inits
pub mod Layout
pub mod Mappings
pub mod Opens
pub mod Records
