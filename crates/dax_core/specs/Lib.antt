pub mod Core
pub mod Events
pub mod Halves
pub mod Laws
pub mod Examples
