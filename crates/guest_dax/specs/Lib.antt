pub mod Stands
pub mod Looks
pub mod Reclaims
pub mod Causes
pub mod Pinning
pub mod Freeing
pub mod Turning
