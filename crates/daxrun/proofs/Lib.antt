pub mod Told
pub mod Asking
pub mod Opening
pub mod Playing
pub mod PlainGuest
pub mod Playable
pub mod Teams
pub mod Halving
