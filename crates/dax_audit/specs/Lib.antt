pub mod Items
pub mod Guests
pub mod Rules
pub mod Legal
pub mod Rows
pub mod Found
pub mod Tables
