pub mod Wholes
pub mod AuditText
pub mod Commands
pub mod RingText
pub mod Run
pub mod Serve
pub mod Show
