pub mod Dirents
pub mod Grammar
pub mod Opcodes
pub mod Reading
pub mod Replies
pub mod ReplyReading
