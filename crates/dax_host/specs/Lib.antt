pub mod Queue
pub mod Rounds
pub mod Carrying
pub mod InTurn
pub mod Solo
pub mod Host
pub mod SharedBoards
