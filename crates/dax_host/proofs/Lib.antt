pub mod Rounds
pub mod Carrying
pub mod InTurn
pub mod SharedBoards
pub mod SharedTests
