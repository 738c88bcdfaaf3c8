pub mod Parts
pub mod Numerals
pub mod CleanWords
pub mod PrintedLines
pub mod HexPairs
pub mod FirstPlaces
