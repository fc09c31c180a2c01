pub mod Loads
pub mod Pieces
pub mod Writes
