pub mod Closed
pub mod Atoms
pub mod Rounds
