pub mod Appending
pub mod LowOnce
pub mod Rows
pub mod Shapes
pub mod Writing
