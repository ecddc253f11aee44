pub mod Appending
pub mod Rows
pub mod Stepping
pub mod Whole
pub mod Unwritten
