pub mod Entries
pub mod Lengths
pub mod Levels
pub mod Parts
pub mod Sizes
pub mod ReadsBack
