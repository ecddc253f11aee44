pub mod Format
pub mod Ready
pub mod Filling
pub mod Reads
