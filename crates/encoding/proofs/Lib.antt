pub mod Each
pub mod Block
pub mod Forced
pub mod Blocks
pub mod Literals
pub mod Sizes
pub mod Continued
pub mod Sample
