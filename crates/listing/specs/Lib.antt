pub mod Text
pub mod Parts
