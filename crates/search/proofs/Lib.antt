pub mod Firsts
pub mod Parts
pub mod Trying
