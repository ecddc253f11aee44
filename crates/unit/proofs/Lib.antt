pub mod Steps
pub mod Calm
pub mod Scan
pub mod Following
pub mod Changes
