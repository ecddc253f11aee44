pub mod Walking
pub mod Given
pub mod Front
pub mod Nearest
pub mod Members
