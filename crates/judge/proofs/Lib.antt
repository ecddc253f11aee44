pub mod Passing
pub mod Lending
