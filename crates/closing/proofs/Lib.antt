pub mod Lending
pub mod Looking
pub mod Giving
pub mod Rounds
