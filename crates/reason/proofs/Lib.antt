pub mod Paths
pub mod Cuts
pub mod Listing
pub mod Answering
pub mod Telling
