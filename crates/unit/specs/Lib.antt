pub mod Onward
pub mod Clauses
pub mod Queue
