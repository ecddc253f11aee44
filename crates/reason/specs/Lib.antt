pub mod Answers
pub mod Marks
