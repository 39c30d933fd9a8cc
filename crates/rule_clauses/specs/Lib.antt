pub mod Dimacs
pub mod Words
pub mod Answers
pub mod Asked
pub mod Ran
