pub mod Answers
pub mod Asking
pub mod Growth
pub mod Moves
pub mod Pairs
pub mod Partial
pub mod Stored
