pub mod Heard
pub mod Stops
pub mod Finishes
pub mod RunLemmas
pub mod TextAnswers
pub mod Checks
