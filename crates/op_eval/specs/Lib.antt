pub mod Calls
pub mod Meaning
pub mod Sizes
pub mod Views
pub mod Word
pub mod Words
pub mod Worked
