pub mod RunWords
pub mod Views
