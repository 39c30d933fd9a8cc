pub mod Classes
pub mod Kinds
pub mod Numbers
pub mod Pieces
pub mod Reading
pub mod Laws
pub mod From
pub mod Spelling
