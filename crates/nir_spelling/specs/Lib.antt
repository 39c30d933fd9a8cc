pub mod Laws
pub mod Lexemes
pub mod Resolving
pub mod Spelling
pub mod Worked
