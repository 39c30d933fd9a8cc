pub mod NamesLemmas
pub mod Stood
pub mod Terms
